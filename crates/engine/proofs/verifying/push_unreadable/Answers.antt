use Rattle.std.proofs.lemmas.Result.{on_ok_weaker}
use Rattle.std.specs.Prelude.{codes}
use Rattle.std.specs.Fmt.{decimal}
use Rattle.engine.proofs.Texts.{three_parts}
use Rattle.engine.proofs.verifying.push_unreadable.Goals as goal

pub returns : goal.returns
returns g c =
    on_ok_weaker c.push_str-2.result
    (λ last. three_parts (codes "unreadable line ") (decimal c.args.line) (codes "\n") c.args.out.now.items c.push_str.new.out.items c.push_number.new.out.items c.push_str-2.new.out.items
    c.in_ok-push_str.ensures c.in_ok-push_number.ensures last)
    c.push_str-2.ensures
