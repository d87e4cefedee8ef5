use Rattle.std.proofs.Common.{◌++◌, ap, ◌∙◌}
use Rattle.std.proofs.lemmas.Result.{on_ok_weaker}
use Rattle.std.specs.Prelude.{codes}
use Rattle.std.specs.Fmt.{decimal}
use Rattle.engine.specs.Audits.{reason_number}
use Rattle.engine.proofs.Texts.{five_parts}
use Rattle.engine.proofs.verifying.push_refusal.Goals as goal

pub returns : goal.returns
returns g c =
    on_ok_weaker c.push_str-3.result
    (λ last. five_parts (codes "refused line ") (decimal c.args.refusal.line) (codes " reason ") (decimal (reason_number c.args.refusal.reason)) (codes "\n") c.args.out.now.items
    c.push_str.new.out.items c.push_number.new.out.items c.push_str-2.new.out.items c.push_number-2.new.out.items c.push_str-3.new.out.items c.in_ok-push_str.ensures c.in_ok-push_number.ensures
    c.in_ok-push_str-2.ensures (c.in_ok-push_number-2.ensures ∙ ap (λ n. c.push_str-2.new.out.items ++ decimal n) c.reason_number.ensures) last)
    c.push_str-3.ensures
