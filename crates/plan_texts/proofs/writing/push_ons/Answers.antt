use Rattle.std.proofs.Common.{◌≡◌, ◌++◌, [], drop, map, sym, ap, ◌∙◌, arith}
use Rattle.std.proofs.Math.ListN.{drop_of_length-le}
use Rattle.std.proofs.lemmas.List.{append-nil}
use Rattle.plan_texts.specs.PlanTexts.{on_text, text_of_lines}
use Rattle.plan_texts.specs.View.{on_of, plan_entry_of}
use Rattle.plan_texts.proofs.Written.{on_next}
use Rattle.plan_texts.proofs.writing.push_ons.Goals as goal

pub loop-on-preserved : goal.loop-on-preserved
loop-on-preserved g c =
    on_next (map plan_entry_of c.args.entries.now) on_of c.args.ons.now c.loop-on.on-index c.on-item.result c.loop-on.out.items c.push_on.new.out.items c.push_str.new.out.items _ c.loop-on-test.true c.on-item.is c.in_ok-push_on.ensures c.in_ok-push_str.ensures
    c.loop-on.invariant

pub returns : goal.returns
returns g c =
    let over : drop c.loop-on.on-index c.args.ons.now ≡ [] = drop_of_length-le c.args.ons.now (omega (arith, c.loop-on-test.false)) in
    sym (append-nil c.loop-on.out.items) ∙ ap (λ os. c.loop-on.out.items ++ text_of_lines (map (on_text (map plan_entry_of c.args.entries.now)) (map on_of os))) (sym over) ∙ c.loop-on.invariant
