use denote.Ref.{Bor}
use Rattle.std.proofs.Common.{ℕ, List, sym, ap, ◌∙◌}
use Rattle.std.proofs.lemmas.Bool.{ltb-true, ltb-false}
use Rattle.plan_texts.specs.PlanTexts.{or_nothing}
use Rattle.plan_trees.proofs.Items.{item_is, no_item}
use Rattle.plan_trees.proofs.names.table_name.Goals as goal

pub returns-in-Some : goal.returns-in-Some
returns-in-Some c =
    let is = item_is (λ (t : Bor (List ℕ)). t.now) c.args.tables.now c.args.entry _ c.if-entry-eq0.false (ltb-true _ _ (sym c.in-Some.ensures.lookup.0)) in
    ap (λ (t : Bor (List ℕ)). t.now) c.in-Some.ensures.lookup.1 ∙ sym (ap or_nothing is)

pub returns-in-None : goal.returns-in-None
returns-in-None c = sym (ap or_nothing (no_item (λ (t : Bor (List ℕ)). t.now) c.args.tables.now c.args.entry c.if-entry-eq0.false (ltb-false _ _ (sym c.in-None.ensures.lookup.0))))
