use Rattle.std.proofs.Common.{sym, ap, ◌∙◌}
use Rattle.std.proofs.lemmas.Bool.{ltb-true, ltb-false}
use Rattle.plan_texts.specs.PlanTexts.{column_of, item_at, or_nothing}
use Rattle.plan_texts.specs.View.{plan_entry_of}
use Rattle.plan_trees.proofs.Items.{item_is, no_item}
use Rattle.plan_trees.proofs.names.column_name.Goals as goal

pub returns-in-Some : goal.returns-in-Some
returns-in-Some g c =
    let is = item_is plan_entry_of c.args.entries.now c.args.entry _ c.if-entry-eq0.false (ltb-true _ _ (sym c.in-Some.ensures.lookup.0)) in
    c.name.ensures ∙ ap (λ names. or_nothing (item_at names c.args.column)) (c.as_slice.ensures ∙ ap (λ e. e.columns) c.in-Some.ensures.lookup.1) ∙ sym (ap (λ o. column_of o c.args.column) is)

pub returns-in-None : goal.returns-in-None
returns-in-None g c = sym (ap (λ o. column_of o c.args.column) (no_item plan_entry_of c.args.entries.now c.args.entry c.if-entry-eq0.false (ltb-false _ _ (sym c.in-None.ensures.lookup.0))))
