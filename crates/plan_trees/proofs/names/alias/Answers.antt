use Rattle.std.proofs.Common.{sym, ap, ◌∙◌}
use Rattle.std.proofs.lemmas.Bool.{ltb-true, ltb-false}
use Rattle.plan_texts.specs.PlanTexts.{alias_of}
use Rattle.plan_texts.specs.View.{plan_entry_of}
use Rattle.plan_trees.proofs.Items.{item_is, no_item}
use Rattle.plan_trees.proofs.names.alias.Goals as goal

pub returns-in-Some : goal.returns-in-Some
returns-in-Some g c =
    let is = item_is plan_entry_of c.args.entries.now c.args.entry _ c.if-entry-eq0.false (ltb-true _ _ (sym c.in-Some.ensures.lookup.0)) in
    c.as_str.ensures ∙ ap (λ e. e.alias) c.in-Some.ensures.lookup.1 ∙ sym (ap alias_of is)

pub returns-in-None : goal.returns-in-None
returns-in-None g c = sym (ap alias_of (no_item plan_entry_of c.args.entries.now c.args.entry c.if-entry-eq0.false (ltb-false _ _ (sym c.in-None.ensures.lookup.0))))
