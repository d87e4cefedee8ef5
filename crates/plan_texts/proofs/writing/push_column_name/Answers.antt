use Rattle.std.proofs.Common.{◌++◌, sym, ap, ◌∙◌}
use Rattle.std.proofs.lemmas.Bool.{ltb-true, ltb-false}
use Rattle.std.proofs.lemmas.List.{append-nil}
use Rattle.std.proofs.lemmas.Result.{on_ok_weaker}
use Rattle.plan_texts.specs.PlanTexts.{column_of, item_at, or_nothing}
use Rattle.plan_texts.proofs.Entries.{entry_is, no_entry}
use Rattle.plan_texts.proofs.writing.push_column_name.Goals as goal

pub returns-in-Some : goal.returns-in-Some
returns-in-Some g c =
    let is = entry_is c.args.entries.now c.args.entry _ c.if-entry-eq0.false (ltb-true _ _ (sym c.in-Some.ensures.lookup.0)) in
    on_ok_weaker c.push_name.result
    (λ last. last ∙ ap (λ t. c.args.out.now.items ++ t) (ap (λ names. or_nothing (item_at names c.args.column)) (c.as_slice.ensures ∙ ap (λ e. e.columns) c.in-Some.ensures.lookup.1) ∙ sym (ap (λ o. column_of o c.args.column) is)))
    c.push_name.ensures

pub returns-in-None : goal.returns-in-None
returns-in-None g c =
    sym (append-nil c.args.out.now.items)
    ∙ ap (λ t. c.args.out.now.items ++ t) (sym (ap (λ o. column_of o c.args.column) (no_entry c.args.entries.now c.args.entry c.if-entry-eq0.false (ltb-false _ _ (sym c.in-None.ensures.lookup.0)))))
