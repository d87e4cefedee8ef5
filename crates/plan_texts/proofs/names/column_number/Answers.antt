use Rattle.std.proofs.Common.{sym, ap, ◌∙◌}
use Rattle.std.proofs.lemmas.Bool.{ltb-true, ltb-false}
use Rattle.plan_texts.specs.Reading.{number_of}
use Rattle.plan_texts.proofs.Entries.{columns_of, none_of}
use Rattle.plan_texts.proofs.names.column_number.Goals as goal

pub returns-in-Some : goal.returns-in-Some
returns-in-Some g c =
    c.number_of.ensures
    ∙ ap (λ names. number_of names c.args.name.now)
    (c.as_slice.ensures ∙ ap (λ e. e.columns) c.in-Some.ensures.lookup.1 ∙ sym (columns_of c.args.entries.now c.args.entry _ c.if-entry-eq0.false (ltb-true _ _ (sym c.in-Some.ensures.lookup.0))))

pub returns-in-None : goal.returns-in-None
returns-in-None g c = sym (ap (λ names. number_of names c.args.name.now) (none_of c.args.entries.now c.args.entry c.if-entry-eq0.false (ltb-false _ _ (sym c.in-None.ensures.lookup.0))))
