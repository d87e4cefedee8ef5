use Rattle.std.proofs.Common.{◌++◌, ◌∷◌, [], ◌+◌, List, length, true, ap, ◌∙◌}
use Rattle.value.specs.Datum.{Datum, null}
use Rattle.columns.proofs.TextColumns.{more_view, more_good, no_text}
use Rattle.columns.proofs.texts.Texts.push_null.Goals as goal

pub invariant_of-self-2 : goal.invariant_of-self-2
invariant_of-self-2 g c =
    let old = c.self.inside in
    let done = c.in_ok-push_all.ensures in
    let same = c.as_slice.ensures in
    more_good old.bytes.items old.ends.items old.nulls c.self.invariant [] true c.push_all.new.bytes.items c.push_all.new.ends.items c.push_all.new.nulls
    (done.bytes ∙ ap (λ l. old.bytes.items ++ l) same) (done.ends ∙ ap (λ l. old.ends.items ++ (length old.bytes.items + length l) ∷ []) same) done.nulls no_text

pub returns-clause-ok : goal.returns-clause-ok
returns-clause-ok g c =
    let old = c.self.inside in
    let done = c.in_ok-push_all.ensures in
    let same = c.as_slice.ensures in
    more_view old.bytes.items old.ends.items old.nulls c.self.invariant [] true c.push_all.new.bytes.items c.push_all.new.ends.items c.push_all.new.nulls
    (done.bytes ∙ ap (λ l. old.bytes.items ++ l) same) (done.ends ∙ ap (λ l. old.ends.items ++ (length old.bytes.items + length l) ∷ []) same) done.nulls
    ∙ ap (λ (l : List Datum). l ++ null ∷ []) c.self.view_is
