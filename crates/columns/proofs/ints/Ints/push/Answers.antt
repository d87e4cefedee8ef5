use Rattle.std.proofs.Common.{◌++◌, ◌∷◌, [], ℤ, true, false, sym, ap, ◌∙◌, rules, pos, FitsSigned, to_z, of_z, w64}
use Rattle.std.proofs.lemmas.Int.{to_z-of_z}
use Rattle.columns.specs.Columns.{int_unless, ints_of}
use Rattle.value.specs.Datum.{int}
use Rattle.columns.specs.Optional.{number_or_null}
use Rattle.columns.proofs.Zips.{zip2_push}
use Rattle.columns.proofs.Both.{on_both}
use Rattle.columns.proofs.ints.Ints.push.Goals as goal

pub returns-in-Some-clause-ok : goal.returns-in-Some-clause-ok
returns-in-Some-clause-ok g c =
    let fits : FitsSigned w64 c.in-Some.number = search rules in
    let zs = c.self.inside.values.items in
    let bits = c.self.inside.nulls in
    on_both c.push_both.result _ _ _
    (λ v n. (λ i. ints_of (v i) (n i)) ∙ zip2_push int_unless zs bits (to_z w64 (of_z w64 c.in-Some.number)) false c.self.invariant
    ∙ (λ i. c.self.view_is i ++ (ap (λ (z : ℤ). int z) (to_z-of_z w64 c.in-Some.number fits) ∙ ap number_or_null (sym c.in-Some.is)) i ∷ []))
    c.push_both.ensures.values c.push_both.ensures.nulls

pub returns-in-None-clause-ok : goal.returns-in-None-clause-ok
returns-in-None-clause-ok g c =
    let zs = c.self.inside.values.items in
    let bits = c.self.inside.nulls in
    on_both c.push_both-in-None.result _ _ _
    (λ v n. (λ i. ints_of (v i) (n i)) ∙ zip2_push int_unless zs bits (pos 0) true c.self.invariant
    ∙ (λ i. c.self.view_is i ++ ap number_or_null (sym c.in-None.is) i ∷ []))
    c.push_both-in-None.ensures.values c.push_both-in-None.ensures.nulls
