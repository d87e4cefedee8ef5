use Rattle.std.proofs.Common.{◌++◌, ◌∷◌, [], true, false, length, sym, ap, ◌∙◌, arith}
use Rattle.std.proofs.lemmas.Simd.{length-zip2}
use Rattle.columns.specs.Columns.{bool_unless, bools_of}
use Rattle.columns.specs.Optional.{truth_or_null}
use Rattle.columns.proofs.Zips.{zip2_push}
use Rattle.columns.proofs.Both.{on_both}
use Rattle.columns.proofs.bools.Bools.push.Goals as goal

pub returns-in-Some-clause-ok : goal.returns-in-Some-clause-ok
returns-in-Some-clause-ok g c =
    let trues = c.self.inside.trues in
    let bits = c.self.inside.nulls in
    on_both c.push_bits.result _ _ _
    (λ v n. (λ i. bools_of (v i) (n i)) ∙ zip2_push bool_unless trues bits c.in-Some.truth false c.self.invariant
    ∙ (λ i. c.self.view_is i ++ ap truth_or_null (sym c.in-Some.is) i ∷ []))
    c.push_bits.ensures.trues c.push_bits.ensures.nulls

pub returns-in-None-clause-ok : goal.returns-in-None-clause-ok
returns-in-None-clause-ok g c =
    let trues = c.self.inside.trues in
    let bits = c.self.inside.nulls in
    on_both c.push_bits-in-None.result _ _ _
    (λ v n. (λ i. bools_of (v i) (n i)) ∙ zip2_push bool_unless trues bits false true c.self.invariant
    ∙ (λ i. c.self.view_is i ++ ap truth_or_null (sym c.in-None.is) i ∷ []))
    c.push_bits-in-None.ensures.trues c.push_bits-in-None.ensures.nulls

pub push_bits-requires-clause-room : goal.push_bits-requires-clause-room
push_bits-requires-clause-room g c = omega (arith, c.requires, ap length c.self.view_is, length-zip2 bool_unless c.self.inside.trues c.self.inside.nulls (sym c.self.invariant))

pub push_bits-requires-clause-null_room : goal.push_bits-requires-clause-null_room
push_bits-requires-clause-null_room g c = omega (arith, c.requires, ap length c.self.view_is, length-zip2 bool_unless c.self.inside.trues c.self.inside.nulls (sym c.self.invariant), c.self.invariant)

pub push_bits-requires-in-None-clause-room : goal.push_bits-requires-in-None-clause-room
push_bits-requires-in-None-clause-room g c = omega (arith, c.requires, ap length c.self.view_is, length-zip2 bool_unless c.self.inside.trues c.self.inside.nulls (sym c.self.invariant))

pub push_bits-requires-in-None-clause-null_room : goal.push_bits-requires-in-None-clause-null_room
push_bits-requires-in-None-clause-null_room g c = omega (arith, c.requires, ap length c.self.view_is, length-zip2 bool_unless c.self.inside.trues c.self.inside.nulls (sym c.self.invariant), c.self.invariant)
