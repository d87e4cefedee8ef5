-- The test of two terms holds exactly where they are equal.
use Rattle.std.proofs.Common.{◌≡◌, ◌∙◌, sym, ap, ap₂, refl, ℕ, true, ◌==◌, ◌&&◌, List, [], ◌∷◌}
use Rattle.std.proofs.lemmas.Bool.{eqb-true, eq-eqb}
use Rattle.expr.specs.Bound.{BoundExpr}
use Rattle.predicates.proofs.Movables.{and_left, and_right}
use Rattle.predicates.specs.Same.{same}
use Rattle.predicates.proofs.Keeping.{both}
use Rattle.predicates.proofs.Equal as conditions
use Rattle.row_terms.specs.Terms.{Term, Raw, Guarded, Filtered, Joined, LeftJoined, Empty}
use Rattle.trailcheck.specs.SameTerm.{same_entries, same_term, SameTermIsEqual}

entries_exact : (is js : List ℕ) → same_entries is js ≡ true → is ≡ js
entries_exact [] [] h = refl
entries_exact (i ∷ is) (j ∷ js) h = ap₂ ◌∷◌ (eqb-true i j (and_left (i == j) (same_entries is js) h)) (entries_exact is js (and_right (i == j) (same_entries is js) h))
entries_exact [] (j ∷ js) h = absurd (cc)
entries_exact (i ∷ is) [] h = absurd (cc)

entries_themselves : (is : List ℕ) → same_entries is is ≡ true
entries_themselves [] = refl
entries_themselves (i ∷ is) = both (i == i) (same_entries is is) (eq-eqb i i refl) (entries_themselves is)

left_joined : {e f : BoundExpr} {x y u v : Term} → e ≡ f → x ≡ u → y ≡ v → LeftJoined e x y ≡ LeftJoined f u v
left_joined {e} {f} {x} {y} {u} {v} p q r = ap (λ on. LeftJoined on x y) p ∙ ap₂ (LeftJoined f) q r

pub exact : (x y : Term) → same_term x y ≡ true → x ≡ y
exact (Raw i) (Raw j) h = ap Raw (eqb-true i j h)
exact (Guarded i x) (Guarded j y) h = ap₂ Guarded (eqb-true i j (and_left (i == j) (same_term x y) h)) (exact x y (and_right (i == j) (same_term x y) h))
exact (Filtered e x) (Filtered f y) h = ap₂ Filtered ((conditions.decides e f).so (and_left (same e f) (same_term x y) h)) (exact x y (and_right (same e f) (same_term x y) h))
exact (Joined x y) (Joined u v) h = ap₂ Joined (exact x u (and_left (same_term x u) (same_term y v) h)) (exact y v (and_right (same_term x u) (same_term y v) h))
exact (LeftJoined e x y) (LeftJoined f u v) h =
    let sides = and_right (same e f) (same_term x u && same_term y v) h in
    left_joined ((conditions.decides e f).so (and_left (same e f) (same_term x u && same_term y v) h)) (exact x u (and_left (same_term x u) (same_term y v) sides)) (exact y v (and_right (same_term x u) (same_term y v) sides))
exact (Empty is) (Empty js) h = ap Empty (entries_exact is js h)
exact _ _ h = absurd (cc)

itself : (x : Term) → same_term x x ≡ true
itself (Raw i) = eq-eqb i i refl
itself (Guarded i x) = both (i == i) (same_term x x) (eq-eqb i i refl) (itself x)
itself (Filtered e x) = both (same e e) (same_term x x) ((conditions.decides e e).if_so refl) (itself x)
itself (Joined x y) = both (same_term x x) (same_term y y) (itself x) (itself y)
itself (LeftJoined e x y) = both (same e e) (same_term x x && same_term y y) ((conditions.decides e e).if_so refl) (both (same_term x x) (same_term y y) (itself x) (itself y))
itself (Empty is) = entries_themselves is

pub decides : SameTermIsEqual
decides x y = record { so = exact x y; if_so = λ q. ap (same_term x) (sym q) ∙ itself x }
