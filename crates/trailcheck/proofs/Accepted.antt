-- An accepted trail shows that the written term and the shape mean the same.
use Rattle.std.proofs.Common.{◌≡◌, ap, refl, subst, ℕ, ◌+◌, nat_le, Bool, true, false, List, [], ◌∷◌, length, Result, Ok, Err, if◌then◌else◌}
use Rattle.std.specs.List.Sorted.{IsPermutation}
use Rattle.std.proofs.lemmas.List.Sorted.{IsPermutation-refl, IsPermutation-trans}
use Rattle.memory.specs.Results.{and_then}
use Rattle.tuples.specs.Guards.{Guard}
use Rattle.row_terms.specs.Terms.{Term}
use Rattle.row_terms.specs.Means.{mean}
use Rattle.algebra.specs.Keeping.{MeanSame, is_movable_term}
use Rattle.algebra.specs.Rewrites.{applied}
use Rattle.algebra.specs.Rules as algebra
use Rattle.algebra.specs.Steps.{Step}
use Rattle.algebra.proofs.Law.{steps_keep}
use Rattle.trailcheck.specs.declared.verdict.Reason.TheVariants.{End}
use Rattle.trailcheck.specs.declared.verdict.Verdict.{Verdict}
use Rattle.trailcheck.specs.declared.verdict.Verdict.TheVariants.{Accepted, Refused}
use Rattle.trailcheck.specs.declared.verdict.Refusal.{Refusal}
use Rattle.trailcheck.specs.Admissible.{is_admissible}
use Rattle.trailcheck.specs.Limits.{most_steps, is_within_nodes}
use Rattle.trailcheck.specs.Replays.{Replayed, within_limits, stepped, replay}
use Rattle.trailcheck.specs.SameTerm.{same_term}
use Rattle.trailcheck.specs.Shapes.{shape}
use Rattle.trailcheck.specs.Verdicts.{compared, AcceptedMeansSame}
use Rattle.trailcheck.proofs.Same.{exact}

is_made : (x y : Term) → ◌≡◌ {A = Replayed} (Ok x) (Ok y) → x ≡ y
is_made x y h = cc

if_taken : {X : Type 0} (b : Bool) (r : X) (e : Refusal) (y : X) → ◌≡◌ {A = Result X Refusal} (if b then Ok r else Err e) (Ok y) → r ≡ y
if_taken true r e y h = cc
if_taken false r e y h = absurd (cc)

-- a step within the limits is one of the algebra
limited : (line : ℕ) (o : algebra.Outcome) (y : Term) → within_limits line o ≡ Ok y → o ≡ Ok y
limited line (Ok x) y h = ap Ok (if_taken (is_within_nodes x) x _ y h)
limited line (Err reason) y h = absurd (cc)

within : (b : Bool) (r : Replayed) (e : Refusal) (y : Term) → (if b then r else Err e) ≡ Ok y → r ≡ Ok y
within true r e y h = h
within false r e y h = absurd (cc)

step_made : (frame : List Guard) (line : ℕ) (s : Step) (x y : Term) → stepped frame line s x ≡ Ok y → applied frame s x ≡ Ok y
step_made frame line s x y h = limited line (applied frame s x) y (within (nat_le line most_steps) (within_limits line (applied frame s x)) _ y h)

-- a trail keeps the bag
trail_keeps : (frame : List Guard) (trail : List Step) (line : ℕ) (x y : Term) → is_movable_term x ≡ true → replay frame line trail x ≡ Ok y → MeanSame frame x y
trail_keeps frame [] line x y m h = λ w has. subst (λ z. IsPermutation (mean w x) (mean w z)) (is_made x y h) (IsPermutation-refl (mean w x))
trail_keeps frame (s ∷ ss) line x y m h = at (stepped frame line s x) refl h (λ z n k. trail_keeps frame ss (line + 1) z y n k)
  where
    at : (r : Replayed) → stepped frame line s x ≡ r → and_then r (replay frame (line + 1) ss) ≡ Ok y → ((z : Term) → is_movable_term z ≡ true → replay frame (line + 1) ss z ≡ Ok y → MeanSame frame z y) → MeanSame frame x y
    at (Ok z) e k rest =
        let kept = steps_keep frame s x z m (step_made frame line s x z e) in
        λ w has. IsPermutation-trans (mean w x) (mean w z) (mean w y) (kept.1 w has) (rest z kept.0 k w has)
    at (Err refusal) e k rest = absurd (cc)

reached : (steps : ℕ) (wanted : Term) (r : Replayed) → compared steps wanted r ≡ Accepted → r ≡ Ok wanted
reached steps wanted (Ok x) h = at (same_term x wanted) refl h
  where
    at : (b : Bool) → same_term x wanted ≡ b → (if b then Accepted else Refused record { line = steps + 1; reason = End }) ≡ Accepted → ◌≡◌ {A = Replayed} (Ok x) (Ok wanted)
    at true e k = ap Ok (exact x wanted e)
    at false e k = absurd (cc)
reached steps wanted (Err refusal) h = absurd (cc)

admitted : (b : Bool) (v : Verdict) (e : Refusal) → (if b then v else Refused e) ≡ Accepted → v ≡ Accepted
admitted true v e h = h
admitted false v e h = absurd (cc)

pub accepted_means_same : AcceptedMeansSame
accepted_means_same at written trail code m h =
    trail_keeps at.frame trail 1 written (shape at code) m
    (reached (length trail) (shape at code) (replay at.frame 1 trail written) (admitted (is_admissible at code) (compared (length trail) (shape at code) (replay at.frame 1 trail written)) _ h))
