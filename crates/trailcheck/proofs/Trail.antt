-- One step of a trail.
use Rattle.std.proofs.Common.{◌≡◌, ℕ, suc, ◌+◌, ◌<◌, length, get_or, drop, drop-cons, List, ◌∷◌, map, Ok, refl, sym, ap, ◌∙◌, arith}
use Rattle.memory.specs.Gives.{IsFailure}
use Rattle.memory.specs.Results.{and_then}
use Rattle.memory.specs.declared.failure.Failure.{Failure}
use Rattle.memory.specs.declared.failure.Failure.TheVariants.{Error, OutOfMemory}
use Rattle.tuples.specs.Guards.{Guard}
use Rattle.row_terms.specs.Terms.{Term}
use Rattle.algebra.specs.Steps.{Step}
use Rattle.trailcheck.specs.declared.verdict.Refusal.{Refusal}
use Rattle.trailcheck.specs.Replays.{Replayed, stepped, replay}

module _ {S : Type 0} (view : S → Step) (frame : List Guard) (trail : List S) (i : ℕ) (x : Term) (whole : Replayed) (so_far : replay frame (i + 1) (map view (drop i trail)) x ≡ whole) where
  module _ (s : S) (more : i < length trail) (is : s ≡ get_or trail i s) where
    next : and_then (stepped frame (i + 1) (view s) x) (replay frame (i + 1 + 1) (map view (drop (i + 1) trail))) ≡ whole
    next =
        let e : i + 1 ≡ suc i = omega arith in
        let d : drop i trail ≡ get_or trail i s ∷ drop (i + 1) trail = rw (e, drop-cons trail i s more) refl in
        ap (λ t. and_then (stepped frame (i + 1) (view t) x) (replay frame (i + 1 + 1) (map view (drop (i + 1) trail)))) is
        ∙ sym (ap (λ l. replay frame (i + 1) (map view l) x) d) ∙ so_far

    pub goes_on : (y : Term) → stepped frame (i + 1) (view s) x ≡ Ok y → replay frame (i + 1 + 1) (map view (drop (i + 1) trail)) y ≡ whole
    goes_on y h = sym (ap (λ r. and_then r (replay frame (i + 1 + 1) (map view (drop (i + 1) trail)))) h) ∙ next

    pub stops : (f : Failure Refusal) → IsFailure f (stepped frame (i + 1) (view s) x) → IsFailure f whole
    stops (Error refusal) h = sym next ∙ ap (λ r. and_then r (replay frame (i + 1 + 1) (map view (drop (i + 1) trail)))) h
    stops OutOfMemory h = tt
