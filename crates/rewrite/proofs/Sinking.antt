-- Conditions on their way down a term.
use Rattle.std.proofs.Common.{◌≡◌, ◌∙◌, refl, ap, ℕ, Bool, true, false, List, [], ◌∷◌, length, Ok, if◌then◌else◌}
use Rattle.memory.specs.Results.{and_then}
use Rattle.expr.specs.Bound.{BoundExpr}
use Rattle.tuples.specs.Guards.{Guard}
use Rattle.row_terms.specs.declared.path.Branch.TheVariants.{First, Second}
use Rattle.row_terms.specs.Terms.{Term, Raw, Guarded, Filtered, Joined, LeftJoined, Empty}
use Rattle.row_terms.specs.Written.{filters}
use Rattle.algebra.specs.Rules.{where_met}
use Rattle.algebra.specs.Runs.{reads_only}
use Rattle.trailcheck.specs.Entries.{is_over}
use Rattle.rewrite.specs.Trails.{led, at_root, all_down, below_filters}
use Rattle.rewrite.specs.Placing.{passes, sunk, sinking, settled, settling, all_settled, settling_all}
use Rattle.rewrite.proofs.Leads.{led_then, led_if, led_filter, led_guard, led_left, led_right, led_kept, led_filters}

module _ (frame : List Guard) (count : ℕ) where
  -- one condition that is on top of a term
  pub sinks : (e : BoundExpr) (x : Term) → led frame (sinking count e x) (Filtered e x) ≡ Ok (sunk count e x)
  sinks e (Raw i) = refl
  sinks e (Empty is) = refl
  sinks e (Filtered a x) =
      led_if frame (passes count e a x) (at_root 3 ∷ all_down First (sinking count e x)) (Filtered e (Filtered a x)) (Filtered a (sunk count e x))
      (led_filter frame a (sinking count e x) (Filtered e x) (sunk count e x) (sinks e x))
  sinks e (Guarded i x) = led_guard frame i (sinking count e x) (Filtered e x) (sunk count e x) (sinks e x)
  sinks e (Joined x y) = at (reads_only x e) (reads_only y e) refl refl (sinks e x) (sinks e y)
    where
      at : (b c : Bool) → reads_only x e ≡ b → reads_only y e ≡ c → led frame (sinking count e x) (Filtered e x) ≡ Ok (sunk count e x) → led frame (sinking count e y) (Filtered e y) ≡ Ok (sunk count e y) →
          led frame (if b then at_root 4 ∷ all_down First (sinking count e x) else if c then at_root 5 ∷ all_down Second (sinking count e y) else []) (Filtered e (Joined x y))
          ≡ Ok (if b then Joined (sunk count e x) y else if c then Joined x (sunk count e y) else Filtered e (Joined x y))
      at true c p q h k =
          ap (λ m. and_then (where_met m (Joined (Filtered e x) y)) (led frame (all_down First (sinking count e x)))) p
          ∙ led_left frame y (sinking count e x) (Filtered e x) (sunk count e x) h
      at false true p q h k =
          ap (λ m. and_then (where_met m (Joined x (Filtered e y))) (led frame (all_down Second (sinking count e y)))) q
          ∙ led_right frame x (sinking count e y) (Filtered e y) (sunk count e y) k
      at false false p q h k = refl
  sinks e (LeftJoined on x y) = at (reads_only x e) refl (sinks e x)
    where
      at : (b : Bool) → reads_only x e ≡ b → led frame (sinking count e x) (Filtered e x) ≡ Ok (sunk count e x) →
          led frame (if b then at_root 20 ∷ all_down First (sinking count e x) else []) (Filtered e (LeftJoined on x y)) ≡ Ok (if b then LeftJoined on (sunk count e x) y else Filtered e (LeftJoined on x y))
      at true p h =
          ap (λ m. and_then (where_met m (LeftJoined on (Filtered e x) y)) (led frame (all_down First (sinking count e x)))) p
          ∙ led_kept frame on y (sinking count e x) (Filtered e x) (sunk count e x) h
      at false p h = refl

  pub settles : (e : BoundExpr) (x : Term) → led frame (settling count e x) (Filtered e x) ≡ Ok (settled count e x)
  settles e x = led_if frame (is_over count e) (sinking count e x) (Filtered e x) (sunk count e x) (sinks e x)

  -- one condition after another, each on top of a term under the others
  pub all_settle : (es : List BoundExpr) (x : Term) → led frame (settling_all count es x) (filters es x) ≡ Ok (all_settled count es x)
  all_settle [] x = refl
  all_settle (e ∷ es) x =
      led_then frame (below_filters (length es) (settling count e x)) (settling_all count es (settled count e x)) (filters es (Filtered e x)) (filters es (settled count e x))
      (led_filters frame es (settling count e x) (Filtered e x) (settled count e x) (settles e x))
      ∙ all_settle es (settled count e x)
