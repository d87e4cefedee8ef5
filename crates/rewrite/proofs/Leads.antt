-- Steps after steps, and steps further down a term.
use Rattle.std.proofs.Common.{◌≡◌, refl, ap, ◌∙◌, ℕ, Bool, true, false, List, [], ◌∷◌, ◌++◌, length, Ok, Err, if◌then◌else◌}
use Rattle.memory.specs.Results.{and_then}
use Rattle.expr.specs.Bound.{BoundExpr}
use Rattle.tuples.specs.Guards.{Guard}
use Rattle.row_terms.specs.declared.path.Branch.{Branch}
use Rattle.row_terms.specs.declared.path.Branch.TheVariants.{First, Second}
use Rattle.row_terms.specs.Terms.{Term, Guarded, Filtered, Joined, LeftJoined}
use Rattle.row_terms.specs.Written.{filters}
use Rattle.algebra.specs.Rewrites.{applied, inside}
use Rattle.algebra.specs.Rules.{Outcome}
use Rattle.algebra.specs.Steps.{Step}
use Rattle.rewrite.specs.Trails.{led, down, all_down, below_filters}

module _ (frame : List Guard) where
  -- steps after steps
  pub led_then : (ss ts : List Step) (x y : Term) → led frame ss x ≡ Ok y → led frame (ss ++ ts) x ≡ led frame ts y
  led_then [] ts x y e = ap (λ o. and_then o (led frame ts)) e
  led_then (s ∷ ss) ts x y e = go (applied frame s x) e (λ z h. led_then ss ts z y h)
    where
      go : (o : Outcome) → and_then o (led frame ss) ≡ Ok y → ((z : Term) → led frame ss z ≡ Ok y → led frame (ss ++ ts) z ≡ led frame ts y) → and_then o (led frame (ss ++ ts)) ≡ led frame ts y
      go (Ok z) h rest = rest z h
      go (Err reason) h rest = absurd (cc)

  -- steps that are there where a test holds
  pub led_if : (b : Bool) (ss : List Step) (x y : Term) → led frame ss x ≡ Ok y → led frame (if b then ss else []) x ≡ Ok (if b then y else x)
  led_if true ss x y h = h
  led_if false ss x y h = refl

  -- a step below a branch changes what the branch leads to
  module _ (b : Branch) (f : Term → Term) (lifts : (s : Step) (x : Term) → applied frame (down b s) (f x) ≡ inside f (applied frame s x)) where
    led_inside : (ss : List Step) (x y : Term) → led frame ss x ≡ Ok y → led frame (all_down b ss) (f x) ≡ Ok (f y)
    led_inside [] x y e = ap (inside f) e
    led_inside (s ∷ ss) x y e = ap (λ o. and_then o (led frame (all_down b ss))) (lifts s x) ∙ go (applied frame s x) e (λ z h. led_inside ss z y h)
      where
        go : (o : Outcome) → and_then o (led frame ss) ≡ Ok y → ((z : Term) → led frame ss z ≡ Ok y → led frame (all_down b ss) (f z) ≡ Ok (f y)) → and_then (inside f o) (led frame (all_down b ss)) ≡ Ok (f y)
        go (Ok z) h rest = rest z h
        go (Err reason) h rest = absurd (cc)

  pub led_filter : (e : BoundExpr) (ss : List Step) (x y : Term) → led frame ss x ≡ Ok y → led frame (all_down First ss) (Filtered e x) ≡ Ok (Filtered e y)
  led_filter e = led_inside First (Filtered e) (λ s x. refl)

  pub led_guard : (i : ℕ) (ss : List Step) (x y : Term) → led frame ss x ≡ Ok y → led frame (all_down First ss) (Guarded i x) ≡ Ok (Guarded i y)
  led_guard i = led_inside First (Guarded i) (λ s x. refl)

  pub led_left : (z : Term) (ss : List Step) (x y : Term) → led frame ss x ≡ Ok y → led frame (all_down First ss) (Joined x z) ≡ Ok (Joined y z)
  led_left z = led_inside First (λ x. Joined x z) (λ s x. refl)

  pub led_right : (z : Term) (ss : List Step) (x y : Term) → led frame ss x ≡ Ok y → led frame (all_down Second ss) (Joined z x) ≡ Ok (Joined z y)
  led_right z = led_inside Second (Joined z) (λ s x. refl)

  pub led_kept : (on : BoundExpr) (z : Term) (ss : List Step) (x y : Term) → led frame ss x ≡ Ok y → led frame (all_down First ss) (LeftJoined on x z) ≡ Ok (LeftJoined on y z)
  led_kept on z = led_inside First (λ x. LeftJoined on x z) (λ s x. refl)

  pub led_side : (on : BoundExpr) (z : Term) (ss : List Step) (x y : Term) → led frame ss x ≡ Ok y → led frame (all_down Second ss) (LeftJoined on z x) ≡ Ok (LeftJoined on z y)
  led_side on z = led_inside Second (LeftJoined on z) (λ s x. refl)

  pub led_filters : (es : List BoundExpr) (ss : List Step) (x y : Term) → led frame ss x ≡ Ok y → led frame (below_filters (length es) ss) (filters es x) ≡ Ok (filters es y)
  led_filters [] ss x y h = h
  led_filters (e ∷ es) ss x y h = led_filters es (all_down First ss) (Filtered e x) (Filtered e y) (led_filter e ss x y h)
