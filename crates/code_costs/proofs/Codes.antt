-- What is said of a code that a plan may have.
use Rattle.std.proofs.Common.{◌≡◌, ℕ, zero, suc, ◌+◌, ◌-◌, ◌≤◌, true, false, not, ◌&&◌, ◌==◌, List, [], ◌∷◌, ◌++◌, length, take, drop, sym, ap, ◌∙◌, subst, arith, length-append, eqb-true}
use Rattle.std.proofs.lemmas.Bool.{and_from, and_parts, eq-eqb, not-true, not_from_false}
use Rattle.std.proofs.Math.Seq.{take-append_seam, drop-append_seam}
use Rattle.std.proofs.lemmas.List.{length-take-le}
use Rattle.expr.specs.declared.code.CodeStep.{CodeStep}
use Rattle.expr.specs.Bound.{BoundExpr}
use Rattle.expr.specs.Codes.{Steps}
use Rattle.trailcheck.specs.Admissible.{are_allowed_steps, are_left_steps, is_admissible, is_left_step, is_refuted}
use Rattle.trailcheck.specs.Settings.{Setting, inner_count}
use Rattle.trailcheck.specs.Shapes.{inner_steps, left_steps}

-- a step for each left joined entry
pub as_many_left : (i : ℕ) (ons : List BoundExpr) (ss : List CodeStep) → are_left_steps i ons ss ≡ true → length ss ≡ length ons
as_many_left i [] [] h = cc
as_many_left i [] (s ∷ ss) h = absurd (cc)
as_many_left i (on ∷ ons) [] h = absurd (cc)
as_many_left i (on ∷ ons) (s ∷ ss) h = ap suc (as_many_left (suc i) ons ss (and_parts (is_left_step i on s) (are_left_steps (suc i) ons ss) h).1)

pub record IsCode (at : Setting) (ss : List CodeStep) : Type 0 where
  pub not_refuted : is_refuted at ≡ false
  pub long : length ss ≡ length at.frame
  pub inner : are_allowed_steps at [] (inner_steps at ss) ≡ true
  pub left : are_left_steps (inner_count at) at.lefts (left_steps at ss) ≡ true

module _ (at : Setting) (ss : List CodeStep) where
  pub is_code : is_admissible at (Steps ss) ≡ true → IsCode at ss
  is_code h =
      let inner = are_allowed_steps at [] (inner_steps at ss) in
      let left = are_left_steps (inner_count at) at.lefts (left_steps at ss) in
      let whole = and_parts (not (is_refuted at)) ((length ss == length at.frame) && (inner && left)) h in
      let long = and_parts (length ss == length at.frame) (inner && left) whole.1 in
      let both = and_parts inner left long.1 in
      record { not_refuted = not-true (is_refuted at) whole.0; long = eqb-true (length ss) (length at.frame) long.0; inner = both.0; left = both.1 }

  pub code_is : IsCode at ss → is_admissible at (Steps ss) ≡ true
  code_is h =
      let inner = are_allowed_steps at [] (inner_steps at ss) in
      let left = are_left_steps (inner_count at) at.lefts (left_steps at ss) in
      and_from (not (is_refuted at)) ((length ss == length at.frame) && (inner && left)) (not_from_false (is_refuted at) h.not_refuted)
      (and_from (length ss == length at.frame) (inner && left) (eq-eqb (length ss) (length at.frame) h.long) (and_from inner left h.inner h.left))

-- steps of the other entries, and then of the left joined ones
module _ (at : Setting) (ss ts : List CodeStep) (many : length ss ≡ inner_count at) where
  pub inner_are : inner_steps at (ss ++ ts) ≡ ss
  inner_are = ap (λ n. take n (ss ++ ts)) (sym many) ∙ take-append_seam ss ts

  pub left_are : left_steps at (ss ++ ts) ≡ ts
  left_are = ap (λ n. drop n (ss ++ ts)) (sym many) ∙ drop-append_seam ss ts

  pub with_tail : is_refuted at ≡ false → length at.lefts ≤ length at.frame → are_allowed_steps at [] ss ≡ true → are_left_steps (inner_count at) at.lefts ts ≡ true → IsCode at (ss ++ ts)
  with_tail open' fewer inner left = record {
    not_refuted = open';
    long = let l = length-append ss ts in let t = as_many_left (inner_count at) at.lefts ts left in omega (arith, l, t, many, fewer);
    inner = ap (are_allowed_steps at []) inner_are ∙ inner;
    left = ap (are_left_steps (inner_count at) at.lefts) left_are ∙ left;
  }

-- as many steps of the other entries as there are
pub inner_many : (at : Setting) (ss : List CodeStep) → length ss ≡ length at.frame → length (inner_steps at ss) ≡ inner_count at
inner_many at ss long = length-take-le (inner_count at) ss (omega (arith, long))
