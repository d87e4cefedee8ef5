-- The joins of the entries, with a guard only where it hides a row.
use Rattle.std.proofs.Common.{◌≡◌, ◌∙◌, refl, sym, ap, ℕ, zero, suc, Bool, true, false, List, [], ◌∷◌, ◌++◌, ◌==◌, ◌&&◌, length, map, reverse, Ok, if◌then◌else◌, arith}
use Rattle.std.proofs.lemmas.Bool.{eqb-true}
use Rattle.std.specs.List.{range_with_len}
use mathlib.Core.List.{reverse_aux}
use Rattle.memory.specs.Results.{and_then}
use Rattle.expr.specs.declared.code.CodeStep.{CodeStep}
use Rattle.expr.specs.Bound.{BoundExpr}
use Rattle.predicates.proofs.Movables.{and_left, and_right}
use Rattle.algebra.specs.Steps.{Step}
use Rattle.row_terms.specs.declared.path.Branch.TheVariants.{First, Second}
use Rattle.row_terms.specs.Terms.{Term, Raw, Joined, LeftJoined}
use Rattle.row_terms.specs.Written.{guarded_entry, joins, left_joins}
use Rattle.algebra.specs.Rules.{where_met, is_open}
use Rattle.trailcheck.specs.Admissible.{are_left_steps, is_full, is_left_method, is_left_step}
use Rattle.trailcheck.specs.Settings.{Setting, inner_count}
use Rattle.trailcheck.specs.Shapes.{entry_index, joined_all, joined_on, left_over}
use Rattle.rewrite.specs.Trails.{led, at_root, all_down}
use Rattle.rewrite.specs.Placing.{all_opened, below_lefts, joined_back, opening_one, opening, opened, opened_back, opened_lefts, code_entries}
use Rattle.rewrite.proofs.Distinct.{from_next}
use Rattle.rewrite.proofs.Leads.{led_then, led_kept, led_left, led_right, led_side}

-- the same setting, with those conditions
abbrev pub under : Setting → List BoundExpr → Setting
under at known = record { frame = at.frame; indexed = at.indexed; conditions = known; lefts = at.lefts }

-- ---- from the joins of FROM

pub from_joins : (n : ℕ) → joined_back (reverse (range_with_len 0 n)) ≡ joins n
from_joins zero = refl
from_joins (suc zero) = refl
from_joins (suc (suc n)) =
    ap joined_back (from_next (suc n) ∙ ap (λ is. suc n ∷ is) (from_next n))
    ∙ ap (λ is. Joined (joined_back is) (guarded_entry (suc n))) (sym (from_next n))
    ∙ ap (λ x. Joined x (guarded_entry (suc n))) (from_joins (suc n))

module _ (at : Setting) where
  -- ---- guards that show all rows

  one_opens : (i : ℕ) → led at.frame (opening_one at.frame i) (guarded_entry i) ≡ Ok (opened at i)
  one_opens i = go (is_open at.frame i) refl
    where
      go : (b : Bool) → is_open at.frame i ≡ b → led at.frame (if b then at_root 9 ∷ [] else []) (guarded_entry i) ≡ Ok (if b then Raw i else guarded_entry i)
      go true h = ap (λ m. and_then (where_met m (Raw i)) (led at.frame [])) h
      go false h = refl

  pub opens : (is : List ℕ) → led at.frame (opening at.frame is) (joined_back is) ≡ Ok (opened_back at is)
  opens [] = refl
  opens (i ∷ []) = one_opens i
  opens (i ∷ (j ∷ more)) =
      led_then at.frame (all_down Second (opening_one at.frame i)) (all_down First (opening at.frame (j ∷ more))) (joined_back (i ∷ (j ∷ more))) (Joined (joined_back (j ∷ more)) (opened at i))
      (led_right at.frame (joined_back (j ∷ more)) (opening_one at.frame i) (guarded_entry i) (opened at i) (one_opens i))
      ∙ led_left at.frame (opened at i) (opening at.frame (j ∷ more)) (joined_back (j ∷ more)) (opened_back at (j ∷ more)) (opens (j ∷ more))

  -- ---- the left joined entries

  left_opens : (i : ℕ) (on : BoundExpr) (x : Term) → led at.frame (all_down Second (opening_one at.frame i)) (LeftJoined on x (guarded_entry i)) ≡ Ok (LeftJoined on x (opened at i))
  left_opens i on x = led_side at.frame on x (opening_one at.frame i) (guarded_entry i) (opened at i) (one_opens i)

  left_index : (i : ℕ) (on : BoundExpr) (s : CodeStep) → is_left_step i on s ≡ true → entry_index s ≡ i
  left_index i on s h = let e = eqb-true s.entry (suc i) (and_left (s.entry == suc i) (is_full s.access && is_left_method i on s.method) h) in omega (arith, e)

  -- steps that lead on below some of them lead on below all
  pub opens_lefts : (ons : List BoundExpr) (ss : List CodeStep) (i : ℕ) (js : List ℕ) (steps : List Step) (x y : Term) → are_left_steps i ons ss ≡ true → led at.frame (below_lefts at.frame js steps) x ≡ Ok y →
      led at.frame (below_lefts at.frame (reverse_aux (map entry_index ss) js) steps) (left_joins i ons x) ≡ Ok (opened_lefts at i ons y)
  opens_lefts [] [] i js steps x y h k = k
  opens_lefts [] (s ∷ ss) i js steps x y h k = absurd (cc)
  opens_lefts (on ∷ ons) [] i js steps x y h k = absurd (cc)
  opens_lefts (on ∷ ons) (s ∷ ss) i js steps x y h k =
      let own = left_index i on s (and_left (is_left_step i on s) (are_left_steps (suc i) ons ss) h) in
      ap (λ j. led at.frame (below_lefts at.frame (reverse_aux (map entry_index ss) (j ∷ js)) steps) (left_joins i (on ∷ ons) x)) own
      ∙ opens_lefts ons ss (suc i) (i ∷ js) steps (LeftJoined on x (guarded_entry i)) (LeftJoined on y (opened at i)) (and_right (is_left_step i on s) (are_left_steps (suc i) ons ss) h)
      (led_then at.frame (all_down Second (opening_one at.frame i)) (all_down First (below_lefts at.frame js steps)) (LeftJoined on x (guarded_entry i)) (LeftJoined on x (opened at i)) (left_opens i on x)
      ∙ led_kept at.frame on (opened at i) (below_lefts at.frame js steps) x y k)

  -- there are as many
  pub left_count : (i : ℕ) (ons : List BoundExpr) (ss : List CodeStep) → are_left_steps i ons ss ≡ true → length ons ≡ length ss
  left_count i [] [] h = refl
  left_count i [] (s ∷ ss) h = absurd (cc)
  left_count i (on ∷ ons) [] h = absurd (cc)
  left_count i (on ∷ ons) (s ∷ ss) h = ap suc (left_count (suc i) ons ss (and_right (is_left_step i on s) (are_left_steps (suc i) ons ss) h))

  -- ---- the shape under no condition

  joined_opened : (ss : List CodeStep) (placed : List ℕ) (j : ℕ) (js : List ℕ) → opened_back at (reverse_aux (map entry_index ss) (j ∷ js)) ≡ joined_on (under at []) placed (opened_back at (j ∷ js)) ss
  joined_opened [] placed j js = refl
  joined_opened (s ∷ ss) placed j js = joined_opened ss (placed ++ entry_index s ∷ []) (entry_index s) (j ∷ js)

  inner_opened : (ss : List CodeStep) → opened_back at (code_entries at ss) ≡ joined_all (under at []) ss
  inner_opened [] = refl
  inner_opened (s ∷ ss) = joined_opened ss (entry_index s ∷ []) (entry_index s) []

  lefts_opened : (i : ℕ) (ons : List BoundExpr) (x : Term) → opened_lefts at i ons x ≡ left_over (under at []) i ons x
  lefts_opened i [] x = refl
  lefts_opened i (on ∷ ons) x = lefts_opened (suc i) ons (LeftJoined on x (opened at i))

  pub opened_shape : (ss : List CodeStep) → all_opened at (code_entries at ss) ≡ left_over (under at []) (inner_count at) at.lefts (joined_all (under at []) ss)
  opened_shape ss = ap (opened_lefts at (inner_count at) at.lefts) (inner_opened ss) ∙ lefts_opened (inner_count at) at.lefts (joined_all (under at []) ss)
