-- The codes that a plan may have.
use Rattle.std.specs.Prelude.{ℕ, suc, Bool, true, false, not, ◌==◌, nat_le, ◌&&◌, ◌||◌, List, [], ◌∷◌, ◌++◌, length, Option, Some, None, slice_get}
use Rattle.std.specs.List.{list_any, range_with_len}
use Rattle.value.specs.declared.operators.Comparison as operators
use Rattle.value.specs.declared.operators.Comparison.TheVariants.{NotEqual}
use Rattle.expr.specs.declared.bound.ColumnId.{ColumnId}
use Rattle.expr.specs.declared.code.Access.{Access}
use Rattle.expr.specs.declared.code.Access.TheVariants.{Full, Index, Range}
use Rattle.expr.specs.declared.code.Method.{Method}
use Rattle.expr.specs.declared.code.Method.TheVariants.{Nested, Hash, Merge}
use Rattle.expr.specs.declared.code.CodeStep.{CodeStep}
use Rattle.expr.specs.Bound.{BoundExpr, Column, Literal, Comparison}
use Rattle.expr.specs.Codes.{Code, Empty, Steps}
use Rattle.expr.specs.Conjuncts.{conjuncts_of}
use Rattle.predicates.specs.Equalities.{column_sides, is_never_true}
use Rattle.predicates.specs.Numbered.{numbered}
use Rattle.trailcheck.specs.Entries.{is_among, joins}
use Rattle.trailcheck.specs.Settings.{Setting, inner_count}
use Rattle.trailcheck.specs.Shapes.{entry_index, inner_steps, left_steps}

-- ---- how the rows of an entry are read

-- one of the operators = < <= > >=
abbrev pub is_bounding : operators.Comparison → Bool
is_bounding NotEqual = false
is_bounding _ = true

-- the column of that number, from 1, of the entry
abbrev pub is_numbered : (entry column : ℕ) → ColumnId → Bool
is_numbered entry column id = (id.entry == entry) && (suc id.column == column)

-- it compares that column of the entry with a literal, either way round
abbrev pub bounds : (entry column : ℕ) → BoundExpr → Bool
bounds entry column (Comparison op offset (Column id) (Literal d)) = is_bounding op && is_numbered entry column id
bounds entry column (Comparison op offset (Literal d) (Column id)) = is_bounding op && is_numbered entry column id
bounds entry column _ = false

abbrev pub is_listed : ℕ → Option (List ℕ) → Bool
is_listed column (Some columns) = list_any (λ c. c == column) columns
is_listed column None = false

-- there is a condition, and it passes the test
abbrev pub is_some_and : (BoundExpr → Bool) → Option BoundExpr → Bool
is_some_and test (Some e) = test e
is_some_and test None = false

-- ---- how they are joined to the placed entries

-- one is a column of a placed entry, the other one of the entry
abbrev pub are_across : (placed : List ℕ) → (entry : ℕ) → Option (ColumnId × ColumnId) → Bool
are_across placed entry (Some (a, b)) = (is_among placed a.entry && (b.entry == entry)) || ((a.entry == entry) && is_among placed b.entry)
are_across placed entry None = false

-- it equates a column of a placed entry with one of the entry
abbrev pub equates : (placed : List ℕ) → (entry : ℕ) → BoundExpr → Bool
equates placed entry e = are_across placed entry (column_sides e)

-- ---- how left joined entries are joined

abbrev pub is_full : Access → Bool
is_full Full = true
is_full _ = false

-- by nested loops, or by a hash table of a conjunct of the ON, by its number, from 1, that equates a column of an earlier entry with one
-- of the entry
abbrev pub is_left_method : (entry : ℕ) → (on : BoundExpr) → Method → Bool
is_left_method i on Nested = true
is_left_method i on (Hash conjunct) = is_some_and (equates (range_with_len 0 i) i) (numbered (conjuncts_of on) conjunct)
is_left_method i on (Merge conjunct) = false

-- it reads all rows of the entry, and joins it so
abbrev pub is_left_step : (entry : ℕ) → (on : BoundExpr) → CodeStep → Bool
is_left_step i on s = (s.entry == suc i) && (is_full s.access && is_left_method i on s.method)

-- a step for each left joined entry from a number on
abbrev pub are_left_steps : ℕ → (ons : List BoundExpr) → List CodeStep → Bool
are_left_steps i [] [] = true
are_left_steps i (on ∷ ons) (s ∷ ss) = is_left_step i on s && are_left_steps (suc i) ons ss
are_left_steps i _ _ = false

module _ (at : Setting) where
  -- some condition is never true
  abbrev pub is_refuted : Bool
  is_refuted = list_any is_never_true at.conditions

  -- the condition of that number, from 1
  abbrev pub condition_at : ℕ → Option BoundExpr
  condition_at number = numbered at.conditions number

  -- the entry has an index on that column
  abbrev pub is_indexed : (entry column : ℕ) → Bool
  is_indexed entry column = is_listed column (slice_get at.indexed entry)

  abbrev pub is_allowed_access : (entry : ℕ) → Access → Bool
  is_allowed_access entry Full = true
  is_allowed_access entry (Index column) = is_indexed entry column
  is_allowed_access entry (Range column bound) = is_indexed entry column && is_some_and (bounds entry column) (condition_at bound)

  abbrev pub is_allowed_method : (placed : List ℕ) → (entry : ℕ) → Method → Bool
  is_allowed_method placed entry Nested = true
  is_allowed_method placed entry (Hash conjunct) = is_some_and (equates placed entry) (condition_at conjunct)
  is_allowed_method placed entry (Merge conjunct) = is_some_and (equates placed entry) (condition_at conjunct)

  -- ---- the order of the entries

  -- a condition joins the entry to the placed ones
  abbrev pub is_joined : (placed : List ℕ) → (entry : ℕ) → Bool
  is_joined placed entry = list_any (λ e. joins e placed entry) at.conditions

  -- the entry waits for its place, and a condition joins it to the placed ones
  abbrev pub is_waiting : (placed : List ℕ) → (entry : ℕ) → Bool
  is_waiting placed entry = not (is_among placed entry) && is_joined placed entry

  -- some entry waits that is joined to the placed ones
  abbrev pub some_waiting : (placed : List ℕ) → Bool
  some_waiting placed = list_any (is_waiting placed) (range_with_len 0 (inner_count at))

  -- the entry is joined to the placed ones, or none that waits is
  abbrev pub is_connected : (placed : List ℕ) → (entry : ℕ) → Bool
  is_connected placed entry = is_joined placed entry || not (some_waiting placed)

  -- the number, from 1, of an entry that is not left joined and has no place yet
  abbrev pub is_next : (placed : List ℕ) → CodeStep → Bool
  is_next placed s = (nat_le 1 s.entry && nat_le s.entry (inner_count at)) && not (is_among placed (entry_index s))

  abbrev pub is_allowed_step : (placed : List ℕ) → CodeStep → Bool
  is_allowed_step placed s = (is_next placed s && is_connected placed (entry_index s)) && (is_allowed_access (entry_index s) s.access && is_allowed_method placed (entry_index s) s.method)

  -- each step may follow those before
  abbrev pub are_allowed_steps : (placed : List ℕ) → List CodeStep → Bool
  are_allowed_steps placed [] = true
  are_allowed_steps placed (s ∷ ss) = is_allowed_step placed s && are_allowed_steps (placed ++ entry_index s ∷ []) ss

  -- no rows where some condition is never true; else a step for each entry, the left joined ones last
  abbrev pub is_admissible : Code → Bool
  is_admissible Empty = is_refuted
  is_admissible (Steps ss) = not is_refuted && ((length ss == length at.frame) && (are_allowed_steps [] (inner_steps at ss) && are_left_steps (inner_count at) at.lefts (left_steps at ss)))
