-- The steps that may follow a set of placed entries, and all that may come first.
use Rattle.std.specs.Prelude.{ℕ, ◌+◌, Bool, true, false, not, ◌==◌, nat_le, ◌&&◌, ◌||◌, List, [], ◌∷◌, length, map, filter, Option, Some, None, slice_get}
use Rattle.std.specs.List.{flat_map, list_all, list_any, range_with_len}
use Rattle.expr.specs.declared.bound.ColumnId.{ColumnId}
use Rattle.expr.specs.declared.code.Access.{Access}
use Rattle.expr.specs.declared.code.Access.TheVariants.{Full, Index, Range}
use Rattle.expr.specs.declared.code.Method.{Method}
use Rattle.expr.specs.declared.code.Method.TheVariants.{Nested, Hash, Merge}
use Rattle.expr.specs.declared.code.CodeStep.{CodeStep}
use Rattle.expr.specs.Bound.{BoundExpr}
use Rattle.expr.specs.Columns.{columns}
use Rattle.predicates.specs.Equalities.{column_sides}
use Rattle.stats.specs.Card.{Entries}
use Rattle.trailcheck.specs.Admissible.{bounds, condition_at, is_allowed_access, is_some_and}
use Rattle.trailcheck.specs.Settings.{Setting, inner_count}
use Rattle.trailcheck.specs.Shapes.{entry_index}

-- ---- tests over a set

-- of these columns one is of the entry, one of the set, and each of the entry or of the set
abbrev pub join : List ColumnId → Entries → (entry : ℕ) → Bool
join ids placed entry =
    (list_any (λ id. id.entry == entry) ids && list_any (λ id. placed id.entry) ids) && list_all (λ id. (id.entry == entry) || placed id.entry) ids

-- one is a column of the set, the other one of the entry
abbrev pub span : Entries → (entry : ℕ) → Option (ColumnId × ColumnId) → Bool
span placed entry (Some (a, b)) = (placed a.entry && (b.entry == entry)) || ((a.entry == entry) && placed b.entry)
span placed entry None = false

-- the condition equates a column of the set with one of the entry
abbrev pub equates_with : Entries → (entry : ℕ) → BoundExpr → Bool
equates_with placed entry e = span placed entry (column_sides e)

-- ---- parts of steps

abbrev pub columns_indexed : Option (List ℕ) → List ℕ
columns_indexed (Some columns) = columns
columns_indexed None = []

-- the step of the entry of that index
abbrev pub step_of : (index : ℕ) → Access → Method → CodeStep
step_of index access method = record { entry = index + 1; access = access; method = method }

-- as the first one
abbrev pub first_step : (index : ℕ) → Access → CodeStep
first_step index access = step_of index access Nested

module _ (at : Setting) where
  -- the condition of that number equates a column of the set with one of the entry
  abbrev pub is_equality : Entries → (entry number : ℕ) → Bool
  is_equality placed entry number = is_some_and (equates_with placed entry) (condition_at at number)

  abbrev pub may_join_by : Entries → (entry : ℕ) → Method → Bool
  may_join_by placed entry Nested = true
  may_join_by placed entry (Hash conjunct) = is_equality placed entry conjunct
  may_join_by placed entry (Merge conjunct) = is_equality placed entry conjunct

  -- a condition joins the entry to the set
  abbrev pub is_joined_to : Entries → (entry : ℕ) → Bool
  is_joined_to placed entry = list_any (λ e. join (columns e) placed entry) at.conditions

  -- some entry is joined to the set and not of it
  abbrev pub some_joined : Entries → Bool
  some_joined placed = list_any (λ entry. not (placed entry) && is_joined_to placed entry) (range_with_len 0 (inner_count at))

  -- the entry may be the next one: it is joined to the set, or none is
  abbrev pub may_be_next : Entries → (entry : ℕ) → Bool
  may_be_next placed entry = not (placed entry) && (is_joined_to placed entry || not (some_joined placed))

  -- the step may follow those that placed the set
  abbrev pub may_follow : Entries → CodeStep → Bool
  may_follow placed s =
      ((nat_le 1 s.entry && nat_le s.entry (inner_count at)) && may_be_next placed (entry_index s)) && (is_allowed_access at (entry_index s) s.access && may_join_by placed (entry_index s) s.method)

  -- ---- all of them, as a list

  abbrev pub all_numbers : List ℕ
  all_numbers = range_with_len 1 (length at.conditions)

  -- the parts of an index that conditions bound
  abbrev pub parts_of_index : (entry column : ℕ) → List Access
  parts_of_index entry column = map (λ number. Range column number) (filter (λ number. is_some_and (bounds entry column) (condition_at at number)) all_numbers)

  -- an index, whole and in part
  abbrev pub by_index : (entry column : ℕ) → List Access
  by_index entry column = Index column ∷ parts_of_index entry column

  abbrev pub accesses : (entry : ℕ) → List Access
  accesses entry = Full ∷ flat_map (by_index entry) (columns_indexed (slice_get at.indexed entry))

  -- each entry that may be next after none, read in each way
  abbrev pub first_steps : List CodeStep
  first_steps = flat_map (λ entry. map (first_step entry) (accesses entry)) (filter (may_be_next (λ entry. false)) (range_with_len 0 (inner_count at)))
