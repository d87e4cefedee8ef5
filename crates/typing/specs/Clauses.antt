-- The checks of a query on aggregates and on types.
use Rattle.std.specs.Prelude.{ℕ, ◌+◌, Bool, true, false, not, ◌&&◌, ◌||◌, List, [], ◌∷◌, map, Option, Some, None, is_some, Ok, Err, if◌then◌else◌}
use Rattle.std.specs.List.{list_any}
use Rattle.value.specs.Columns.{Column}
use Rattle.value.specs.declared.refusal.Refusal.TheVariants as r
use Rattle.row_ast.specs.Ast as ast
use Rattle.row_ast.specs.Ast.{is_empty}
use Rattle.expr.specs.declared.bound.ColumnId.{ColumnId}
use Rattle.scope.specs.declared.error.BindError.{BindError}
use Rattle.scope.specs.declared.lookup.Scope.{Scope}
use Rattle.scope.specs.Entry.{Entry, fault}
use Rattle.scope.specs.Lookup.{everywhere, on_scope}
use Rattle.expr.specs.Offsets.{least_of, least_of_all}
use Rattle.typing.specs.Typing.{Typed, typed, typed_condition}
use Rattle.expr.specs.Bound.{is_column}
use Rattle.typing.specs.Grouping.{misplaced}

-- ---- aggregates

-- each column of an entry, from an index on, is one of GROUP BY
abbrev pub are_grouped : List ColumnId → ℕ → ℕ → List Column → Bool
are_grouped group_by entry column [] = true
are_grouped group_by entry column (c ∷ cs) = list_any (is_column (record { entry = entry; column = column })) group_by && are_grouped group_by entry (column + 1) cs

-- each column of the entries, from an index on, is one of GROUP BY
abbrev pub every_grouped : List ColumnId → ℕ → List Entry → Bool
every_grouped group_by entry [] = true
every_grouped group_by entry (e ∷ more) = are_grouped group_by entry 0 e.table.columns && every_grouped group_by (entry + 1) more

-- a * of a grouped query names every column
abbrev pub misplaced_star : Bool → Bool → ℕ → Option ℕ
misplaced_star false grouped offset = None
misplaced_star true grouped offset = if grouped then None else Some offset

abbrev pub misplaced_select : List Entry → List ColumnId → Bool → ast.SelectList → Option ℕ
misplaced_select entries group_by of_groups (ast.All offset) = misplaced_star of_groups (every_grouped group_by 0 entries) offset
misplaced_select entries group_by of_groups (ast.Items items) = least_of_all (map (λ i. misplaced entries (everywhere entries) group_by of_groups i.value) items)

abbrev pub misplaced_condition : List Entry → List ColumnId → Bool → Option ast.Condition → Option ℕ
misplaced_condition entries group_by of_groups None = None
misplaced_condition entries group_by of_groups (Some c) = misplaced entries (everywhere entries) group_by of_groups c.predicate

-- in the ONs
abbrev pub misplaced_ons : List Entry → List ColumnId → Option ℕ
misplaced_ons entries group_by = least_of_all (map (λ e. misplaced_condition entries group_by false e.on) entries)

-- an aggregate in an item is one that WHERE may not have
abbrev pub is_grouped : List Entry → ast.Query → Bool
is_grouped entries q = not (is_empty q.group_by) || (is_some q.having || is_some (misplaced_select entries [] false q.select))

abbrev pub misplaced_by : List Entry → List ColumnId → Bool → ast.Query → Option ℕ
misplaced_by entries group_by grouped q =
    least_of (misplaced_select entries group_by grouped q.select)
    (least_of (misplaced_ons entries group_by) (least_of (misplaced_condition entries group_by false q.filter) (misplaced_condition entries group_by grouped q.having)))

-- the least offset of an aggregate, or of a column beside one, that is not allowed there
abbrev pub misplaced_in : List Entry → List ColumnId → ast.Query → Option ℕ
misplaced_in entries group_by q = misplaced_by entries group_by (is_grouped entries q) q

-- ---- types

abbrev pub mistyped : Typed → Option ℕ
mistyped (Ok t) = None
mistyped (Err offset) = Some offset

abbrev pub mistyped_select : List Entry → ast.SelectList → Option ℕ
mistyped_select entries (ast.All offset) = None
mistyped_select entries (ast.Items items) = least_of_all (map (λ i. mistyped (typed entries (everywhere entries) i.value)) items)

abbrev pub mistyped_condition : List Entry → Scope → Option ast.Condition → Option ℕ
mistyped_condition entries scope None = None
mistyped_condition entries scope (Some c) = mistyped (typed_condition entries scope c.offset c.predicate)

-- in the ONs from an index on
abbrev pub mistyped_ons : List Entry → ℕ → List Entry → Option ℕ
mistyped_ons entries number [] = None
mistyped_ons entries number (e ∷ more) = least_of (mistyped_condition entries (on_scope number e) e.on) (mistyped_ons entries (number + 1) more)

-- the least offset of a type error
abbrev pub mistyped_in : List Entry → ast.Query → Option ℕ
mistyped_in entries q =
    least_of (mistyped_select entries q.select)
    (least_of (mistyped_ons entries 0 entries) (least_of (mistyped_condition entries (everywhere entries) q.filter) (mistyped_condition entries (everywhere entries) q.having)))

-- ---- both checks

-- 42803 at an offset, or else 42804 at the other, if there is one
abbrev pub first_fault : Option ℕ → Option ℕ → Option BindError
first_fault (Some offset) other = Some (fault r.GroupingError offset)
first_fault None (Some offset) = Some (fault r.DatatypeMismatch offset)
first_fault None None = None

-- of a query with the columns of its GROUP BY
abbrev pub clause_error : List Entry → List ColumnId → ast.Query → Option BindError
clause_error entries group_by q = first_fault (misplaced_in entries group_by q) (mistyped_in entries q)

-- of the condition of a policy, which starts at an offset; no aggregate is allowed in it
abbrev pub condition_error : List Entry → ℕ → ast.Expr → Option BindError
condition_error entries offset e = first_fault (misplaced entries (everywhere entries) [] false e) (mistyped (typed_condition entries (everywhere entries) offset e))
