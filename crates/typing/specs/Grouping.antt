-- Aggregates, and columns beside them, where they may not be.
use Rattle.std.specs.Prelude.{ℕ, Bool, true, false, List, Option, Some, None, Result, Ok, Err, if◌then◌else◌}
use Rattle.std.specs.List.{list_any}
use Rattle.row_ast.specs.Ast as ast
use Rattle.expr.specs.declared.bound.ColumnId.{ColumnId}
use Rattle.expr.specs.Bound.{is_column}
use Rattle.scope.specs.declared.error.BindError.{BindError}
use Rattle.scope.specs.declared.lookup.Scope.{Scope}
use Rattle.scope.specs.Entry.{Entry}
use Rattle.scope.specs.Lookup.{find_column}
use Rattle.expr.specs.Offsets.{least_of}

-- in an item or HAVING of a grouped query, outside aggregates, a column has to be one of GROUP BY
abbrev pub misplaced_column : List ColumnId → Bool → ℕ → Result ColumnId BindError → Option ℕ
misplaced_column group_by false offset found = None
misplaced_column group_by true offset (Ok id) = if list_any (is_column id) group_by then None else Some offset
misplaced_column group_by true offset (Err fault) = None

-- an aggregate is allowed there and nowhere else
abbrev pub misplaced_call : Bool → ℕ → Option ℕ → Option ℕ
misplaced_call of_groups offset inner = if of_groups then inner else least_of (Some offset) inner

module _ (entries : List Entry) (scope : Scope) (group_by : List ColumnId) where
  -- the least offset of a part that is not allowed there; of_groups: in an item or HAVING of a grouped query, outside
  -- aggregates
  abbrev mutual
    pub misplaced : Bool → ast.Expr → Option ℕ
    misplaced of_groups (ast.Column c) = misplaced_column group_by of_groups c.offset (find_column entries scope c)
    misplaced of_groups (ast.Literal d) = None
    misplaced of_groups ast.CurrentUser = None
    misplaced of_groups (ast.Negate offset e) = misplaced of_groups e
    misplaced of_groups (ast.Arithmetic op offset e f) = least_of (misplaced of_groups e) (misplaced of_groups f)
    misplaced of_groups (ast.Comparison op offset e f) = least_of (misplaced of_groups e) (misplaced of_groups f)
    misplaced of_groups (ast.Between negated offset e low high) = least_of (misplaced of_groups e) (least_of (misplaced of_groups low) (misplaced of_groups high))
    misplaced of_groups (ast.In negated offset values e) = misplaced of_groups e
    misplaced of_groups (ast.IsNull negated offset e) = misplaced of_groups e
    misplaced of_groups (ast.Not offset e) = misplaced of_groups e
    misplaced of_groups (ast.And offset es) = misplaced_members of_groups es
    misplaced of_groups (ast.Or offset es) = misplaced_members of_groups es
    misplaced of_groups (ast.Cast offset to e) = misplaced of_groups e
    misplaced of_groups (ast.Case offset as_ o) = least_of (misplaced_arms of_groups as_) (misplaced_otherwise of_groups o)
    misplaced of_groups (ast.CountStar offset) = misplaced_call of_groups offset None
    misplaced of_groups (ast.Call aggregate offset e) = misplaced_call of_groups offset (misplaced false e)

    -- in any of them
    pub misplaced_members : Bool → ast.Exprs → Option ℕ
    misplaced_members of_groups ast.no_expr = None
    misplaced_members of_groups (ast.one_expr e es) = least_of (misplaced of_groups e) (misplaced_members of_groups es)

    pub misplaced_arms : Bool → ast.Arms → Option ℕ
    misplaced_arms of_groups ast.no_arm = None
    misplaced_arms of_groups (ast.one_arm when result as_) = least_of (least_of (misplaced of_groups when) (misplaced of_groups result)) (misplaced_arms of_groups as_)

    pub misplaced_otherwise : Bool → ast.Otherwise → Option ℕ
    misplaced_otherwise of_groups ast.Nothing = None
    misplaced_otherwise of_groups (ast.Value e) = misplaced of_groups e
