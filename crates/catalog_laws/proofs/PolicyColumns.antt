-- The columns of a policy's condition are its table's own.
use Rattle.std.proofs.Common.{◌≡◌, ℕ, ◌+◌, ◌<◌, Bool, true, false, cond, List, [], ◌∷◌, length, Option, Some, None, option_map, Ok, bytes_eq, refl, subst, arith}
use Rattle.std.specs.List.{All, cons_option, position_from}
use Rattle.memory.proofs.Cases.{none_is_not, ok_is, some_is}
use Rattle.row_ast.specs.Ast as ast
use Rattle.value.specs.Names.{Name}
use Rattle.expr.specs.Bound.{BoundExpr}
use Rattle.expr.specs.Columns.{columns}
use Rattle.expr.specs.declared.bound.ColumnId.{ColumnId}
use Rattle.row_objects.specs.ColumnNames.{column_index}
use Rattle.row_objects.specs.Objects.{Table}
use Rattle.scope.specs.Lookup.{everywhere, find_column, is_meant, means_some, one_column}
use Rattle.catalog.specs.PolicyPredicate.{bound_predicate, policy_entries, policy_entry}
use Rattle.catalog_laws.specs.WellFormed.{IsOwnColumn}
use Rattle.catalog_laws.proofs.Bound.{each_found}

-- an index is within the list
within_from : {E : Type 0} (p : E → Bool) (k : ℕ) (es : List E) (i : ℕ) → position_from p k es ≡ Some i → i < k + length es
within_from p k [] i h = absurd (none_is_not i h)
within_from p k (e ∷ es) i h = go (p e) h (within_from p (k + 1) es i)
  where
    go : (b : Bool) → cond b (Some k) (position_from p (k + 1) es) ≡ Some i → (position_from p (k + 1) es ≡ Some i → i < k + 1 + length es) → i < k + length (e ∷ es)
    go true h more = let q = some_is k i h in omega arith
    go false h more = let q = more h in omega arith

pub position_within : {E : Type 0} (p : E → Bool) (es : List E) (i : ℕ) → position_from p 0 es ≡ Some i → i < length es
position_within p es i h = let q = within_from p 0 es i h in omega arith

module _ (t : Table) where
  abbrev its_own : ℕ → ColumnId
  its_own column = record { entry = 0; column = column }

  by_name : (name : Name) (offset : ℕ) (named b : Bool) (o : Option ℕ) → column_index t.columns name ≡ o → (id : ColumnId) → one_column offset named (cons_option (cond b (option_map its_own o) None) []) ≡ Ok id → IsOwnColumn t.columns id
  by_name name offset true false o is id e = absurd (cc)
  by_name name offset false false o is id e = absurd (cc)
  by_name name offset true true None is id e = absurd (cc)
  by_name name offset false true None is id e = absurd (cc)
  by_name name offset named true (Some i) is id e =
      subst (λ (id : ColumnId). IsOwnColumn t.columns id) (ok_is (its_own i) id e) record { entry = refl; within = position_within (λ column. bytes_eq name column.name) t.columns i is }

  own_column : (c : ast.ColumnRef) (id : ColumnId) → find_column (policy_entries t) (everywhere (policy_entries t)) c ≡ Ok id → IsOwnColumn t.columns id
  own_column c id e = by_name c.name c.offset (means_some (everywhere (policy_entries t)) c 0 (policy_entries t)) (is_meant (everywhere (policy_entries t)) c 0 (policy_entry t)) (column_index t.columns c.name) refl id e

  -- those of a policy's condition
  pub own_columns : (e : ast.Expr) (b : BoundExpr) → bound_predicate t e ≡ Ok b → All (IsOwnColumn t.columns) (columns b)
  own_columns e b is = each_found (IsOwnColumn t.columns) (policy_entries t) (everywhere (policy_entries t)) own_column e b is
