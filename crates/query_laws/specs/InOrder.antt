-- The parts of a query are bound one after another, in written order.
use Rattle.std.specs.Prelude.{◌≡◌, ℕ, ◌+◌, List, [], ◌∷◌, length, take, Some, Result, Ok}
use Rattle.std.specs.List.{slice_get}
use Rattle.row_ast.specs.Ast as ast
use Rattle.memory.specs.Results.{on_each}
use Rattle.catalog_laws.specs.Catalog.{Catalog}
use Rattle.scope.specs.declared.lookup.Scope.{Scope}
use Rattle.scope.specs.Entry.{Entry}
use Rattle.scope.specs.Lookup.{on_scope}
use Rattle.scope.specs.BoundExprs.{bound_expr, bound_otherwise, choice, conjunction, disjunction, pair}
use Rattle.analysis.specs.BoundQueries.{bound_condition, bound_ons}
use Rattle.analysis.specs.Entries.{JoinedTable, entries_in, entry_in}

-- the entries with their numbers, from one on
abbrev pub numbered : ℕ → List Entry → List (ℕ × Entry)
numbered n [] = []
numbered n (e ∷ more) = (n, e) ∷ numbered (n + 1) more

-- the members of an AND, and of an OR
abbrev pub MembersInOrder : Type 0
MembersInOrder = (entries : List Entry) (scope : Scope) (offset : ℕ) (es : List ast.Expr) →
    (bound_expr entries scope (ast.And offset (ast.exprs_of es)) ≡ conjunction offset (on_each (bound_expr entries scope) es))
    × (bound_expr entries scope (ast.Or offset (ast.exprs_of es)) ≡ disjunction offset (on_each (bound_expr entries scope) es))

-- the arms of a CASE, each WHEN before its result, and then ELSE
abbrev pub ArmsInOrder : Type 0
ArmsInOrder = (entries : List Entry) (scope : Scope) (offset : ℕ) (arms : List (ast.Expr × ast.Expr)) (o : ast.Otherwise) →
    bound_expr entries scope (ast.Case offset (ast.arms_of arms) o)
    ≡ choice offset (on_each (λ a. pair (bound_expr entries scope a.0) (bound_expr entries scope a.1)) arms) (bound_otherwise entries scope o)

-- the ON of each entry, in its own scope
abbrev pub OnsInOrder : Type 0
OnsInOrder = (entries : List Entry) → bound_ons entries 0 entries ≡ on_each (λ e. bound_condition entries (on_scope e.0 e.1) e.1.on) (numbered 0 entries)

-- each entry of FROM is that of its table, after the entries before it
abbrev pub EntriesInOrder : Type 0
EntriesInOrder = (cat : Catalog) (js : List JoinedTable) (es : List Entry) → entries_in cat [] js ≡ Ok es →
    (length es ≡ length js) × ((k : ℕ) (j : JoinedTable) → slice_get js k ≡ Some j → (e : Entry) × (slice_get es k ≡ Some e) × (entry_in cat (take k es) j ≡ Ok e))
