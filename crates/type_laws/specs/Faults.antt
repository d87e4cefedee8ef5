-- All the faults of an expression or a query, of which the checks of aggregates and of types report the least offset.
use Rattle.std.specs.Prelude.{◌≡◌, ℕ, ◌+◌, Bool, false, List, [], ◌∷◌, ◌++◌, flat_map, Option, Some, None, option_to_list, if◌then◌else◌}
use Rattle.std.specs.Ordering.{nat_cmp}
use Rattle.row_ast.specs.Ast as ast
use Rattle.bags.specs.Least.{least}
use Rattle.expr.specs.declared.bound.ColumnId.{ColumnId}
use Rattle.scope.specs.declared.lookup.Scope.{Scope}
use Rattle.scope.specs.Entry.{Entry}
use Rattle.scope.specs.Lookup.{everywhere, find_column, on_scope}
use Rattle.typing.specs.Grouping.{misplaced, misplaced_column}
use Rattle.typing.specs.Typing.{Typed, typed, typed_condition}
use Rattle.typing.specs.Clauses.{clause_error, every_grouped, first_fault, is_grouped, misplaced_star, mistyped}

-- ---- parts that are misplaced

-- an aggregate is allowed in an item or HAVING of a grouped query, outside aggregates
abbrev pub misplacements_of_call : Bool → ℕ → List ℕ → List ℕ
misplacements_of_call of_groups offset inner = if of_groups then inner else offset ∷ inner

module _ (entries : List Entry) (scope : Scope) (group_by : List ColumnId) where
  -- the offsets of the parts that are not allowed there, in written order; of_groups: in an item or HAVING of a grouped
  -- query, outside aggregates
  abbrev mutual
    pub misplacements : Bool → ast.Expr → List ℕ
    misplacements of_groups (ast.Column c) = option_to_list (misplaced_column group_by of_groups c.offset (find_column entries scope c))
    misplacements of_groups (ast.Literal d) = []
    misplacements of_groups ast.CurrentUser = []
    misplacements of_groups (ast.Negate offset e) = misplacements of_groups e
    misplacements of_groups (ast.Arithmetic op offset e f) = misplacements of_groups e ++ misplacements of_groups f
    misplacements of_groups (ast.Comparison op offset e f) = misplacements of_groups e ++ misplacements of_groups f
    misplacements of_groups (ast.Between negated offset e low high) = misplacements of_groups e ++ (misplacements of_groups low ++ misplacements of_groups high)
    misplacements of_groups (ast.In negated offset values e) = misplacements of_groups e
    misplacements of_groups (ast.IsNull negated offset e) = misplacements of_groups e
    misplacements of_groups (ast.Not offset e) = misplacements of_groups e
    misplacements of_groups (ast.And offset es) = misplacements_of_members of_groups es
    misplacements of_groups (ast.Or offset es) = misplacements_of_members of_groups es
    misplacements of_groups (ast.Cast offset to e) = misplacements of_groups e
    misplacements of_groups (ast.Case offset as_ o) = misplacements_of_arms of_groups as_ ++ misplacements_of_otherwise of_groups o
    misplacements of_groups (ast.CountStar offset) = misplacements_of_call of_groups offset []
    misplacements of_groups (ast.Call f offset e) = misplacements_of_call of_groups offset (misplacements false e)

    pub misplacements_of_members : Bool → ast.Exprs → List ℕ
    misplacements_of_members of_groups ast.no_expr = []
    misplacements_of_members of_groups (ast.one_expr e es) = misplacements of_groups e ++ misplacements_of_members of_groups es

    pub misplacements_of_arms : Bool → ast.Arms → List ℕ
    misplacements_of_arms of_groups ast.no_arm = []
    misplacements_of_arms of_groups (ast.one_arm when result as_) = (misplacements of_groups when ++ misplacements of_groups result) ++ misplacements_of_arms of_groups as_

    pub misplacements_of_otherwise : Bool → ast.Otherwise → List ℕ
    misplacements_of_otherwise of_groups ast.Nothing = []
    misplacements_of_otherwise of_groups (ast.Value e) = misplacements of_groups e

-- ---- operations that are mistyped

-- the faults of the parts of an operation, or else its own, if it has one
abbrev pub inner_or_own : List ℕ → Typed → List ℕ
inner_or_own (offset ∷ more) t = offset ∷ more
inner_or_own [] t = option_to_list (mistyped t)

module _ (entries : List Entry) (scope : Scope) where
  -- the offsets of the operations that are wrong although no part of them is, in written order
  abbrev mutual
    pub mistypings : ast.Expr → List ℕ
    mistypings (ast.Column c) = []
    mistypings (ast.Literal d) = []
    mistypings ast.CurrentUser = []
    mistypings (ast.Negate offset e) = inner_or_own (mistypings e) (typed entries scope (ast.Negate offset e))
    mistypings (ast.Arithmetic op offset e f) = inner_or_own (mistypings e ++ mistypings f) (typed entries scope (ast.Arithmetic op offset e f))
    mistypings (ast.Comparison op offset e f) = inner_or_own (mistypings e ++ mistypings f) (typed entries scope (ast.Comparison op offset e f))
    mistypings (ast.Between negated offset e low high) = inner_or_own (mistypings e ++ (mistypings low ++ mistypings high)) (typed entries scope (ast.Between negated offset e low high))
    mistypings (ast.In negated offset values e) = inner_or_own (mistypings e) (typed entries scope (ast.In negated offset values e))
    mistypings (ast.IsNull negated offset e) = inner_or_own (mistypings e) (typed entries scope (ast.IsNull negated offset e))
    mistypings (ast.Not offset e) = inner_or_own (mistypings e) (typed entries scope (ast.Not offset e))
    mistypings (ast.And offset es) = inner_or_own (mistypings_of_members es) (typed entries scope (ast.And offset es))
    mistypings (ast.Or offset es) = inner_or_own (mistypings_of_members es) (typed entries scope (ast.Or offset es))
    mistypings (ast.Cast offset to e) = inner_or_own (mistypings e) (typed entries scope (ast.Cast offset to e))
    mistypings (ast.Case offset as_ o) = inner_or_own (mistypings_of_arms as_ ++ mistypings_of_otherwise o) (typed entries scope (ast.Case offset as_ o))
    mistypings (ast.CountStar offset) = []
    mistypings (ast.Call f offset e) = inner_or_own (mistypings e) (typed entries scope (ast.Call f offset e))

    pub mistypings_of_members : ast.Exprs → List ℕ
    mistypings_of_members ast.no_expr = []
    mistypings_of_members (ast.one_expr e es) = mistypings e ++ mistypings_of_members es

    pub mistypings_of_arms : ast.Arms → List ℕ
    mistypings_of_arms ast.no_arm = []
    mistypings_of_arms (ast.one_arm when result as_) = (mistypings when ++ mistypings result) ++ mistypings_of_arms as_

    pub mistypings_of_otherwise : ast.Otherwise → List ℕ
    mistypings_of_otherwise ast.Nothing = []
    mistypings_of_otherwise (ast.Value e) = mistypings e

-- ---- the clauses of a query

module _ (entries : List Entry) where
  -- of a * of a grouped query that does not group by every column, or of the items
  abbrev pub misplacements_of_select : List ColumnId → Bool → ast.SelectList → List ℕ
  misplacements_of_select group_by of_groups (ast.All offset) = option_to_list (misplaced_star of_groups (every_grouped group_by 0 entries) offset)
  misplacements_of_select group_by of_groups (ast.Items items) = flat_map (λ i. misplacements entries (everywhere entries) group_by of_groups i.value) items

  abbrev pub misplacements_of_condition : List ColumnId → Bool → Option ast.Condition → List ℕ
  misplacements_of_condition group_by of_groups None = []
  misplacements_of_condition group_by of_groups (Some c) = misplacements entries (everywhere entries) group_by of_groups c.predicate

  -- of the items, each ON, WHERE and HAVING
  abbrev pub misplacements_in : List ColumnId → ast.Query → List ℕ
  misplacements_in group_by q =
      misplacements_of_select group_by (is_grouped entries q) q.select
      ++ (flat_map (λ e. misplacements_of_condition group_by false e.on) entries ++ (misplacements_of_condition group_by false q.filter ++ misplacements_of_condition group_by (is_grouped entries q) q.having))

  abbrev pub mistypings_of_select : ast.SelectList → List ℕ
  mistypings_of_select (ast.All offset) = []
  mistypings_of_select (ast.Items items) = flat_map (λ i. mistypings entries (everywhere entries) i.value) items

  -- what is to be a condition and is not one is mistyped at its offset
  abbrev pub mistypings_of_condition : Scope → Option ast.Condition → List ℕ
  mistypings_of_condition scope None = []
  mistypings_of_condition scope (Some c) = inner_or_own (mistypings entries scope c.predicate) (typed_condition entries scope c.offset c.predicate)

  -- of the ONs from an index on
  abbrev pub mistypings_of_ons : ℕ → List Entry → List ℕ
  mistypings_of_ons number [] = []
  mistypings_of_ons number (e ∷ more) = mistypings_of_condition (on_scope number e) e.on ++ mistypings_of_ons (number + 1) more

  -- of the items, each ON, WHERE and HAVING
  abbrev pub mistypings_in : ast.Query → List ℕ
  mistypings_in q =
      mistypings_of_select q.select ++ (mistypings_of_ons 0 entries ++ (mistypings_of_condition (everywhere entries) q.filter ++ mistypings_of_condition (everywhere entries) q.having))

-- ---- laws

-- the check of aggregates finds the least offset of a part that is misplaced
abbrev pub MisplacedIsLeast : Type 0
MisplacedIsLeast = (entries : List Entry) (scope : Scope) (group_by : List ColumnId) (of_groups : Bool) (e : ast.Expr) → misplaced entries scope group_by of_groups e ≡ least nat_cmp (misplacements entries scope group_by of_groups e)

-- type checking finds the least offset of an operation that is mistyped
abbrev pub MistypedIsLeast : Type 0
MistypedIsLeast = (entries : List Entry) (scope : Scope) (e : ast.Expr) → mistyped (typed entries scope e) ≡ least nat_cmp (mistypings entries scope e)

-- a query is refused at the least offset of a part that is misplaced or, where none is, of an operation that is mistyped
abbrev pub QueryFaultIsLeast : Type 0
QueryFaultIsLeast = (entries : List Entry) (group_by : List ColumnId) (q : ast.Query) → clause_error entries group_by q ≡ first_fault (least nat_cmp (misplacements_in entries group_by q)) (least nat_cmp (mistypings_in entries q))
