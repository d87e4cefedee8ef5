-- A bound expression as the list of its nodes, each after its parts, so that a type that keeps one has a code.
use Rattle.std.specs.Prelude.{◌≡◌, refl, ℕ, Bool, List, [], ◌∷◌}
use Rattle.std.proofs.Common.{◌∙◌, ap}
use Rattle.std.specs.Coded.{Coded, code_by}
use Rattle.value.specs.Datum.{Datum}
use Rattle.value.specs.declared.types.ColType.{ColType}
use Rattle.value.specs.declared.operators.Arithmetic as value
use Rattle.value.specs.declared.operators.Comparison as value'
use Rattle.value.specs.declared.operators.Aggregate.{Aggregate}
use Rattle.expr.specs.declared.bound.ColumnId.{ColumnId}
use Rattle.expr.specs.Bound.{BoundExpr, Column, Literal, CurrentUser, Negate, Arithmetic, Comparison, Between, In, IsNull, Not, And, Or, Cast, Case, CountStar, Call, BoundExprs, no_expr, one_expr, BoundArms, no_arm, one_arm, BoundOtherwise, Nothing, Value}

-- a node without its parts
pub data Node : Type 0 where
  column : ColumnId → Node
  literal : Datum → Node
  current_user : Node
  negate : (offset : ℕ) → Node
  arithmetic : (operator : value.Arithmetic) → (offset : ℕ) → Node
  comparison : (operator : value'.Comparison) → (offset : ℕ) → Node
  between : (negated : Bool) → (offset : ℕ) → Node
  is_in : (negated : Bool) → (offset : ℕ) → (values : List Datum) → Node
  is_null : (negated : Bool) → (offset : ℕ) → Node
  negation : (offset : ℕ) → Node
  all_of : (offset : ℕ) → Node
  any_of : (offset : ℕ) → Node
  cast : (offset : ℕ) → (to : ColType) → Node
  case_of : (offset : ℕ) → Node
  count_star : (offset : ℕ) → Node
  call : (aggregate : Aggregate) → (offset : ℕ) → Node
  end_of_exprs : Node
  expr_before : Node
  end_of_arms : Node
  arm_before : Node
  without_else : Node
  with_else : Node

-- ---- the nodes of an expression, and more

abbrev mutual
  pub nodes : BoundExpr → List Node → List Node
  nodes (Column id) more = column id ∷ more
  nodes (Literal d) more = literal d ∷ more
  nodes CurrentUser more = current_user ∷ more
  nodes (Negate offset e) more = nodes e (negate offset ∷ more)
  nodes (Arithmetic op offset e f) more = nodes e (nodes f (arithmetic op offset ∷ more))
  nodes (Comparison op offset e f) more = nodes e (nodes f (comparison op offset ∷ more))
  nodes (Between negated offset e low high) more = nodes e (nodes low (nodes high (between negated offset ∷ more)))
  nodes (In negated offset values e) more = nodes e (is_in negated offset values ∷ more)
  nodes (IsNull negated offset e) more = nodes e (is_null negated offset ∷ more)
  nodes (Not offset e) more = nodes e (negation offset ∷ more)
  nodes (And offset es) more = exprs_nodes es (all_of offset ∷ more)
  nodes (Or offset es) more = exprs_nodes es (any_of offset ∷ more)
  nodes (Cast offset to e) more = nodes e (cast offset to ∷ more)
  nodes (Case offset as_ o) more = arms_nodes as_ (else_nodes o (case_of offset ∷ more))
  nodes (CountStar offset) more = count_star offset ∷ more
  nodes (Call f offset e) more = nodes e (call f offset ∷ more)

  pub exprs_nodes : BoundExprs → List Node → List Node
  exprs_nodes no_expr more = end_of_exprs ∷ more
  exprs_nodes (one_expr e es) more = nodes e (exprs_nodes es (expr_before ∷ more))

  pub arms_nodes : BoundArms → List Node → List Node
  arms_nodes no_arm more = end_of_arms ∷ more
  arms_nodes (one_arm when result as_) more = nodes when (nodes result (arms_nodes as_ (arm_before ∷ more)))

  pub else_nodes : BoundOtherwise → List Node → List Node
  else_nodes Nothing more = without_else ∷ more
  else_nodes (Value e) more = nodes e (with_else ∷ more)

-- ---- the expression of its nodes

-- a part that was read, and waits for its node
pub data Part : Type 0 where
  expr : BoundExpr → Part
  exprs : BoundExprs → Part
  arms : BoundArms → Part
  otherwise : BoundOtherwise → Part

-- the parts after a node, the last one first; a node whose parts are not there is passed over
abbrev pub after_node : Node → List Part → List Part
after_node (column id) ps = expr (Column id) ∷ ps
after_node (literal d) ps = expr (Literal d) ∷ ps
after_node current_user ps = expr CurrentUser ∷ ps
after_node (negate offset) (expr e ∷ ps) = expr (Negate offset e) ∷ ps
after_node (arithmetic op offset) (expr f ∷ expr e ∷ ps) = expr (Arithmetic op offset e f) ∷ ps
after_node (comparison op offset) (expr f ∷ expr e ∷ ps) = expr (Comparison op offset e f) ∷ ps
after_node (between negated offset) (expr high ∷ expr low ∷ expr e ∷ ps) = expr (Between negated offset e low high) ∷ ps
after_node (is_in negated offset values) (expr e ∷ ps) = expr (In negated offset values e) ∷ ps
after_node (is_null negated offset) (expr e ∷ ps) = expr (IsNull negated offset e) ∷ ps
after_node (negation offset) (expr e ∷ ps) = expr (Not offset e) ∷ ps
after_node (all_of offset) (exprs es ∷ ps) = expr (And offset es) ∷ ps
after_node (any_of offset) (exprs es ∷ ps) = expr (Or offset es) ∷ ps
after_node (cast offset to) (expr e ∷ ps) = expr (Cast offset to e) ∷ ps
after_node (case_of offset) (otherwise o ∷ arms as_ ∷ ps) = expr (Case offset as_ o) ∷ ps
after_node (count_star offset) ps = expr (CountStar offset) ∷ ps
after_node (call f offset) (expr e ∷ ps) = expr (Call f offset e) ∷ ps
after_node end_of_exprs ps = exprs no_expr ∷ ps
after_node expr_before (exprs es ∷ expr e ∷ ps) = exprs (one_expr e es) ∷ ps
after_node end_of_arms ps = arms no_arm ∷ ps
after_node arm_before (arms as_ ∷ expr result ∷ expr when ∷ ps) = arms (one_arm when result as_) ∷ ps
after_node without_else ps = otherwise Nothing ∷ ps
after_node with_else (expr e ∷ ps) = otherwise (Value e) ∷ ps
after_node _ ps = ps

abbrev pub after_nodes : List Node → List Part → List Part
after_nodes [] ps = ps
after_nodes (n ∷ ns) ps = after_nodes ns (after_node n ps)

abbrev pub last_expr : List Part → BoundExpr
last_expr (expr e ∷ ps) = e
last_expr _ = CurrentUser

-- ---- the nodes of an expression give it back

mutual
  back : (e : BoundExpr) (more : List Node) (ps : List Part) → after_nodes (nodes e more) ps ≡ after_nodes more (expr e ∷ ps)
  back (Column id) more ps = refl
  back (Literal d) more ps = refl
  back CurrentUser more ps = refl
  back (Negate offset e) more ps = back e (negate offset ∷ more) ps
  back (Arithmetic op offset e f) more ps = back e (nodes f (arithmetic op offset ∷ more)) ps ∙ back f (arithmetic op offset ∷ more) (expr e ∷ ps)
  back (Comparison op offset e f) more ps = back e (nodes f (comparison op offset ∷ more)) ps ∙ back f (comparison op offset ∷ more) (expr e ∷ ps)
  back (Between negated offset e low high) more ps =
      back e (nodes low (nodes high (between negated offset ∷ more))) ps ∙ back low (nodes high (between negated offset ∷ more)) (expr e ∷ ps) ∙ back high (between negated offset ∷ more) (expr low ∷ expr e ∷ ps)
  back (In negated offset values e) more ps = back e (is_in negated offset values ∷ more) ps
  back (IsNull negated offset e) more ps = back e (is_null negated offset ∷ more) ps
  back (Not offset e) more ps = back e (negation offset ∷ more) ps
  back (And offset es) more ps = exprs_back es (all_of offset ∷ more) ps
  back (Or offset es) more ps = exprs_back es (any_of offset ∷ more) ps
  back (Cast offset to e) more ps = back e (cast offset to ∷ more) ps
  back (Case offset as_ o) more ps = arms_back as_ (else_nodes o (case_of offset ∷ more)) ps ∙ else_back o (case_of offset ∷ more) (arms as_ ∷ ps)
  back (CountStar offset) more ps = refl
  back (Call f offset e) more ps = back e (call f offset ∷ more) ps

  exprs_back : (es : BoundExprs) (more : List Node) (ps : List Part) → after_nodes (exprs_nodes es more) ps ≡ after_nodes more (exprs es ∷ ps)
  exprs_back no_expr more ps = refl
  exprs_back (one_expr e es) more ps = back e (exprs_nodes es (expr_before ∷ more)) ps ∙ exprs_back es (expr_before ∷ more) (expr e ∷ ps)

  arms_back : (as_ : BoundArms) (more : List Node) (ps : List Part) → after_nodes (arms_nodes as_ more) ps ≡ after_nodes more (arms as_ ∷ ps)
  arms_back no_arm more ps = refl
  arms_back (one_arm when result as_) more ps =
      back when (nodes result (arms_nodes as_ (arm_before ∷ more))) ps ∙ back result (arms_nodes as_ (arm_before ∷ more)) (expr when ∷ ps) ∙ arms_back as_ (arm_before ∷ more) (expr result ∷ expr when ∷ ps)

  else_back : (o : BoundOtherwise) (more : List Node) (ps : List Part) → after_nodes (else_nodes o more) ps ≡ after_nodes more (otherwise o ∷ ps)
  else_back Nothing more ps = refl
  else_back (Value e) more ps = back e (with_else ∷ more) ps

-- ---- the code

abbrev pub expr_to_nodes : BoundExpr → List Node
expr_to_nodes e = nodes e []

abbrev pub nodes_to_expr : List Node → BoundExpr
nodes_to_expr ns = last_expr (after_nodes ns [])

pub nodes_to_expr-expr_to_nodes : (e : BoundExpr) → nodes_to_expr (expr_to_nodes e) ≡ e
nodes_to_expr-expr_to_nodes e = ap last_expr (back e [] [])

abbrev pub coded_bound_expr : Coded (List Node) → Coded BoundExpr
coded_bound_expr code = code_by (List Node) code expr_to_nodes nodes_to_expr nodes_to_expr-expr_to_nodes
