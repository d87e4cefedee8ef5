-- The test if two expressions are the same.
use Rattle.std.specs.Prelude.{◌≡◌, Bool, true, false, ◌&&◌}
use Rattle.expr.specs.Bound.{BoundExpr, Column, Literal, CurrentUser, Negate, Arithmetic, Comparison, Between, In, IsNull, Not, And, Or, Cast, Case, CountStar, Call, BoundExprs, no_expr, one_expr, BoundArms, no_arm, one_arm, BoundOtherwise, Nothing, Value}
use Rattle.predicates.specs.Operands.{Operands, one, two, three, members, arms, operands, same_node, Decides}

-- tests of the operands, where they are as many
abbrev pub of_one : (BoundExpr → Bool) → Operands → Bool
of_one p (one e) = p e
of_one p _ = false

abbrev pub of_two : (BoundExpr → Bool) → (BoundExpr → Bool) → Operands → Bool
of_two p q (two e f) = p e && q f
of_two p q _ = false

abbrev pub of_three : (BoundExpr → Bool) → (BoundExpr → Bool) → (BoundExpr → Bool) → Operands → Bool
of_three p q r (three e f g) = p e && (q f && r g)
of_three p q r _ = false

abbrev pub of_members : (BoundExprs → Bool) → Operands → Bool
of_members p (members es) = p es
of_members p _ = false

abbrev pub of_arms : (BoundArms → Bool) → (BoundOtherwise → Bool) → Operands → Bool
of_arms p q (arms as_ o) = p as_ && q o
of_arms p q _ = false

abbrev pub of_first : (BoundExpr → Bool) → (BoundExprs → Bool) → BoundExprs → Bool
of_first p q no_expr = false
of_first p q (one_expr e es) = p e && q es

abbrev pub of_first_arm : (BoundExpr → Bool) → (BoundExpr → Bool) → (BoundArms → Bool) → BoundArms → Bool
of_first_arm p q r no_arm = false
of_first_arm p q r (one_arm when result as_) = (p when && q result) && r as_

abbrev pub is_no_expr : BoundExprs → Bool
is_no_expr no_expr = true
is_no_expr (one_expr e es) = false

abbrev pub is_no_arm : BoundArms → Bool
is_no_arm no_arm = true
is_no_arm (one_arm when result as_) = false

abbrev pub of_else : (BoundExpr → Bool) → BoundOtherwise → Bool
of_else p Nothing = false
of_else p (Value e) = p e

abbrev pub is_nothing : BoundOtherwise → Bool
is_nothing Nothing = true
is_nothing (Value e) = false

-- the same node, and the same operands
abbrev mutual
  pub same : BoundExpr → BoundExpr → Bool
  same (Column id) x = same_node (Column id) x
  same (Literal d) x = same_node (Literal d) x
  same CurrentUser x = same_node CurrentUser x
  same (Negate offset e) x = same_node (Negate offset e) x && of_one (same e) (operands x)
  same (Arithmetic op offset e f) x = same_node (Arithmetic op offset e f) x && of_two (same e) (same f) (operands x)
  same (Comparison op offset e f) x = same_node (Comparison op offset e f) x && of_two (same e) (same f) (operands x)
  same (Between negated offset e low high) x = same_node (Between negated offset e low high) x && of_three (same e) (same low) (same high) (operands x)
  same (In negated offset values e) x = same_node (In negated offset values e) x && of_one (same e) (operands x)
  same (IsNull negated offset e) x = same_node (IsNull negated offset e) x && of_one (same e) (operands x)
  same (Not offset e) x = same_node (Not offset e) x && of_one (same e) (operands x)
  same (And offset es) x = same_node (And offset es) x && of_members (all_same es) (operands x)
  same (Or offset es) x = same_node (Or offset es) x && of_members (all_same es) (operands x)
  same (Cast offset to e) x = same_node (Cast offset to e) x && of_one (same e) (operands x)
  same (Case offset as_ o) x = same_node (Case offset as_ o) x && of_arms (arms_same as_) (otherwise_same o) (operands x)
  same (CountStar offset) x = same_node (CountStar offset) x
  same (Call f offset e) x = same_node (Call f offset e) x && of_one (same e) (operands x)

  pub all_same : BoundExprs → BoundExprs → Bool
  all_same no_expr xs = is_no_expr xs
  all_same (one_expr e es) xs = of_first (same e) (all_same es) xs

  pub arms_same : BoundArms → BoundArms → Bool
  arms_same no_arm xs = is_no_arm xs
  arms_same (one_arm when result as_) xs = of_first_arm (same when) (same result) (arms_same as_) xs

  pub otherwise_same : BoundOtherwise → BoundOtherwise → Bool
  otherwise_same Nothing x = is_nothing x
  otherwise_same (Value e) x = of_else (same e) x

-- the test says whether two expressions are equal
abbrev pub SameIsEqual : Type 0
SameIsEqual = (e f : BoundExpr) → Decides (same e f) (e ≡ f)
