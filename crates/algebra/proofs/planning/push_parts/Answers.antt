use Rattle.std.proofs.Common.{◌≡◌, ℕ, ◌<◌, ◌≤◌, [], ◌∷◌, length, ap, ◌∙◌, refl, sym, arith}
use Rattle.expr.specs.Bound.{BoundExpr, And, BoundExprs, no_expr, one_expr}
use Rattle.expr.specs.Conjuncts.{conjuncts_of, members}
use Rattle.expr.specs.Movable.{movable}
use Rattle.expr.specs.View.{bound_exprs}
use Rattle.expr.proofs.Walks.{and_is}
use Rattle.expr.proofs.Conjoined.{members_of}
use Rattle.algebra.specs.PlanningList.{parts_of}
use Rattle.algebra.proofs.planning.push_parts.Goals as goal

one_part : (e : BoundExpr) → length (conjuncts_of e) < 2 → parts_of e ≡ e ∷ []
one_part (And offset no_expr) h = refl
one_part (And offset (one_expr e no_expr)) h = refl
one_part (And offset (one_expr e (one_expr f es))) h = absurd (omega (arith, h))
one_part _ h = refl

more_parts : (offset : ℕ) (es : BoundExprs) → 2 ≤ length (members es) → parts_of (And offset es) ≡ members es
more_parts offset no_expr h = absurd (omega (arith, h))
more_parts offset (one_expr e no_expr) h = absurd (omega (arith, h))
more_parts offset (one_expr e (one_expr f es)) h = refl

pub push_members-requires : goal.push_members-requires
push_members-requires g c =
    let whole = and_is c.into_expression.result.value c.in-And.offset c.in-And.members c.in-And.members.items refl (sym c.into_inner.ensures ∙ c.in-And.is) in
    ap movable (sym whole) ∙ c.into_expression.ensures.movable

pub returns-in-And : goal.returns-in-And
returns-in-And g c =
    let items = c.in-And.members.items in
    let whole = sym c.into_expression.ensures.value ∙ and_is c.into_expression.result.value c.in-And.offset c.in-And.members items refl (sym c.into_inner.ensures ∙ c.in-And.is) in
    let count : length (conjuncts_of c.args.condition) ≡ length (members (bound_exprs items)) = ap (λ e. length (conjuncts_of e)) whole in
    let enough : 2 ≤ length (members (bound_exprs items)) = omega (arith, c.if-conjunct_count-lt2.false, c.conjunct_count.ensures, count) in
    rw (whole, more_parts c.in-And.offset (bound_exprs items) enough, members_of items) c.push_members.ensures
