use Rattle.std.proofs.Common.{ap, ◌∙◌, sym, option_map, Some, None}
use Rattle.std.proofs.lemmas.Result.{IfOk-weaker}
use Rattle.expr.specs.View.{bound_expr_of}
use Rattle.predicates.specs.Connectives.{parted}
use Rattle.predicates.proofs.Parts.{by_the_first}
use Rattle.predicates.proofs.connectives.factor_members.Goals as goal

pub returns-in-Some : goal.returns-in-Some
returns-in-Some g c =
    let parts = sym (ap (option_map (λ p. (bound_expr_of p.0.value, bound_expr_of p.1.value))) c.in-Some.is) ∙ c.in_ok-first.ensures ∙ ap parted c.in_ok-copy_expr.ensures in
    let found = by_the_first c.args.members.now c.index-members-0.result c.if-is_empty.ensures c.index-members-0.is (Some (bound_expr_of c.in-Some.first.value, bound_expr_of c.in-Some.field-0-1.value)) parts in
    IfOk-weaker c.with_first.result _ _ (λ form h. h ∙ found) c.with_first.ensures

pub returns : goal.returns
returns g c =
    let parts = sym (ap (option_map (λ p. (bound_expr_of p.0.value, bound_expr_of p.1.value))) c.in-None.is) ∙ c.in_ok-first.ensures ∙ ap parted c.in_ok-copy_expr.ensures in
    by_the_first c.args.members.now c.index-members-0.result c.if-is_empty.ensures c.index-members-0.is None parts
