use Rattle.std.proofs.Common.{ap, ◌∙◌, arith}
use Rattle.expr.specs.View.{bound_expr_of, bound_exprs}
use Rattle.predicates.specs.Connectives.{and_of}
use Rattle.predicates.proofs.Parts.{too_few, first_taken}
use Rattle.predicates.proofs.connectives.part_members.Goals as goal

pub returns-then-len-lt2 : goal.returns-then-len-lt2
returns-then-len-lt2 g c = too_few c.args.members.items (omega (arith, c.len.ensures, c.args.members.ok.0, c.if-len-lt2.true))

pub returns : goal.returns
returns g c =
    first_taken c.args.members.items c.remove.result _ _ (omega (arith, c.len.ensures, c.args.members.ok.0, c.if-len-lt2.false)) c.remove.ensures.value (ap bound_expr_of c.in_ok-first.ensures)
    (c.in_ok-rest.ensures ∙ ap (λ xs. and_of (bound_exprs xs)) c.remove.ensures.items)
