use Rattle.std.proofs.Common.{ap, ◌∙◌, sym}
use Rattle.std.proofs.lemmas.Result.{IfOk-weaker}
use Rattle.expr.proofs.Walks.{or_is}
use Rattle.predicates.specs.Connectives.{factored}
use Rattle.predicates.proofs.connectives.factor.Goals as goal

pub returns-in-Or : goal.returns-in-Or
returns-in-Or g c =
    let whole = or_is c.args.condition.now c.in-Or.offset c.in-Or.members c.deref.result.now c.deref.ensures.value c.in-Or.is in
    IfOk-weaker c.factor_members.result _ _ (λ form h. h ∙ ap factored (sym whole)) c.factor_members.ensures
