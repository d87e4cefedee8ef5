use Rattle.std.proofs.Common.{ap, ◌∙◌, refl, sym}
use Rattle.std.proofs.lemmas.Result.{IfOk-weaker}
use Rattle.expr.proofs.Walks.{and_is}
use Rattle.predicates.specs.Connectives.{parted}
use Rattle.predicates.proofs.connectives.part.Goals as goal

pub returns-in-And : goal.returns-in-And
returns-in-And g c =
    let whole = and_is c.args.condition.value c.in-And.offset c.in-And.members c.in-And.members.items refl (sym c.into_inner.ensures ∙ c.in-And.is) in
    IfOk-weaker c.part_members.result _ _ (λ parts h. h ∙ ap parted (sym whole)) c.part_members.ensures
