use Rattle.std.proofs.Common.{◌∙◌, refl, sym}
use Rattle.expr.proofs.Copied.{copied_as}
use Rattle.predicates.proofs.Parts.{or_several}
use Rattle.predicates.proofs.connectives.or_of.Goals as goal

pub returns-else-len-eq1 : goal.returns-else-len-eq1
returns-else-len-eq1 g c = copied_as c.disjunction.result _ _ (sym (or_several c.args.members.items (λ q. c.if-len-eq1.false (c.len.ensures ∙ c.args.members.ok.0 ∙ q)))) (c.disjunction.ensures _ refl)
