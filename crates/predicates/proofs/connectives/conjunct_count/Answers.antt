use Rattle.std.proofs.Common.{ap, ◌∙◌, refl, sym, length}
use Rattle.expr.specs.Conjuncts.{conjuncts_of}
use Rattle.expr.proofs.Walks.{and_is}
use Rattle.predicates.proofs.Parts.{count_members}
use Rattle.predicates.proofs.connectives.conjunct_count.Goals as goal

pub returns-in-And : goal.returns-in-And
returns-in-And g c =
    let whole = sym c.expression.ensures.value ∙ and_is c.expression.result.now c.in-And.offset c.in-And.members c.in-And.members.items refl c.in-And.is in
    c.len.ensures ∙ c.in-And.members.ok.0 ∙ count_members c.in-And.members.items ∙ ap (λ e. length (conjuncts_of e)) (sym whole)
