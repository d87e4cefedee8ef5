use Rattle.std.proofs.Common.{ap, sym}
use Rattle.stats.specs.Factors as spec
use Rattle.stats.proofs.factors.negated_if.Goals as goal

pub returns-then-negated-clause-value : goal.returns-then-negated-clause-value
returns-then-negated-clause-value c = sym (ap (λ negated. spec.negated_if negated c.args.factor) c.if-negated.true)
