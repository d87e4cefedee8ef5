use Rattle.std.proofs.Common.{◌+◌, ◌-◌, ◌≤◌, ap, subst, sym}
use Rattle.stats.specs.Factors.{million}
use Rattle.stats.proofs.Shares.{either_within}
use Rattle.stats.proofs.factors.either.Goals as goal

pub returns-clause-value : goal.returns-clause-value
returns-clause-value c = ap (λ twice. c.args.one + c.args.other - twice) c.both-counted_twice.ensures.value

pub returns-clause-parts : goal.returns-clause-parts
returns-clause-parts c = subst (λ twice. c.args.one + c.args.other - twice ≤ million) (sym c.both-counted_twice.ensures.value) (either_within c.args.one c.args.other c.requires.one c.requires.other)
