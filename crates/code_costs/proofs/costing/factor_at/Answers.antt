use Rattle.std.proofs.Common.{Some, None, map, sym, ap, ◌∙◌}
use Rattle.std.specs.Option.{option_copied}
use Rattle.stats.specs.View.{stats_of}
use Rattle.code_costs.proofs.Costs.{factor_kept, parts_kept}
use Rattle.code_costs.proofs.costing.factor_at.Goals as goal

pub returns-in-Some-clause-value : goal.returns-in-Some-clause-value
returns-in-Some-clause-value g c =
    let p = c.args.problem.now in
    factor_kept p.selections c.args.number (Some c.in-Some.selection.now) (ap option_copied (sym c.in-Some.is) ∙ c.get.ensures) (map (λ s. stats_of s.now) p.statistics.now) p.setting.now.conditions p.prepared c.if-number-eq0.false

pub returns-in-Some-clause-parts : goal.returns-in-Some-clause-parts
returns-in-Some-clause-parts g c = let p = c.args.problem.now in parts_kept p.selections _ c.in-Some.selection.now (ap option_copied (sym c.in-Some.is) ∙ c.get.ensures) p.parts

pub returns-in-None-clause-value : goal.returns-in-None-clause-value
returns-in-None-clause-value g c =
    let p = c.args.problem.now in
    factor_kept p.selections c.args.number None (ap option_copied (sym c.in-None.is) ∙ c.get.ensures) (map (λ s. stats_of s.now) p.statistics.now) p.setting.now.conditions p.prepared c.if-number-eq0.false
