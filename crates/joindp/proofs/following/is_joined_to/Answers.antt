use Rattle.std.proofs.Common.{◌∙◌, ap}
use Rattle.std.specs.List.{list_any}
use Rattle.stats.specs.View.{members}
use Rattle.joindp.specs.Following.{join}
use Rattle.code_costs.specs.View.{problem_of}
use Rattle.joindp.proofs.Passing.{any_prepared}
use Rattle.joindp.proofs.following.is_joined_to.Goals as goal

pub returns : goal.returns
returns g c =
    let problem = c.args.problem.now in
    c.some_join.ensures ∙ ap (λ ss. list_any (λ s. join s.columns (members c.args.placed) c.args.entry) ss) c.as_slice.ensures
    ∙ any_prepared (problem_of problem).statistics problem.selections (problem_of problem).setting.conditions (members c.args.placed) c.args.entry problem.prepared
