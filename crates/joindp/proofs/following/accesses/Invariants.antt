use Rattle.std.proofs.Common.{◌≡◌, ◌++◌, drop}
use Rattle.std.specs.List.{flat_map}
use Rattle.joindp.specs.Following as spec
use Rattle.code_costs.specs.View.{problem_of}
use Rattle.joindp.proofs.following.accesses.Given as goal

abbrev pub invariant-loop-column : goal.invariant-loop-column
invariant-loop-column g l =
    l.accesses ++ flat_map (spec.by_index (problem_of l.problem).setting l.entry) (drop l.column-index l.column-items) ≡ spec.accesses (problem_of l.problem).setting l.entry
