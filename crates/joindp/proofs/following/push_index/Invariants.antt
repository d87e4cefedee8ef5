use Rattle.std.proofs.Common.{◌≡◌, ◌+◌, ◌-◌, ◌++◌, map, filter}
use Rattle.std.specs.List.{range_with_len}
use Rattle.expr.specs.declared.code.Access.TheVariants.{Range}
use Rattle.trailcheck.specs.Admissible.{bounds, condition_at, is_some_and}
use Rattle.joindp.specs.Following as spec
use Rattle.code_costs.specs.View.{problem_of}
use Rattle.joindp.proofs.following.push_index.Given as goal

abbrev pub invariant-loop-k : goal.invariant-loop-k
invariant-loop-k g l =
    l.known ++ map (λ number. Range l.column number) (filter (λ number. is_some_and (bounds l.entry l.column) (condition_at (problem_of l.problem).setting number)) (range_with_len (l.k + 1) (l.count - l.k)))
    ≡ l.fn.known ++ spec.by_index (problem_of l.problem).setting l.entry l.column
