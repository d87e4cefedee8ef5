use Rattle.std.proofs.Common.{◌≡◌, ◌++◌, replicate}
use Rattle.row_terms.specs.declared.path.Branch.TheVariants.{First}
use Rattle.rewrite.proofs.steps.path_further.Given as goal

abbrev pub invariant-loop : goal.invariant-loop
invariant-loop g l = l.node ≡ l.path ++ replicate l.counter First
