use Rattle.std.proofs.Common.{◌≡◌, ◌++◌, drop, map}
use Rattle.row_ast.specs.View.{expr_of}
use Rattle.scope.specs.View.{entries_of}
use Rattle.bound_plans.specs.Named.{named}
use Rattle.engine.proofs.explaining.named_conditions.Given as goal

abbrev pub invariant-loop-condition : goal.invariant-loop-condition
invariant-loop-condition g l = map expr_of l.all ++ map (named (entries_of l.entries)) (drop l.condition-index l.conditions) ≡ map (named (entries_of l.entries)) l.conditions
