use Rattle.std.proofs.Common.{◌≡◌, drop}
use Rattle.std.specs.Prelude.{map}
use Rattle.plan_texts.specs.View.{plan_entry_of}
use Rattle.plan_trees.specs.PlanTrees.{has_alias}
use Rattle.plan_trees.proofs.names.has_alias.Given as goal

abbrev pub invariant-loop-step : goal.invariant-loop-step
invariant-loop-step g l = has_alias (map plan_entry_of l.entries) (drop l.step-index l.steps) l.name ≡ has_alias (map plan_entry_of l.entries) l.steps l.name
