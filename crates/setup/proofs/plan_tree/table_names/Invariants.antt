use Rattle.std.proofs.Common.{◌≡◌, ◌++◌, List, ℕ, drop, map}
use denote.Ref.{Bor}
use Rattle.scope.specs.View.{entries_of}
use Rattle.setup.specs.PlanTree.{table_names}
use Rattle.setup.proofs.plan_tree.table_names.Given as goal

abbrev pub invariant-loop-entry : goal.invariant-loop-entry
invariant-loop-entry g l = map (λ (t : Bor (List ℕ)). t.now) l.names.items ++ table_names (entries_of (drop l.entry-index l.entries)) ≡ table_names (entries_of l.entries)
