-- The views of the Rust types as spec data.
use Rattle.std.specs.Prelude.{map}
use Rattle.plan_texts.specs.View.{plan_entry_of, plan_of}
use Rattle.plan_trees.specs.declared.source.Node as nodes
use Rattle.plan_trees.specs.declared.source.Source as sources
use Rattle.plan_trees.specs.PlanTrees.{Node, Source}

-- what a tree is made from
abbrev pub source_of : {A : Type 0} → sources.Source A → Source
source_of s = record { entries = map plan_entry_of s.entries.now; tables = map (λ t. t.now) s.tables.now; plan = plan_of s.plan.now }

-- a node
abbrev pub node_of : nodes.Node → Node
node_of n = record { is_scan = n.is_scan; step = n.step; before = n.before.now; depth = n.depth }
