-- The views of guards and of what a query runs over.
use Rattle.std.specs.Prelude.{map}
use Rattle.expr.specs.View.{bound_query_of}
use Rattle.tuples.specs.declared.world.GuardedTable as table
use Rattle.tuples.specs.declared.world.World as world
pub use Rattle.tuples.specs.GuardView.{guard_of}
use Rattle.tuples.specs.World.{GuardedTable, World}

abbrev pub guarded_table_of : {A : Type 0} → table.GuardedTable A → GuardedTable
guarded_table_of t = record { rows = t.rows.now.rows; guard = guard_of t.guard.now }

abbrev pub world_of : {A : Type 0} → world.World A → World
world_of w = record { role = w.role.now; query = bound_query_of w.query.now; tables = map (λ t. guarded_table_of t) w.tables.now }
