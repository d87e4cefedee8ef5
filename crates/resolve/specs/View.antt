-- The views of the Rust type of resolved queries as spec data.
use Rattle.std.specs.Prelude.{map, option_map}
use Rattle.expr.specs.View.{bound_query_of}
use Rattle.scope.specs.View.{entry_of}
use Rattle.resolve.specs.declared.resolved.Bound as bound
use Rattle.resolve.specs.Resolved.{Bound}
use Rattle.row_ast.specs.View.{condition_of, table_ref_of}
use Rattle.resolve.specs.declared.from.JoinedTable as joined
use Rattle.resolve.specs.Entries.{JoinedTable}

abbrev pub joined_table_of : {A : Type 0} → joined.JoinedTable A → JoinedTable
joined_table_of j = record { table = table_ref_of j.table.now; first = j.first; on = option_map (λ c. condition_of c.now) j.on }

abbrev pub bound_of : {A : Type 0} → bound.Bound A → Bound
bound_of b = record { entries = map entry_of b.entries; query = bound_query_of b.query.value }
