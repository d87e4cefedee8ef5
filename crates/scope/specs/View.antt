-- The views of the Rust types of entries and bound queries as spec data.
use Rattle.std.specs.Prelude.{List, map, option_map}
use Rattle.row_ast.specs.View.{condition_of}
use Rattle.row_objects.specs.View.{table_of}
use Rattle.scope.specs.declared.entry.Entry as entry
use Rattle.scope.specs.Entry.{Entry}

abbrev pub entry_of : {A : Type 0} → entry.Entry A → Entry
entry_of e = record { table = table_of e.table; alias = e.alias.now; first = e.first; on = option_map (λ c. condition_of c.now) e.on }

abbrev pub entries_of : {A : Type 0} → List (entry.Entry A) → List Entry
entries_of entries = map (λ e. entry_of e) entries
