-- New tables.
use Rattle.std.specs.Prelude.{false, List, []}
use Rattle.value.specs.Columns.{Column}
use Rattle.value.specs.Names.{Name}
use Rattle.row_objects.specs.Objects.{Table}

-- a new table, which its creator owns
abbrev pub new_table : Name → Name → List Column → Table
new_table actor name columns = record { name = name; columns = columns; owner = actor; row_security = false; forced = false; policies = []; grants = []; indexes = [] }
