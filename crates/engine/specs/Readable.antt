-- Two contents that are the same to a role in all that it may read.
use Rattle.std.specs.Prelude.{◌≡◌, ℕ, ◌+◌, true, List, [], ◌∷◌, map, Contains, IsPermutation, if◌then◌else◌}
use Rattle.value.specs.Columns.{Column}
use Rattle.value.specs.Datum.{Row}
use Rattle.value.specs.Names.{Name}
use Rattle.value.specs.Restricted.{restricted}
use Rattle.row_objects.specs.Objects.{Table}
use Rattle.catalog.specs.Catalog.{Catalog}
use Rattle.access.specs.Access.{granted, select_on, visible}
use Rattle.access.specs.Needed.{select_any}
use Rattle.store.specs.Database.{Rows}

-- the indexes of those of these columns on which the role has SELECT; the first has an index
abbrev pub granted_from : Catalog → Name → Table → ℕ → List Column → List ℕ
granted_from cat role t index [] = []
granted_from cat role t index (c ∷ more) = if granted cat role (select_on t c.name) then index ∷ granted_from cat role t (index + 1) more else granted_from cat role t (index + 1) more

abbrev pub granted_columns : Catalog → Name → Table → List ℕ
granted_columns cat role t = granted_from cat role t 0 t.columns

-- the rows of a table that the role sees, restricted to the columns that are granted to it
abbrev pub readable : Catalog → Name → Table → List Row → List Row
readable cat role t rows = map (restricted (granted_columns cat role t)) (visible cat role t rows)

-- of each table on some part of which the role has SELECT, these are the same bag in both
abbrev pub ReadsSame : Catalog → Name → Rows → Rows → Type 0
ReadsSame cat role one other = (t : Table) → Contains cat.tables t → granted cat role (select_any t) ≡ true → IsPermutation (readable cat role t (one t.name)) (readable cat role t (other t.name))
