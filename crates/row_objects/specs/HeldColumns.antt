-- The columns on which a role holds grants.
use Rattle.std.specs.Prelude.{◌≡◌, List, Some}
use Rattle.std.specs.Str.{bytes_eq}
use Rattle.std.specs.List.{list_any}
use Rattle.value.specs.Names.{Name}
use Rattle.row_objects.specs.Grants.{Grant, has_grant}

-- SELECT on a column, for a role
abbrev pub on_column : Name → Name → Grant
on_column to column = record { to = to; column = Some column }

-- a name is among the columns exactly where there is a grant to the role on the column of that name
abbrev pub AreHeld : List Grant → Name → List Name → Type 0
AreHeld gs to columns = (column : Name) → list_any (bytes_eq column) columns ≡ has_grant gs (on_column to column)
