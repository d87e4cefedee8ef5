-- The entries of a query, as its plans name them.
use Rattle.std.specs.Prelude.{List, map}
use Rattle.value.specs.Columns.{Column}
use Rattle.value.specs.Names.{Name}
use Rattle.scope.specs.Entry.{Entry}
use Rattle.plan_texts.specs.Plans.{PlanEntry}

abbrev pub column_names : List Column → List Name
column_names columns = map (λ c. c.name) columns

abbrev pub plan_entry : Entry → PlanEntry
plan_entry e = record { alias = e.alias; columns = column_names e.table.columns }

-- the alias of each, and the names of its table's columns
abbrev pub plan_entries : List Entry → List PlanEntry
plan_entries entries = map (λ e. plan_entry e) entries
