-- What plans of a role's query are made from.
use Rattle.std.specs.Prelude.{ℕ, List, map}
use Rattle.value.specs.Names.{Name}
use Rattle.scope.specs.Entry.{Entry}
use Rattle.catalog.specs.Catalog.{Catalog}
use Rattle.access.specs.Guards.{frame}
use Rattle.resolve.specs.Resolved.{Bound}
use Rattle.algebra.specs.PlanningList.{planning_list, remaining_lefts}
use Rattle.trailcheck.specs.Settings.{Setting}
use Rattle.store.specs.Derived.{indexed_columns}

-- of each entry, the columns of its table that have an index
abbrev pub indexed : List Entry → List (List ℕ)
indexed entries = map (λ e. indexed_columns e.table.indexes) entries

-- the guards of the entries for the role, the indexes of their tables, and what the query is planned with
abbrev pub setting : Catalog → Name → Bound → Setting
setting cat role b = record { frame = frame cat role b.entries; indexed = indexed b.entries; conditions = planning_list b.query; lefts = remaining_lefts b.query }
