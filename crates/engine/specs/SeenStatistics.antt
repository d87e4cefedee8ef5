-- The statistics that plans of a role's query are made with: those of the rows that the role sees.
use Rattle.std.specs.Prelude.{ℕ, ◌+◌, List, [], ◌∷◌, ◌++◌, length}
use Rattle.std.specs.List.{flat_map}
use Rattle.value.specs.Datum.{Row}
use Rattle.value.specs.Names.{Name}
use Rattle.expr.specs.declared.bound.ColumnId.{ColumnId}
use Rattle.expr.specs.BoundQuery.{BoundQuery}
use Rattle.expr.specs.Columns.{columns}
use Rattle.expr.specs.Conjuncts.{left_ons, movable_conjuncts}
use Rattle.scope.specs.Entry.{Entry}
use Rattle.catalog.specs.Catalog.{Catalog}
use Rattle.stats.specs.Statistics.{Stats, seen_stats}
use Rattle.report.specs.Restricted.{columns_at}
use Rattle.resolve.specs.Resolved.{Bound}
use Rattle.store.specs.Database.{Rows}
use Rattle.engine.specs.Answer.{seen}

-- the columns that the conditions name which plans of the query are made from: its movable conjuncts, and the ONs of its left joined
-- entries
abbrev pub planned_columns : BoundQuery → List ColumnId
planned_columns q = flat_map columns (movable_conjuncts q ++ left_ons q)

-- of each entry the statistics of the rows that are seen, restricted to its planned columns; the first entry has the number
abbrev pub entry_statistics : BoundQuery → (number : ℕ) → List Entry → (seen : List (List Row)) → List Stats
entry_statistics q number [] seen = []
entry_statistics q number (e ∷ entries) [] = []
entry_statistics q number (e ∷ entries) (rows ∷ seen) =
    seen_stats (columns_at number (planned_columns q)) (length e.table.columns) rows ∷ entry_statistics q (number + 1) entries seen

-- those of the rows that the role sees
abbrev pub seen_statistics : Catalog → Rows → Name → Bound → List Stats
seen_statistics cat rows role b = entry_statistics b.query 0 b.entries (seen cat rows role b.entries)
