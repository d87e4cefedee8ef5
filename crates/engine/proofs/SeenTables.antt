-- What is known of the rows that roles see, beside the guards of a frame.
use Rattle.std.proofs.Common.{◌≡◌, Bool, List, [], map, refl, sym, ap, subst, ◌∙◌, inl, inr, arith}
use Rattle.std.specs.Prelude.{Some}
use Rattle.std.specs.List.{Contains}
use Rattle.memory.proofs.Cases.{some_is}
use Rattle.value.specs.Datum.{Row}
use Rattle.value.specs.Names.{Name}
use Rattle.row_objects.specs.Objects.{Table}
use Rattle.catalog.specs.Catalog.{table_named}
use Rattle.access.specs.Access.{sees}
use Rattle.stats.specs.Marked.{AreStatsOf}
use Rattle.tuples.specs.Guards.{AreSeen, Guard, shows}
use Rattle.seen_tables.specs.Known.{AreKnown, IsSeen, Keeps, SeenTable}
use Rattle.store.specs.Database.{Database, rows_of}
use Rattle.engine.specs.SeenTables.{AreSeenIn, IsSeenIn}

-- at first nothing is known
pub none_seen : (database : Database) → AreSeenIn database []
unfolding AreSeenIn
none_seen database = λ x c. let within = c.1 in absurd (omega (arith, within))

map_same : (p q : Row → Bool) → ((row : Row) → p row ≡ q row) → (rows : List Row) → map p rows ≡ map q rows
map_same p q same rows = λ i. map (λ row. same row i) rows

-- a table that the database has under a name, its rows, and a guard that shows those that the role sees
module _ (database : Database) (role name : Name) (t : Table) (guard : Guard) (rows : List Row) (named : table_named name database.catalog ≡ Some t) (are : rows ≡ rows_of database name)
    (shown : (row : Row) → shows role guard row ≡ sees database.catalog role t row) where
  seen_as : (r n : Name) (u : Table) → r ≡ role → n ≡ name → u ≡ t → map (sees database.catalog r u) (rows_of database n) ≡ map (shows role guard) rows
  seen_as r n u same_role same_name same_table =
      ap (λ r. map (sees database.catalog r u) (rows_of database n)) same_role
      ∙ ap (λ n. map (sees database.catalog role u) (rows_of database n)) same_name
      ∙ ap (λ u. map (sees database.catalog role u) (rows_of database name)) same_table
      ∙ ap (map (sees database.catalog role t)) (sym are)
      ∙ sym (map_same (shows role guard) (sees database.catalog role t) shown rows)

  known_is : (x : SeenTable) → IsSeenIn database x → x.role ≡ role → x.table ≡ name → IsSeen role name guard rows x
  known_is x right of_role of_table = record {
    of_role = of_role;
    of_table = of_table;
    of_rows = right.of_rows t (ap (λ n. table_named n database.catalog) of_table ∙ named) ∙ seen_as x.role x.table t of_role of_table refl;
    statistics = subst (λ rs. AreStatsOf rs x.statistics) (ap (rows_of database) of_table ∙ sym are) right.statistics;
  }

  seen_is : (x : SeenTable) → IsSeen role name guard rows x → IsSeenIn database x
  seen_is x seen = record {
    of_rows = λ u is. seen.of_rows ∙ sym (seen_as x.role x.table u seen.of_role seen.of_table (some_is u t (sym is ∙ ap (λ n. table_named n database.catalog) seen.of_table ∙ named)));
    statistics = subst (λ rs. AreStatsOf rs x.statistics) (are ∙ ap (rows_of database) (sym seen.of_table)) seen.statistics;
  }

  pub are_known : (all : List SeenTable) → AreSeenIn database all → AreKnown role name guard rows all
  unfolding AreSeenIn
  are_known all right = λ x c of_role of_table. known_is x (right x c) of_role of_table

  pub still_seen : (old new : List SeenTable) → AreSeenIn database old → Keeps role name guard rows old new → AreSeenIn database new
  unfolding AreSeenIn
  still_seen old new right keeps = λ x c. elim (keeps x c) [
    | inl was ↦ right x was
    | inr made ↦ seen_is x made
  ]

  -- the marks of what is known are those of the rows that the guard shows
  pub marks_seen : (all : List SeenTable) → AreSeenIn database all → (marks : List Bool) → (x : SeenTable) × Contains all x × (x.role ≡ role) × (x.table ≡ name) × (x.statistics.marks ≡ marks) → AreSeen role guard rows marks
  marks_seen all right marks found = sym found.4 ∙ (are_known all right found.0 found.1 found.2 found.3).of_rows
