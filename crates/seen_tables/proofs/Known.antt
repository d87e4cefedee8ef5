-- What is known of a table for a role, and what is asked for.
use Rattle.std.proofs.Common.{◌≡◌, ◌∙◌, true, List}
use Rattle.std.specs.Str.{bytes_eq}
use Rattle.std.proofs.lemmas.Slice.Eq.{bytes_eq-Decides}
use Rattle.value.specs.Datum.{Row}
use Rattle.value.specs.Names.{Name}
use Rattle.value.proofs.Spelling.{both}
use Rattle.stats.specs.Marked.{AreStatsOf}
use Rattle.tuples.specs.Guards.{Guard}
use Rattle.seen_tables.specs.Known.{IsSeen, SeenTable, is_of}

pub of_both : (role table : Name) (x : SeenTable) → is_of role table x ≡ true → (x.role ≡ role) × (x.table ≡ table)
of_both role table x h =
    let same = both (bytes_eq x.role role) (bytes_eq x.table table) h in
    ((bytes_eq-Decides x.role role).0 same.0, (bytes_eq-Decides x.table table).0 same.1)

-- with more counted it is still of that role and table
pub still_seen : (role table : Name) (guard : Guard) (rows : List Row) (one new : SeenTable) → IsSeen role table guard rows one → new.role ≡ one.role → new.table ≡ one.table → new.statistics.marks ≡ one.statistics.marks
    → AreStatsOf rows new.statistics → IsSeen role table guard rows new
still_seen role table guard rows one new seen role_is table_is marks_are stats = record {
  of_role = role_is ∙ seen.of_role;
  of_table = table_is ∙ seen.of_table;
  of_rows = marks_are ∙ seen.of_rows;
  statistics = stats;
}
