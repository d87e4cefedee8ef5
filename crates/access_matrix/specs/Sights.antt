-- What is found of a role and a table, and what is reported of some roles and tables.
use Rattle.std.specs.Prelude.{◌≡◌, ◌≤◌, ℕ, Bool, false, not, ◌&&◌, ◌||◌, ◌==◌, List, ◌++◌, filter, get_or, length, map}
use Rattle.std.specs.List.{list_any}
use Rattle.value.specs.Names.{Name}
use Rattle.answer_rows.specs.Growing.{only}
use Rattle.store.specs.Database.{Database, rows_of}
use Rattle.access_matrix.specs.Changes.{change_row, columns_gained, gains, is_changed, is_pair, rows_gained}
use Rattle.access_matrix.specs.Reading.{columns_read, reads_row}
use Rattle.access_matrix.specs.declared.report.Pair.{Pair}
use Rattle.access_matrix.specs.declared.report.Report.{Report}
use Rattle.access_matrix.specs.declared.gains.Gain.{Gain}
use Rattle.access_matrix.specs.declared.sights.Sight.{Sight}

-- the rows and columns of a table that the role reads; there may be no mark past some row, if it reads nothing of those
pub record IsSight {A : Type 0} (db : Database) (role table : Name) (s : Sight A) : Type 0 where
  pub within : length s.rows ≤ length (rows_of db table)
  pub rows : (number : ℕ) → get_or s.rows number false ≡ reads_row db role table number
  pub columns : map (λ c. c.now) s.columns ≡ columns_read db role table

-- what it gains
pub record IsGain {A : Type 0} (old new : Database) (role table : Name) (g : Gain A) : Type 0 where
  pub rows : g.rows ≡ length (rows_gained old new role table)
  pub columns : map (λ c. c.now) g.columns ≡ columns_gained old new role table

-- it is not nothing
abbrev pub is_any : {A : Type 0} → Gain A → Bool
is_any g = not (g.rows == 0) || not (length g.columns == 0)

abbrev pub pair_of : Pair → Name × Name
pair_of p = (p.role.now, p.table.now)

-- the role gains something of the table, and that is not allowed
abbrev pub is_opened : (old new : Database) → (allowed : List (Name × Name)) → Name × Name → Bool
is_opened old new allowed pair = gains old new pair.0 pair.1 && not (list_any (λ other. is_pair pair other) allowed)

-- the rows of some roles and tables come to a report, and whether one of them opens something
pub record IsReported {A : Type 0} (old new : Database) (allowed pairs : List (Name × Name)) (before after : Report A) : Type 0 where
  pub rows : after.rows ≡ only (before.rows.rows ++ map (λ pair. change_row old new pair) (filter (λ pair. is_changed old new pair) pairs))
  pub opens : after.opens ≡ (before.opens || list_any (λ pair. is_opened old new allowed pair) pairs)
