-- The reading of a text, record by record.
use Rattle.std.specs.Prelude.{ℕ, ◌+◌, ◌-◌, ◌≤◌, ◌≡◌, true, List, [], ◌∷◌, ◌++◌, length, take, Option, Some, None, MatchOption, unwrap_or, Result, Ok, Err, IfErr, OnOk, ⊤, All}
use Rattle.csv_records.specs.Left.{Left, NextIsUneven, TakesFirst}
use Rattle.value.specs.Datum.{Row}
use Rattle.memory.specs.declared.failure.Failure.{Failure}
use Rattle.memory.specs.declared.failure.Failure.TheVariants.{Error, OutOfMemory}
use Rattle.tables.specs.declared.LoadError.{LoadError}
use Rattle.tables.specs.declared.LoadError.TheVariants as error
use Rattle.tables.specs.Loading.{Fields, Follows, StopsAfterGood, cells_of, is_fault, load_of, names, reported, rows_of}
use Rattle.value.specs.Columns.{Column}

-- the records are those that are known, if they are
abbrev pub AreKnown : Option (List Fields) → List Fields → Type 0
AreKnown None recs = ⊤
AreKnown (Some known) recs = known ≡ recs

-- the next record was not read: a read failed, or else the record is uneven
abbrev pub Refuses : ℕ → Left → Left → Failure LoadError → Type 0
Refuses row old new e = MatchOption new.failure ((e ≡ Error (error.Reader row)) × NextIsUneven old) (λ why. e ≡ reported why row)

-- the first record was read and is the header, or there is no header
abbrev pub HeaderIs : List Column → Left → Left → Result (Unit {0}) (Failure LoadError) → Type 0
HeaderIs cols old new (Ok u) = (h : Fields) × (names cols h ≡ true) × TakesFirst old.records new.records true h
HeaderIs cols old new (Err OutOfMemory) = ⊤
HeaderIs cols old new (Err (Error e)) = (is_fault new.failure e ≡ true → (room : ℕ) → load_of cols room (unwrap_or old.records []) ≡ Err e)
    × ((row : ℕ) → e ≡ error.Reader row → row ≡ 0)

-- the row that the fields spell was added
abbrev pub AddsRow : List Column → ℕ → Fields → List Row → List Row → Type 0
AddsRow cols row fs old new = (values : Row) × (new ≡ old ++ values ∷ []) × (length values ≡ length cols) × (cells_of cols row 0 fs ≡ Ok values)

-- the value that was filled, where the result is ok
abbrev pub filled : {X Y E : Type 0} → Y → Result X E → Result Y E
filled y (Ok x) = Ok y
filled y (Err e) = Err e

-- the rows after the header are those of some records, which are those that are known, or the error is theirs
abbrev pub RowsFollow : List Column → ℕ → Option (List Fields) → Left → Result (List Row) (Failure LoadError) → Type 0
RowsFollow cols room known left result = (recs : List Fields) × AreKnown known recs
    × Follows (λ rows. rows) left.failure (rows_of cols room 1 recs) result
    × OnOk result (length recs + 1 ≡ left.given)
    × IfErr result (λ e. (row : ℕ) → e ≡ Error (error.Reader row) → (row - 1 ≤ length recs) × (rows : List Row) × (rows_of cols room 1 (take (row - 1) recs) ≡ Ok rows))

-- the same of a text with its header
abbrev pub LoadFollows : List Column → ℕ → Option (List Fields) → Left → Result (List Row) (Failure LoadError) → Type 0
LoadFollows cols room known left result = (recs : List Fields) × AreKnown known recs
    × Follows (λ rows. rows) left.failure (load_of cols room recs) result
    × OnOk result (length recs ≡ left.given)
    × StopsAfterGood cols room recs result

-- rows were added after those that there were, each with a value for each column and so many at the most, and they follow as is
-- said of them and the result
pub record Added (cols : List Column) (room : ℕ) (Follow : Result (List Row) (Failure LoadError) → Type 0) (old new : List Row) (result : Result (Unit {0}) (Failure LoadError)) : Type 0 where
  pub rows : List Row
  pub all : new ≡ old ++ rows
  pub wide : All (λ r. length r ≡ length cols) rows
  pub few : length rows ≤ room
  pub follow : Follow (filled rows result)
