-- Rows after those that a table has.
use Rattle.std.proofs.Common.{ℕ, ◌≡◌, ◌-◌, ◌<◌, ◌≤◌, ◌^◌, List, [], ◌++◌, length, map, Option, Some, None, Result, Ok, Err, IfSome, OnErr, OnOk, All, refl, sym, ap, ◌∙◌, arith, take, ◌+◌}
use Rattle.std.specs.Prelude.{IsErrAnd}
use Rattle.std.proofs.lemmas.List.{length-append, length-map}
use Rattle.std.proofs.lemmas.List.Elements.{All-append}
use Rattle.std.proofs.Math.Seq.{take-append_seam}
use Rattle.csv_records.specs.Left.{Left}
use Rattle.memory.specs.declared.failure.Failure.{Failure}
use Rattle.memory.specs.declared.failure.Failure.TheVariants.{OutOfMemory}
use Rattle.memory.specs.Gives.{Gives, IsFailure}
use Rattle.value.specs.declared.column.Column as declared
use Rattle.value.specs.Columns.{Column, column_of}
use Rattle.value.specs.Datum.{Row}
use Rattle.tables.specs.declared.LoadError.{LoadError}
use Rattle.tables.specs.declared.TheConstants.{MAX_ROWS}
use Rattle.tables.specs.Loading.{Fields, StopsAfterGood, TableRows, appended, load_of}
use Rattle.tables.specs.Reading.{LoadFollows}
use Rattle.tables.proofs.Cells.{exit_gives}
use Rattle.tables.proofs.Follow.{same_load, stops_of_known}

-- ---- the table before

pub columns_are : {A : Type 0} (read columns : List (declared.Column A)) (rows : List Row) (t : TableRows) → read ≡ columns → record { columns = map column_of columns; rows = rows } ≡ t → map column_of read ≡ t.columns
columns_are read columns rows t same is = ap (map column_of) same ∙ ap (λ (v : TableRows). v.columns) is

pub count_is : (cols : List Column) (n : ℕ) (rows : List Row) (t : TableRows) → n ≡ length rows → record { columns = cols; rows = rows } ≡ t → n ≡ length t.rows
count_is cols n rows t count is = count ∙ ap (λ (v : TableRows). length v.rows) is

-- ---- no rows came

no_value : {T E : Type 0} (P : Type 0) (r : Result T E) (e : E) → IsErrAnd r (λ y. y ≡ e) → OnOk r P
no_value P (Ok x) e is = absurd is
no_value P (Err y) e is = tt

exit_stops : {X : Type 0} (cols : List Column) (room : ℕ) (known : Option (List Fields)) (e : Failure LoadError) (r : Result X (Failure LoadError)) → IsErrAnd r (λ y. y ≡ e)
    → IfSome known (λ recs. StopsAfterGood {Y = Unit {0}} cols room recs (Err e)) → IfSome known (λ recs. StopsAfterGood cols room recs r)
exit_stops cols room None e r is stops = tt
exit_stops cols room (Some recs) e (Ok x) is stops = tt
exit_stops cols room (Some recs) e (Err y) is stops = λ row same pos. stops row (sym is ∙ same) pos

module _ (cols cols' : List Column) (n : ℕ) (old : List Row) (known : Option (List Fields)) (left : Left) (at : cols ≡ cols') (count : n ≡ length old) where
  -- the error is theirs
  module _ (e : Failure LoadError) (r : Result (Unit {0}) (Failure LoadError)) (is : IsErrAnd r (λ y. y ≡ e)) (follows : LoadFollows cols (MAX_ROWS - n) known left (Err e)) where
    same_fault : LoadFollows cols' (MAX_ROWS - length old) known left (Err e)
    same_fault = same_load cols cols' (MAX_ROWS - n) (MAX_ROWS - length old) known left (Err e) at (ap (λ (m : ℕ). MAX_ROWS - m) count) follows

    pub refused_stops : IfSome known (λ recs. StopsAfterGood cols' (MAX_ROWS - length old) recs r)
    refused_stops = exit_stops cols' (MAX_ROWS - length old) known e r is (stops_of_known cols' (MAX_ROWS - length old) known left e same_fault)

  -- the rows are theirs
  module _ (rows new : List Row) (grown : new ≡ old ++ rows) (follows : LoadFollows cols (MAX_ROWS - n) known left (Ok rows)) where
    same_rows : LoadFollows cols' (MAX_ROWS - length old) known left (Ok rows)
    same_rows = same_load cols cols' (MAX_ROWS - n) (MAX_ROWS - length old) known left (Ok rows) at (ap (λ (m : ℕ). MAX_ROWS - m) count) follows

-- ---- memory ran out

module _ {X : Type 0} (r : Result X (Failure LoadError)) (is : IsErrAnd r (λ e. e ≡ OutOfMemory)) where
  pub memory_known : (view : X → List Row) (due : List Fields → Result (List Row) LoadError) (known : Option (List Fields)) → IfSome known (λ recs. Gives view r (due recs))
  memory_known view due None = tt
  memory_known view due (Some recs) = exit_gives view r OutOfMemory (due recs) is tt

  pub memory_some : (view : X → List Row) (due : List Fields → Result (List Row) LoadError) (given : ℕ) → (recs : List Fields) × Gives view r (due recs) × OnOk r (length recs ≡ given)
  memory_some view due given = ([], exit_gives view r OutOfMemory (due []) is tt, no_value _ r OutOfMemory is)

  pub memory_stops : (cols : List Column) (room : ℕ) (known : Option (List Fields)) → IfSome known (λ recs. StopsAfterGood cols room recs r)
  memory_stops cols room None = tt
  memory_stops cols room (Some recs) = by_result r is where
    by_result : (r : Result X (Failure LoadError)) → IsErrAnd r (λ e. e ≡ OutOfMemory) → StopsAfterGood cols room recs r
    by_result (Ok x) is = absurd is
    by_result (Err e) is = λ row same pos. cc (is, same)

-- nothing stops where there are rows
pub no_stop : {X : Type 0} (x : X) (cols : List Column) (room : ℕ) (known : Option (List Fields)) → IfSome known (λ recs. StopsAfterGood {Y = X} cols room recs (Ok x))
no_stop x cols room None = tt
no_stop x cols room (Some recs) = tt

-- ---- a table that has no rows

appended_none : (due : Result (List Row) LoadError) → appended [] due ≡ due
appended_none (Ok rows) = refl
appended_none (Err e) = refl

module _ (cols cols' : List Column) (old : List Row) (at : cols ≡ cols') (none : old ≡ []) where
  same_due : (recs : List Fields) → appended old (load_of cols (MAX_ROWS - length old) recs) ≡ load_of cols' MAX_ROWS recs
  same_due recs = rw (none, at) (appended_none (load_of cols' MAX_ROWS recs))

  module _ {X : Type 0} (view : X → List Row) (e : Failure LoadError) (r : Result X (Failure LoadError)) (is : IsErrAnd r (λ y. y ≡ e)) where
    pub first_refused_known : (known : Option (List Fields)) → IfSome known (λ recs. IsFailure e (appended old (load_of cols (MAX_ROWS - length old) recs))) → IfSome known (λ recs. Gives view r (load_of cols' MAX_ROWS recs))
    first_refused_known None h = tt
    first_refused_known (Some recs) h = let fails = rw (same_due recs) at h in exit_gives view r e (load_of cols' MAX_ROWS recs) is fails

    pub first_refused_some : (given : ℕ) → ((recs : List Fields) × IsFailure e (appended old (load_of cols (MAX_ROWS - length old) recs)) × Unit {0})
        → (recs : List Fields) × Gives view r (load_of cols' MAX_ROWS recs) × OnOk r (length recs ≡ given)
    first_refused_some given (recs, h, u) = let fails = rw (same_due recs) at h in (recs, exit_gives view r e (load_of cols' MAX_ROWS recs) is fails, no_value _ r e is)

    pub first_refused_stops : (known : Option (List Fields)) → IfSome known (λ recs. StopsAfterGood {Y = Unit {0}} cols (MAX_ROWS - length old) recs (Err e)) → IfSome known (λ recs. StopsAfterGood cols' MAX_ROWS recs r)
    first_refused_stops known h = exit_stops cols' MAX_ROWS known e r is (rw (none, at) at h)

  pub first_loaded_known : (new : List Row) (known : Option (List Fields)) → IfSome known (λ recs. appended old (load_of cols (MAX_ROWS - length old) recs) ≡ Ok new) → IfSome known (λ recs. load_of cols' MAX_ROWS recs ≡ Ok new)
  first_loaded_known new None h = tt
  first_loaded_known new (Some recs) h = sym (same_due recs) ∙ h

  pub first_loaded_some : (new : List Row) (given : ℕ) → ((recs : List Fields) × (appended old (load_of cols (MAX_ROWS - length old) recs) ≡ Ok new) × (length recs ≡ given)) → (recs : List Fields) × (load_of cols' MAX_ROWS recs ≡ Ok new) × (length recs ≡ given)
  first_loaded_some new given (recs, loads, many) = (recs, sym (same_due recs) ∙ loads, many)
