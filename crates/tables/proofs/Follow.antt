-- The rows that were read follow from the records.
use Rattle.std.proofs.Common.{ℕ, zero, suc, ◌≡◌, ◌≢◌, ◌+◌, ◌-◌, ◌<◌, ◌≤◌, ◌^◌, Bool, true, false, List, [], ◌∷◌, ◌++◌, length, take, Option, Some, None, Result, Ok, Err, IfSome, All, map, refl, sym, ap, ◌∙◌, arith, rules, length-append, subst}
use Rattle.std.proofs.lemmas.List.{append_assoc, append-nil, length-map}
use Rattle.std.proofs.lemmas.List.Elements.{All-push}
use Rattle.std.specs.Option.{unwrap_or}
use Rattle.std.specs.Prelude.{IsErrAnd, IsErrOf, MatchOption}
use Rattle.csv_records.specs.Left.{Left, counted, failure_after, Fits_length, NextIsUneven, TakesFirst, TakesNext}
use Rattle.memory.specs.declared.failure.Failure.{Failure}
use Rattle.memory.specs.declared.failure.Failure.TheVariants.{Error, OutOfMemory}
use Rattle.memory.specs.Gives.{Gives, IsFailure}
use Rattle.csv_records.specs.declared.RecordError.{RecordError}
use Rattle.csv_records.specs.declared.RecordError.TheVariants as why
use Rattle.value.specs.Datum.{Row}
use Rattle.value.specs.declared.column.Column as declared
use Rattle.tables.specs.declared.LoadError.{LoadError}
use Rattle.tables.specs.declared.LoadError.TheVariants as error
use Rattle.tables.specs.Loading.{Fields, Follows, StopsAfterGood, appended, cells_of, is_fault, load_of, names, reported, rows_of}
use Rattle.value.specs.Columns.{Column, column_of}
use Rattle.tables.specs.Reading.{Added, AddsRow, AreKnown, HeaderIs, LoadFollows, Refuses, RowsFollow, filled}
use Rattle.tables.proofs.Records.{Leaves, cell_fault, leaves_all, leaves_none, leaves_one_less, leaves_other, leaves_some, one_more_row, rows_of-nil, take-seen, too_many, uneven_fault}

-- so many records were seen, and they gave these rows; of the records that are known, the others are left
abbrev pub SeenRows : List Column → ℕ → ℕ → List Row → Option (List Fields) → Option (List Fields) → Type 0
SeenRows cols room done rows known left = (seen : List Fields) × (length seen ≡ done) × (rows_of cols room 1 seen ≡ Ok rows) × Leaves known seen left

fits_length : (expected : Option ℕ) (n m : ℕ) → Fits_length expected n → expected ≡ Some m → n ≡ m
fits_length None n m h e = cc e
fits_length (Some k) n m h e = cc (h, e)

-- a record that was read has the expected number of fields
width : (cols : ℕ) (old new : Left) (r : Fields) → TakesNext old new true r → old.expected ≡ Some cols → (length r ≡ cols) × (new.expected ≡ Some cols)
width cols old new r (gives, fits) expected = let n = fits_length old.expected _ _ (fits refl).0 expected in (n, (fits refl).1 ∙ ap Some n)

pub known_are : (known : Option (List Fields)) → AreKnown known (unwrap_or known [])
known_are None = tt
known_are (Some recs) = refl

-- at the start none were seen
pub start_seen : (cols : List Column) (room : ℕ) (known : Option (List Fields)) → SeenRows cols room 0 [] known known
start_seen cols room known = ([], refl, rows_of-nil cols room 1, leaves_all known)

-- one more row was read
one_more_seen : (cols : List Column) (room done : ℕ) (rows : List Row) (values : Row) (known : Option (List Fields)) (old new : Left) (r : Fields) → done < room
    → SeenRows cols room done rows known old.records → TakesNext old new true r → old.expected ≡ Some (length cols) → cells_of cols (done + 1) 0 r ≡ Ok values
    → SeenRows cols room (done + 1) (rows ++ values ∷ []) known new.records
one_more_seen cols room done rows values known old new r lt (seen, len, was, leaves) gives expected cells = (
  seen ++ r ∷ [],
  search (rules, length-append, len),
  one_more_row cols room done seen rows r values lt len was (width (length cols) old new r gives expected).0 cells,
  leaves_one_less known seen old.records new.records r leaves gives.0,
)

-- there are no more records
all_seen : (cols : List Column) (room done : ℕ) (rows : List Row) (known : Option (List Fields)) (old new : Left) (r : Fields)
    → SeenRows cols room done rows known old.records → TakesNext old new false r → new.given ≡ counted false old.given → old.given ≡ done + 1 → RowsFollow cols room known new (Ok rows)
all_seen cols room done rows known old new r (seen, len, was, leaves) gives counts before =
    (seen, leaves_none known seen old.records new.records r leaves gives.0, was, omega (arith, len, counts, before), tt)

-- memory ran out
out_of_memory : (cols : List Column) (room : ℕ) (known : Option (List Fields)) (new : Left) (e : Failure LoadError) → e ≡ OutOfMemory → RowsFollow cols room known new (Err e)
out_of_memory cols room known new e is = rw is (unwrap_or known [], known_are known, tt, tt, λ row same. cc same)

-- a cell of the next record is refused
row_refused : {X : Type 0} (view : X → Row) (cols : List Column) (room done : ℕ) (rows : List Row) (known : Option (List Fields)) (old new : Left) (r : Fields) (e : Failure LoadError) → done < room
    → SeenRows cols room done rows known old.records → TakesNext old new true r → old.expected ≡ Some (length cols)
    → Gives view (Err e) (cells_of cols (done + 1) 0 r) → ((row : ℕ) → e ≢ Error (error.Reader row)) → RowsFollow cols room known new (Err e)
row_refused view cols room done rows known old new r OutOfMemory lt seen gives expected cells other = out_of_memory cols room known new OutOfMemory refl
row_refused view cols room done rows known old new r (Error e) lt (seen, len, was, leaves) gives expected cells other =
    let rest = leaves_some known (seen ++ r ∷ []) new.records (leaves_one_less known seen old.records new.records r leaves gives.0) in
    let n = (width (length cols) old new r gives expected).0 in (
      (seen ++ r ∷ []) ++ rest.0,
      rest.1,
      λ fault. cell_fault cols room done seen rows r rest.0 e lt len was n cells,
      tt,
      λ row same. absurd (other row same),
    )

-- there is no room for the next record
no_room_left : (cols : List Column) (room done : ℕ) (rows : List Row) (known : Option (List Fields)) (old new : Left) (r : Fields) → done ≡ room
    → SeenRows cols room done rows known old.records → TakesNext old new true r → old.expected ≡ Some (length cols) → RowsFollow cols room known new (Err (Error error.TooMany))
no_room_left cols room done rows known old new r same (seen, len, was, leaves) gives expected =
    let rest = leaves_some known (seen ++ r ∷ []) new.records (leaves_one_less known seen old.records new.records r leaves gives.0) in
    let n = (width (length cols) old new r gives expected).0 in
    ((seen ++ r ∷ []) ++ rest.0, rest.1, λ fault. too_many cols room seen rows r rest.0 (len ∙ same) was n, tt, λ row is. cc is)

reader_row : (row done : ℕ) → Error (error.Reader (done + 1)) ≡ Error (error.Reader row) → row - 1 ≡ done
reader_row row done is = let same : row ≡ done + 1 = cc is in omega arith

seen_within : (seen rest : List Fields) (n : ℕ) → length seen ≡ n → n ≤ length (seen ++ rest)
seen_within seen rest n e = rw length-append (omega (arith, e))

-- the records before it were read
before_unread : (cols : List Column) (room done : ℕ) (seen rest : List Fields) (rows : List Row) → length seen ≡ done → rows_of cols room 1 seen ≡ Ok rows → (row : ℕ) → Error (error.Reader (done + 1)) ≡ Error (error.Reader row)
    → (row - 1 ≤ length (seen ++ rest)) × (rows : List Row) × (rows_of cols room 1 (take (row - 1) (seen ++ rest)) ≡ Ok rows)
before_unread cols room done seen rest rows len was row is = (rw (reader_row row done is) (seen_within seen rest done len), rows, rw (reader_row row done is, take-seen seen rest done len) was)

-- the next record is uneven
uneven_row : (cols : List Column) (room done : ℕ) (rows : List Row) (known : Option (List Fields)) (old new : Left) → done ≤ room
    → SeenRows cols room done rows known old.records → old.expected ≡ Some (length cols) → NextIsUneven old → RowsFollow cols room known new (Err (Error (error.Reader (done + 1))))
uneven_row cols room done rows known old new le (seen, len, was, leaves) expected next =
    let n : next.0 ≡ length cols = cc (next.1, expected) in
    let o = leaves_other known seen old.records next.0 leaves next.2 in (
      seen ++ o.0 ∷ o.1,
      o.3,
      λ fault. uneven_fault cols room done seen rows o.0 o.1 le len was (λ e. o.2 (e ∙ sym n)),
      tt,
      before_unread cols room done seen (o.0 ∷ o.1) rows len was,
    )

-- its read failed
failed_row : (cols : List Column) (room done : ℕ) (rows : List Row) (known left : Option (List Fields)) (new : Left) (why : Failure RecordError) → new.failure ≡ Some why
    → SeenRows cols room done rows known left → (e : Failure LoadError) → e ≡ reported why (done + 1) → RowsFollow cols room known new (Err e)
failed_row cols room done rows known left new OutOfMemory failed seen e is = out_of_memory cols room known new e is
failed_row cols room done rows known left new (Error why) failed (seen, len, was, leaves) e is =
    let rest = leaves_some known seen left leaves in
    rw (is, failed) (seen ++ rest.0, rest.1, λ fault. cc fault, tt, before_unread cols room done seen rest.0 rows len was)

-- the error of a read, where the next record was not read
pub unread : (row : ℕ) (old new : Left) (e : Failure RecordError) → new.failure ≡ failure_after e → (e ≡ Error why.Uneven → NextIsUneven old) → Refuses row old new (reported e row)
unread row old new (Error why.Uneven) keeps uneven = rw keeps (refl, uneven refl)
unread row old new (Error why.Failed) keeps uneven = rw keeps refl
unread row old new OutOfMemory keeps uneven = rw keeps refl

-- the next record was not read
refused : (cols : List Column) (room done : ℕ) (rows : List Row) (known : Option (List Fields)) (old new : Left) (e : Failure LoadError) → done ≤ room
    → SeenRows cols room done rows known old.records → old.expected ≡ Some (length cols) → Refuses (done + 1) old new e → RowsFollow cols room known new (Err e)
refused cols room done rows known old new e le seen expected refuses = by_failure new.failure refl refuses where
  by_failure : (failure : Option (Failure RecordError)) → new.failure ≡ failure → MatchOption failure ((e ≡ Error (error.Reader (done + 1))) × NextIsUneven old) (λ why. e ≡ reported why (done + 1)) → RowsFollow cols room known new (Err e)
  by_failure None none (is, uneven) = rw is (uneven_row cols room done rows known old new le seen expected uneven)
  by_failure (Some why) failed is = failed_row cols room done rows known old.records new why failed seen e is

-- ---- while rows are added, of so many columns

as_many : {A : Type 0} (columns : List (declared.Column A)) (old : Left) → old.expected ≡ Some (length columns) → old.expected ≡ Some (length (map column_of columns))
as_many columns old expected = expected ∙ ap Some (sym (length-map columns column_of))

found_is : (found : Bool) (b : Bool) (old new : Left) (r : Fields) → found ≡ b → TakesNext old new found r → TakesNext old new b r
found_is found b old new r is gives = subst (λ (x : Bool). TakesNext old new x r) is gives

exit_rows : (cols : List Column) (room : ℕ) (known : Option (List Fields)) (new : Left) (rows : List Row) (r : Result (Unit {0}) (Failure LoadError)) (f : Failure LoadError)
    → IsErrAnd r (λ e. e ≡ f) → RowsFollow cols room known new (Err f) → RowsFollow cols room known new (filled rows r)
exit_rows cols room known new rows (Ok u) f is follows = absurd is
exit_rows cols room known new rows (Err e) f is follows = rw is follows

module _ {A : Type 0} (columns : List (declared.Column A)) (room done : ℕ) (rows : List Row) (known : Option (List Fields)) (old : Left)
    (seen : SeenRows (map column_of columns) room done rows known old.records) (expected : old.expected ≡ Some (length columns)) where
  -- the next record was not read
  pub exit_next : (new : Left) (filling : List Row) (row : ℕ) (e : Failure LoadError) (r : Result (Unit {0}) (Failure LoadError)) → done ≤ room → row ≡ done + 1 → Refuses row old new e → IsErrAnd r (λ y. y ≡ e)
      → RowsFollow (map column_of columns) room known new (filled filling r)
  exit_next new filling row e r le at refuses is =
      exit_rows (map column_of columns) room known new filling r e is
      (refused (map column_of columns) room done rows known old new e le seen (as_many columns old expected) (subst (λ (n : ℕ). Refuses n old new e) at refuses))

  -- a cell of the next record is refused, or memory ran out
  pub exit_row : (new : Left) (filling : List Row) (fs : Fields) (found : Bool) (e : Failure LoadError) (r : Result (Unit {0}) (Failure LoadError)) → done < room → TakesNext old new found fs → found ≡ true
      → IsFailure e (cells_of (map column_of columns) (done + 1) 0 fs) → ((row : ℕ) → e ≢ Error (error.Reader row)) → IsErrAnd r (λ y. y ≡ e) → RowsFollow (map column_of columns) room known new (filled filling r)
  exit_row new filling fs found e r lt gives is_found fails other is =
      exit_rows (map column_of columns) room known new filling r e is
      (row_refused (λ (x : Row). x) (map column_of columns) room done rows known old new fs e lt seen (found_is found true old new fs is_found gives) (as_many columns old expected) fails other)

  -- there is no room for the next record
  pub exit_room : (new : Left) (fs : Fields) (found : Bool) → done ≤ room → room ≤ done → TakesNext old new found fs → found ≡ true → RowsFollow (map column_of columns) room known new (Err (Error error.TooMany))
  exit_room new fs found le ge gives is_found =
      no_room_left (map column_of columns) room done rows known old new fs (omega (arith, le, ge)) seen (found_is found true old new fs is_found gives) (as_many columns old expected)

  -- there are no more records
  pub exit_end : (new : Left) (fs : Fields) (found : Bool) → TakesNext old new found fs → found ≡ false → new.given ≡ counted found old.given → old.given ≡ done + 1 → RowsFollow (map column_of columns) room known new (Ok rows)
  exit_end new fs found gives is_found counts before =
      all_seen (map column_of columns) room done rows known old new fs seen (found_is found false old new fs is_found gives) (counts ∙ ap (λ (b : Bool). counted b old.given) is_found) before

  -- one more row was added
  module _ (new : Left) (fs : Fields) (found : Bool) (is_found : found ≡ true) (lt : done < room) (gives : TakesNext old new found fs) where
    pub next_width : length fs ≡ length columns
    next_width = (width (length columns) old new fs (found_is found true old new fs is_found gives) expected).0

    pub next_expected : new.expected ≡ Some (length columns)
    next_expected = (width (length columns) old new fs (found_is found true old new fs is_found gives) expected).1

    pub next_seen : (items : List Row) → AddsRow (map column_of columns) (done + 1) fs rows items → SeenRows (map column_of columns) room (done + 1) items known new.records
    next_seen items (values, all, wide, cells) =
        rw all (one_more_seen (map column_of columns) room done rows values known old new fs lt seen (found_is found true old new fs is_found gives) (as_many columns old expected) cells)

-- ---- the rows that were added

-- so many records gave the rows that were added
pub record AddedSo (cols : List Column) (room done : ℕ) (known left : Option (List Fields)) (old new : List Row) : Type 0 where
  pub rows : List Row
  pub all : new ≡ old ++ rows
  pub wide : All (λ r. length r ≡ length cols) rows
  pub count : length rows ≡ done
  pub seen : SeenRows cols room done rows known left

all_of_none : (P : Row → Type 0) → All P []
all_of_none P = search rules

pub none_added : (cols : List Column) (room : ℕ) (known : Option (List Fields)) (old : List Row) → AddedSo cols room 0 known known old old
none_added cols room known old = record { rows = []; all = sym (append-nil old); wide = all_of_none (λ r. length r ≡ length cols); count = refl; seen = start_seen cols room known }

module _ {A : Type 0} (columns : List (declared.Column A)) (room done : ℕ) (known : Option (List Fields)) (old : Left) (rows before : List Row) (so : AddedSo (map column_of columns) room done known old.records before rows)
    (expected : old.expected ≡ Some (length columns)) (le : done ≤ room) where
  abbrev pub cols : List Column
  cols = map column_of columns

  few_of : length so.rows ≤ room
  few_of = omega (arith, so.count)

  -- the rows so far, with what follows of them
  pub so_far : (Follow : Result (List Row) (Failure LoadError) → Type 0) (after : List Row) (r : Result (Unit {0}) (Failure LoadError)) → after ≡ rows → Follow (filled so.rows r) → Added cols room Follow before after r
  so_far Follow after r same follow = record { rows = so.rows; all = same ∙ so.all; wide = so.wide; few = few_of; follow = follow }

  pub at_next : (new : Left) (row : ℕ) (e : Failure LoadError) (r : Result (Unit {0}) (Failure LoadError)) → row ≡ done + 1 → Refuses row old new e → IsErrAnd r (λ y. y ≡ e) → Added cols room (RowsFollow cols room known new) before rows r
  at_next new row e r at refuses is = so_far (RowsFollow cols room known new) rows r refl (exit_next columns room done so.rows known old so.seen expected new so.rows row e r le at refuses is)

  pub at_row : (new : Left) (fs : Fields) (found : Bool) (e : Failure LoadError) (r : Result (Unit {0}) (Failure LoadError)) (after : List Row) → after ≡ rows → done < room → TakesNext old new found fs → found ≡ true
      → IsFailure e (cells_of cols (done + 1) 0 fs) → ((row : ℕ) → e ≢ Error (error.Reader row)) → IsErrAnd r (λ y. y ≡ e) → Added cols room (RowsFollow cols room known new) before after r
  at_row new fs found e r after same lt gives is_found fails other is = so_far (RowsFollow cols room known new) after r same (exit_row columns room done so.rows known old so.seen expected new so.rows fs found e r lt gives is_found fails other is)

  pub at_room : (new : Left) (fs : Fields) (found : Bool) → room ≤ done → TakesNext old new found fs → found ≡ true → Added cols room (RowsFollow cols room known new) before rows (Err (Error error.TooMany))
  at_room new fs found ge gives is_found = so_far (RowsFollow cols room known new) rows (Err (Error error.TooMany)) refl (exit_room columns room done so.rows known old so.seen expected new fs found le ge gives is_found)

  pub at_end : (new : Left) (fs : Fields) (found : Bool) → TakesNext old new found fs → found ≡ false → new.given ≡ counted found old.given → old.given ≡ done + 1 → Added cols room (RowsFollow cols room known new) before rows (Ok tt)
  at_end new fs found gives is_found counts was = so_far (RowsFollow cols room known new) rows (Ok tt) refl (exit_end columns room done so.rows known old so.seen expected new fs found gives is_found counts was)

  pub one_more_added : (new : Left) (fs : Fields) (found : Bool) (after : List Row) → found ≡ true → done < room → TakesNext old new found fs → AddsRow cols (done + 1) fs rows after → AddedSo cols room (done + 1) known new.records before after
  one_more_added new fs found after is_found lt gives (values, all, wide, cells) = record {
    rows = so.rows ++ values ∷ [];
    all = all ∙ ap (λ (l : List Row). l ++ values ∷ []) so.all ∙ append_assoc before so.rows (values ∷ []);
    wide = All-push (λ r. length r ≡ length cols) so.rows values so.wide wide;
    count = omega (arith, so.count, length-append so.rows (values ∷ []));
    seen = next_seen columns room done so.rows known old so.seen expected new fs found is_found lt gives (so.rows ++ values ∷ []) (values, refl, wide, cells);
  }

-- so many rows are there in the end
pub few_there : (cols : List Column) (room done : ℕ) (known left : Option (List Fields)) (old new : List Row) → AddedSo cols room done known left old new → length new ≡ length old + done
few_there cols room done known left old new so = omega (arith, ap length so.all, length-append old so.rows, so.count)

-- ---- with the header

pub no_header : (cols : List Column) (room : ℕ) (old new : Left) (e : Failure LoadError) → HeaderIs cols old new (Err e) → LoadFollows cols room old.records new (Err e)
no_header cols room old new OutOfMemory none = (unwrap_or old.records [], known_are old.records, tt, tt, λ row same pos. cc same)
no_header cols room old new (Error e) (fault, at) = (unwrap_or old.records [], known_are old.records, λ is. fault is room, tt, λ row same pos. let is : e ≡ error.Reader row = cc same in absurd (not_first row (at row is) pos)) where
  not_first : (row : ℕ) → row ≡ 0 → 0 < row → ⊥
  not_first row e lt = omega arith

load-take : (cols : List Column) (room row : ℕ) (h : Fields) (recs : List Fields) → names cols h ≡ true → 0 < row → load_of cols room (take row (h ∷ recs)) ≡ rows_of cols room 1 (take (row - 1) recs)
load-take cols room zero h recs named lt = absurd (omega (arith, lt))
load-take cols room (suc row) h recs named lt =
    let one_less : suc row - 1 ≡ row = omega arith in rw (one_less, named) refl

known_after : (old new : Option (List Fields)) (h : Fields) (recs : List Fields) → TakesFirst old new true h → AreKnown new recs → AreKnown old (h ∷ recs)
known_after None new h recs gives known = tt
known_after (Some []) new h recs gives known = cc gives
known_after (Some (r ∷ rs)) new h recs (here, is, left) known = let same = rw left at known in cc (is, same)

one_more : (row n : ℕ) → 0 < row → row - 1 ≤ n → row ≤ suc n
one_more row n pos h = omega (arith, pos, h)

header_read : (cols : List Column) (room : ℕ) (h : Fields) (recs : List Fields) → names cols h ≡ true → load_of cols room (h ∷ recs) ≡ rows_of cols room 1 recs
header_read cols room h recs named = rw named refl

-- a result that follows the same
follows_of : {X Y : Type 0} (view : Y → X) (failure : Option (Failure RecordError)) (due other : Result X LoadError) (r : Result Y (Failure LoadError)) → due ≡ other → Follows view failure other r → Follows view failure due r
follows_of {X} view failure due other r same follows = subst (λ (x : Result X LoadError). Follows view failure x r) (sym same) follows

header_then_follow : (cols : List Column) (room : ℕ) (old mid new : Left) (result : Result (List Row) (Failure LoadError))
    → HeaderIs cols old mid (Ok tt) → RowsFollow cols room mid.records new result → LoadFollows cols room old.records new result
header_then_follow cols room old mid new (Ok rows) (h, named, gives) (recs, known, follows, many, stops) =
    (h ∷ recs, known_after old.records mid.records h recs gives known, rw named follows, omega (arith, many), tt)
header_then_follow cols room old mid new (Err e) (h, named, gives) (recs, known, follows, many, stops) = (
  h ∷ recs,
  known_after old.records mid.records h recs gives known,
  follows_of (λ (rows : List Row). rows) new.failure (load_of cols room (h ∷ recs)) (rows_of cols room 1 recs) (Err e) (header_read cols room h recs named) follows,
  tt,
  λ row same pos. let s = stops row same in (one_more row (length recs) pos s.0, s.1, load-take cols room row h recs named pos ∙ s.2),
)

pub header_then_rows : (cols : List Column) (room : ℕ) (old mid new : Left) (before after : List Row) (result : Result (Unit {0}) (Failure LoadError))
    → HeaderIs cols old mid (Ok tt) → Added cols room (RowsFollow cols room mid.records new) before after result → Added cols room (LoadFollows cols room old.records new) before after result
header_then_rows cols room old mid new before after result header added =
    record { rows = added.rows; all = added.all; wide = added.wide; few = added.few; follow = header_then_follow cols room old mid new (filled added.rows result) header added.follow }

pub nothing_added : (cols : List Column) (room : ℕ) (old new : Left) (before : List Row) (e : Failure LoadError) → HeaderIs cols old new (Err e) → Added cols room (LoadFollows cols room old.records new) before before (Err e)
nothing_added cols room old new before e header = record { rows = []; all = sym (append-nil before); wide = all_of_none (λ r. length r ≡ length cols); few = omega arith; follow = no_header cols room old new e header }

-- ---- a read failed

-- the error is the one that is reported of the failure
pub refuses_unread : (Y : Type 0) (row given : ℕ) (old new : Left) (e : Failure LoadError) → given ≡ row → Refuses row old new e → IfSome new.failure (λ why. IsErrOf {T = Y} (Err e) (reported why given))
refuses_unread Y row given old new e same refuses = by_failure new.failure refuses where
  by_failure : (failure : Option (Failure RecordError)) → MatchOption failure ((e ≡ Error (error.Reader row)) × NextIsUneven old) (λ why. e ≡ reported why row) → IfSome failure (λ why. IsErrOf {T = Y} (Err e) (reported why given))
  by_failure None h = tt
  by_failure (Some why) is = ap Err (rw same is)

-- the exit of a `?` where a read may have failed
pub exit_failed : {T : Type 0} (U : Type 0) (failure : Option (Failure RecordError)) (given : ℕ) (r : Result T (Failure LoadError)) (f : Failure LoadError) → IsErrAnd r (λ e. e ≡ f)
    → IfSome failure (λ why. IsErrOf {T = U} (Err f) (reported why given)) → IfSome failure (λ why. IsErrOf r (reported why given))
exit_failed U None given r f is failed = tt
exit_failed U (Some why) given (Ok x) f is failed = absurd is
exit_failed U (Some why) given (Err e) f is failed = let same : f ≡ reported why given = cc failed in ap Err (is ∙ same)

-- of rows that were read no read failed
pub not_failed : {T U : Type 0} (t : T) (r : Result U (Failure LoadError)) (failure : Option (Failure RecordError)) (given : ℕ) → IfSome failure (λ why. IsErrOf (Ok t) (reported why given)) → IfSome failure (λ why. IsErrOf r (reported why given))
not_failed t r None given h = tt
not_failed t r (Some why) given h = cc h

-- no read failed
pub none_failed : {T : Type 0} (failure : Option (Failure RecordError)) (given : ℕ) (r : Result T (Failure LoadError)) → failure ≡ None → IfSome failure (λ why. IsErrOf r (reported why given))
none_failed failure given r none = rw none tt

-- one more record was given, and there is room for its number
pub counted_one : (done room : ℕ) (old new : ℕ) (found : Bool) → done < room → room < 2 ^ 64 - 1 → found ≡ true → new ≡ counted found old → old ≡ done + 1 → new ≡ done + 1 + 1
counted_one done room old new found lt few is count was = let first = rw is at count in omega (arith, lt, few, first, was)

-- the same load, in other words
pub same_load : (cols cols' : List Column) (room room' : ℕ) (known : Option (List Fields)) (left : Left) (result : Result (List Row) (Failure LoadError)) → cols ≡ cols' → room ≡ room'
    → LoadFollows cols room known left result → LoadFollows cols' room' known left result
same_load cols cols' room room' known left result is at follows =
    subst (λ (c : List Column). LoadFollows c room' known left result) is (subst (λ (n : ℕ). LoadFollows cols n known left result) at follows)

-- ---- the rows that were there

pub stops_of_known : (cols : List Column) (room : ℕ) (known : Option (List Fields)) (left : Left) (e : Failure LoadError) → LoadFollows cols room known left (Err e)
    → IfSome known (λ recs. StopsAfterGood {Y = Unit {0}} cols room recs (Err e))
stops_of_known cols room None left e follows = tt
stops_of_known cols room (Some known) left e (recs, are, due, many, stops) = rw are stops

-- ---- for callers: the rows that were appended

pub rows_appended : (old new : List Row) (due : Result (List Row) LoadError) → appended old due ≡ Ok new → (rows : List Row) × (due ≡ Ok rows) × (new ≡ old ++ rows)
rows_appended old new (Ok rows) is = (rows, refl, cc is)
rows_appended old new (Err e) is = cc is

pub fault_appended : (old : List Row) (due : Result (List Row) LoadError) (e : LoadError) → appended old due ≡ Err e → due ≡ Err e
fault_appended old (Ok rows) e is = cc is
fault_appended old (Err other) e is = cc is
