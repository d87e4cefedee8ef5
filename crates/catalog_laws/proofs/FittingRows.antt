-- The rows that a load gives fit the columns.
use Rattle.std.proofs.Common.{ℕ, ℤ, zero, suc, ◌≡◌, ◌≢◌, ◌+◌, ◌-◌, ◌≤◌, ◌==◌, Bool, true, false, List, [], ◌∷◌, ◌++◌, length, Result, Ok, Err, if◌then◌else◌, refl, All, arith, length-append}
use Rattle.std.specs.Str.{bytes_eq, is_utf8}
use Rattle.std.proofs.lemmas.Bool.{eqb-true}
use Rattle.std.proofs.lemmas.List.Elements.{All-append, All-cons, All-nil}
use Rattle.value.specs.declared.types.ColType.{ColType}
use Rattle.value.specs.declared.types.ColType.TheVariants as types
use Rattle.value.specs.declared.types.FaultKind.{FaultKind}
use Rattle.value.specs.declared.types.FaultKind.TheVariants.{BadText, Range}
use Rattle.value.specs.Datum.{Datum, Row, null, int, text, bool}
use Rattle.value.specs.Exact.{as_number, in_range, is_bigint}
use Rattle.value.specs.Texts.{bigint_at, is_spelled, null_mark, spelled, value_at}
use Rattle.value.specs.Columns.{Column}
use Rattle.tables.specs.declared.TheConstants.{MAX_ROWS}
use Rattle.tables.specs.declared.LoadError.TheVariants as error
use Rattle.tables.specs.Loading.{Fields, TableRows, cell_of, cells_of, load_of, names, placed, rows_of}
use Rattle.tables.proofs.Records.{both_ok, if_ok}
use Rattle.catalog_laws.specs.FittingRows.{FitsColumn, FitsColumns, IsWellFormedContents}

-- ---- a cell

ranged : (z n : ℤ) → in_range z ≡ Ok n → is_bigint n ≡ true
ranged z n e = go (is_bigint z) refl e
  where
    go : (b : Bool) → is_bigint z ≡ b → (if b then Ok z else Err Range) ≡ Ok n → is_bigint n ≡ true
    go true is e = let same : z ≡ n = cc e in rw (← same) is
    go false is e = cc e

spelled_number : (t : List ℕ) (n : ℤ) → bigint_at t ≡ Ok n → is_bigint n ≡ true
spelled_number t n e = go (is_spelled t) (bytes_eq t (48 ∷ [])) e
  where
    go : (a b : Bool) → (if a then in_range (spelled t) else (if b then Ok (ℤ.pos 0) else Err BadText)) ≡ Ok n → is_bigint n ≡ true
    go true b e = ranged (spelled t) n e
    go false true e = let same : ℤ.pos 0 ≡ n = cc e in rw (← same) refl
    go false false e = cc e

module _ (c : Column) where
  number : (t : List ℕ) (r : Result ℤ FaultKind) (d : Datum) → bigint_at t ≡ r → c.data_type ≡ types.Bigint → as_number r ≡ Ok d → FitsColumn c d
  number t (Ok n) d is kind e = let same : int n ≡ d = cc e in rw (← same) (kind, spelled_number t n is)
  number t (Err k) d is kind e = absurd (cc e)

  truth : (a b : Bool) (d : Datum) → c.data_type ≡ types.Boolean → (if a then Ok (bool true) else if b then Ok (bool false) else Err BadText) ≡ Ok d → FitsColumn c d
  truth true b d kind e = let same : bool true ≡ d = cc e in rw (← same) kind
  truth false true d kind e = let same : bool false ≡ d = cc e in rw (← same) kind
  truth false false d kind e = absurd (cc e)

  value : (kind : ColType) (t : List ℕ) (d : Datum) → c.data_type ≡ kind → is_utf8 t ≡ true → t ≢ null_mark → value_at kind t ≡ Ok d → FitsColumn c d
  value types.Bigint t d kind valid other e = number t (bigint_at t) d refl kind e
  value types.Text t d kind valid other e = let same : text t ≡ d = cc e in rw (← same) (kind, valid, other)
  value types.Boolean t d kind valid other e = truth _ _ d kind e

  placed_ok : (row column : ℕ) (r : Result Datum FaultKind) (d : Datum) → placed row column r ≡ Ok d → r ≡ Ok d
  placed_ok row column (Ok x) d e = cc e
  placed_ok row column (Err k) d e = cc e

  not_null : (f : List ℕ) → bytes_eq f null_mark ≡ false → f ≢ null_mark
  not_null f differ same = let equal : true ≡ false = rw same at differ in cc equal

  cell : (row column : ℕ) (f : List ℕ) (d : Datum) → cell_of c row column f ≡ Ok d → FitsColumn c d
  cell row column f d e = by_mark (bytes_eq f null_mark) c.not_null (is_utf8 f) refl refl refl e
    where
      by_mark : (mark required valid : Bool) → bytes_eq f null_mark ≡ mark → c.not_null ≡ required → is_utf8 f ≡ valid
          → (if mark then (if required then Err (error.NotNull row column) else Ok null) else if valid then placed row column (value_at c.data_type f) else Err (error.Cell row column)) ≡ Ok d → FitsColumn c d
      by_mark true true valid m n u e = absurd (cc e)
      by_mark true false valid m n u e = let none : null ≡ d = cc e in rw (← none) n
      by_mark false required true m n u e = value c.data_type f d refl u (not_null f m) (placed_ok row column (value_at c.data_type f) d e)
      by_mark false required false m n u e = absurd (cc e)

-- ---- a row

cells : (cs : List Column) (row column : ℕ) (fs : Fields) (values : Row) → length fs ≡ length cs → cells_of cs row column fs ≡ Ok values → FitsColumns cs values
unfolding cells_of
cells [] row column fs values as_many e = let none : [] ≡ values = cc e in rw (← none) tt
cells (c ∷ cs) row column [] values as_many e = absurd (cc e)
cells (c ∷ cs) row column (f ∷ fs) values as_many e =
    let p = both_ok (cell_of c row column f) (cells_of cs row (column + 1) fs) values e in
    rw p.4 (cell c row column f p.0 p.2, cells cs row (column + 1) fs p.1 (omega (arith, as_many)) p.3)

-- ---- the rows

all_rows : (cols : List Column) (room row : ℕ) (recs : List Fields) (rows : List Row) → rows_of cols room row recs ≡ Ok rows → All (FitsColumns cols) rows × (length rows ≤ room)
unfolding rows_of
all_rows cols zero row [] rows e = let none : [] ≡ rows = cc e in rw (← none) (All-nil (FitsColumns cols), omega arith)
all_rows cols (suc room) row [] rows e = let none : [] ≡ rows = cc e in rw (← none) (All-nil (FitsColumns cols), omega arith)
all_rows cols zero row (r ∷ rs) rows e = fault (length r == length cols) e where
  fault : (b : Bool) → (if b then Err error.TooMany else Err (error.Reader row)) ≡ Ok rows → All (FitsColumns cols) rows × (length rows ≤ zero)
  fault true h = absurd (cc h)
  fault false h = absurd (cc h)
all_rows cols (suc room) row (r ∷ rs) rows e =
    let even = if_ok (length r == length cols) _ _ rows e in
    let p = both_ok (cells_of cols row 0 r) (rows_of cols room (row + 1) rs) rows even.1 in
    let more = all_rows cols room (row + 1) rs p.1 p.3 in
    rw p.4 (All-cons (FitsColumns cols) p.0 p.1 (cells cols row 0 r p.0 (eqb-true _ _ even.0) p.2) more.0, omega (arith, more.1))

pub rows_fit : (cols : List Column) (room : ℕ) (recs : List Fields) (rows : List Row) → load_of cols room recs ≡ Ok rows → All (FitsColumns cols) rows × (length rows ≤ room)
rows_fit cols room [] rows e = absurd (cc e)
rows_fit cols room (h ∷ rs) rows e = all_rows cols room 1 rs rows (if_ok (names cols h) (rows_of cols room 1 rs) error.Header rows e).1

-- ---- the contents of a table

pub empty_well : (columns : List Column) → IsWellFormedContents record { columns = columns; rows = [] }
empty_well columns = record { rows = All-nil (FitsColumns columns); row_count = omega arith }

pub loaded_well : (t : TableRows) (recs : List Fields) (rows : List Row) → IsWellFormedContents t → load_of t.columns (MAX_ROWS - length t.rows) recs ≡ Ok rows
    → IsWellFormedContents record { columns = t.columns; rows = t.rows ++ rows }
loaded_well t recs rows w e =
    let more = rows_fit t.columns (MAX_ROWS - length t.rows) recs rows e in
    let held = w.row_count in
    let few = more.1 in
    record { rows = All-append (FitsColumns t.columns) t.rows rows w.rows more.0; row_count = omega (arith, length-append t.rows rows) }
