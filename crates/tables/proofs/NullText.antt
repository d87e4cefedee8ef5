-- No text that a load gives is the null mark.
use Rattle.std.proofs.Common.{ℕ, ℤ, zero, suc, ◌≡◌, ◌≢◌, ◌+◌, ◌==◌, Bool, true, false, List, [], ◌∷◌, length, Result, Ok, Err, if◌then◌else◌, refl, All}
use Rattle.std.specs.Str.{bytes_eq, is_utf8}
use Rattle.std.proofs.lemmas.List.Elements.{All-cons, All-nil}
use Rattle.value.specs.declared.types.ColType.{ColType}
use Rattle.value.specs.declared.types.ColType.TheVariants as types
use Rattle.value.specs.declared.types.FaultKind.{FaultKind}
use Rattle.value.specs.declared.types.FaultKind.TheVariants.{BadText}
use Rattle.value.specs.Datum.{Datum, Row, null, int, text, bool}
use Rattle.value.specs.Exact.{as_number}
use Rattle.value.specs.Texts.{IsNoNullMark, bigint_at, null_mark, value_at}
use Rattle.tables.specs.declared.LoadError.TheVariants as error
use Rattle.tables.specs.Loading.{Fields, NoTextIsNull, cell_of, cells_of, names, placed, rows_of}
use Rattle.value.specs.Columns.{Column}
use Rattle.tables.proofs.Records.{both_ok, if_ok}

number : (r : Result ℤ FaultKind) (d : Datum) → as_number r ≡ Ok d → IsNoNullMark d
number (Ok n) d e = let is : int n ≡ d = cc e in rw (← is) tt
number (Err k) d e = cc e

truth : (a b : Bool) (d : Datum) → (if a then Ok (bool true) else if b then Ok (bool false) else Err BadText) ≡ Ok d → IsNoNullMark d
truth true b d e = let is : bool true ≡ d = cc e in rw (← is) tt
truth false true d e = let is : bool false ≡ d = cc e in rw (← is) tt
truth false false d e = cc e

value : (kind : ColType) (f : List ℕ) (d : Datum) → f ≢ null_mark → value_at kind f ≡ Ok d → IsNoNullMark d
value types.Bigint f d other e = number (bigint_at f) d e
value types.Text f d other e = let is : text f ≡ d = cc e in rw (← is) other
value types.Boolean f d other e = truth _ _ d e

placed_ok : (row column : ℕ) (r : Result Datum FaultKind) (d : Datum) → placed row column r ≡ Ok d → r ≡ Ok d
placed_ok row column (Ok x) d e = cc e
placed_ok row column (Err k) d e = cc e

not_null : (f : List ℕ) → bytes_eq f null_mark ≡ false → f ≢ null_mark
not_null f differ same = let equal : true ≡ false = rw same at differ in cc equal

cell : (c : Column) (row column : ℕ) (f : List ℕ) (d : Datum) → cell_of c row column f ≡ Ok d → IsNoNullMark d
cell c row column f d e = by_mark (bytes_eq f null_mark) c.not_null refl e where
  by_mark : (mark required : Bool) → bytes_eq f null_mark ≡ mark
      → (if mark then (if required then Err (error.NotNull row column) else Ok null) else if is_utf8 f then placed row column (value_at c.data_type f) else Err (error.Cell row column)) ≡ Ok d → IsNoNullMark d
  by_mark true true is e = cc e
  by_mark true false is e = let none : null ≡ d = cc e in rw (← none) tt
  by_mark false required is e = value c.data_type f d (not_null f is) (placed_ok row column (value_at c.data_type f) d (if_ok (is_utf8 f) _ _ d e).1)

cells : (cs : List Column) (row column : ℕ) (fs : Fields) (values : Row) → cells_of cs row column fs ≡ Ok values → All IsNoNullMark values
unfolding cells_of
cells [] row column fs values e = let none : [] ≡ values = cc e in rw (← none) (All-nil IsNoNullMark)
cells (c ∷ cs) row column [] values e = cc e
cells (c ∷ cs) row column (f ∷ fs) values e =
    let p = both_ok (cell_of c row column f) (cells_of cs row (column + 1) fs) values e in
    rw p.4 (All-cons IsNoNullMark p.0 p.1 (cell c row column f p.0 p.2) (cells cs row (column + 1) fs p.1 p.3))

all_rows : (cols : List Column) (room row : ℕ) (recs : List Fields) (rows : List Row) → rows_of cols room row recs ≡ Ok rows → All (λ r. All IsNoNullMark r) rows
unfolding rows_of
all_rows cols zero row [] rows e = let none : [] ≡ rows = cc e in rw (← none) (All-nil (λ r. All IsNoNullMark r))
all_rows cols (suc room) row [] rows e = let none : [] ≡ rows = cc e in rw (← none) (All-nil (λ r. All IsNoNullMark r))
all_rows cols zero row (r ∷ rs) rows e = fault (length r == length cols) e where
  fault : (b : Bool) → (if b then Err error.TooMany else Err (error.Reader row)) ≡ Ok rows → All (λ r. All IsNoNullMark r) rows
  fault true h = cc h
  fault false h = cc h
all_rows cols (suc room) row (r ∷ rs) rows e =
    let p = both_ok (cells_of cols row 0 r) (rows_of cols room (row + 1) rs) rows (if_ok (length r == length cols) _ _ rows e).1 in
    rw p.4 (All-cons (λ r. All IsNoNullMark r) p.0 p.1 (cells cols row 0 r p.0 p.2) (all_rows cols room (row + 1) rs p.1 p.3))

pub no_text_is_null : NoTextIsNull
no_text_is_null cols room [] rows e = cc e
no_text_is_null cols room (h ∷ rs) rows e = all_rows cols room 1 rs rows (if_ok (names cols h) (rows_of cols room 1 rs) error.Header rows e).1
