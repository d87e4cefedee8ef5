-- The cells of a row, one after another.
use Rattle.std.proofs.Common.{ℕ, ℤ, Bool, cond, zero, suc, ◌≡◌, ◌≢◌, ◌+◌, ◌<◌, ◌≤◌, ◌⊎◌, inl, inr, List, [], ◌∷◌, ◌++◌, length, map, drop, get_or, Some, None, Result, Ok, Err, IfErr, refl, sym, ap, ◌∙◌, arith, add-one, true, false, if◌then◌else◌}
use Rattle.std.specs.Str.{bytes_eq, is_utf8}
use Rattle.std.proofs.lemmas.List.{append_assoc, append-nil, drop_all, drop_more, get_or-map, length-append, length-map}
use Rattle.std.specs.Prelude.{IsErrAnd}
use Rattle.std.specs.List.{slice_get}
use Rattle.std.proofs.lemmas.Option.{get_or_from_slice_get, slice_get_cases, slice_get_within}
use Rattle.value.specs.Datum.{Datum, Row, int, text, bool}
use Rattle.value.specs.declared.types.ColType.{ColType}
use Rattle.value.specs.declared.types.ColType.TheVariants as types
use Rattle.value.specs.declared.types.FaultKind.{FaultKind}
use Rattle.value.specs.declared.types.FaultKind.TheVariants.{BadText}
use Rattle.value.specs.Exact.{as_number}
use Rattle.value.specs.Texts.{bigint_at, null_mark, value_at, value_in}
use Rattle.columns.specs.Rows.{types_of}
use Rattle.memory.specs.declared.failure.Failure.{Failure}
use Rattle.memory.specs.declared.failure.Failure.TheVariants.{Error, OutOfMemory}
use Rattle.memory.specs.Gives.{Gives, IsFailure}
use Rattle.tables.specs.declared.LoadError.{LoadError}
use Rattle.tables.specs.declared.LoadError.TheVariants as error
use Rattle.value.specs.declared.column.Column as declared
use Rattle.tables.specs.Loading.{Fields, cell_of, cells_of, placed}
use Rattle.memory.specs.Results.{first_then}
use Rattle.value.specs.Columns.{Column, column_of, fits_type}
use Rattle.tables.proofs.Records.{after, after-nil}

-- the value that a cell's bytes spell, or none
pub cell_of-spelled : (c : Column) (row column : ℕ) (f : List ℕ) (d : Datum) → bytes_eq f null_mark ≡ false → value_in c.data_type f ≡ Ok d → cell_of c row column f ≡ Ok d
cell_of-spelled c row column f d other spelled = rw other (by (is_utf8 f) spelled) where
  by : (b : Bool) → cond b (value_at c.data_type f) (Err BadText) ≡ Ok d → cond b (placed row column (value_at c.data_type f)) (Err (error.Cell row column)) ≡ Ok d
  by true e = ap (placed row column) e
  by false e = cc e

pub cell_of-refused : (c : Column) (row column : ℕ) (f : List ℕ) (k : FaultKind) → bytes_eq f null_mark ≡ false → value_in c.data_type f ≡ Err k → cell_of c row column f ≡ Err (error.Cell row column)
cell_of-refused c row column f k other spelled = rw other (by (is_utf8 f) spelled) where
  by : (b : Bool) → cond b (value_at c.data_type f) (Err BadText) ≡ Err k → cond b (placed row column (value_at c.data_type f)) (Err (error.Cell row column)) ≡ Err (error.Cell row column)
  by true e = ap (placed row column) e
  by false e = refl

-- a list from an index on
pub drop-field : (fs : Fields) (i : ℕ) (f : List ℕ) → Some f ≡ slice_get fs i → drop i fs ≡ f ∷ drop (i + 1) fs
drop-field fs i f e = drop_more fs i f (slice_get_within fs i f (sym e)) ∙ ap (λ x. x ∷ drop (i + 1) fs) (get_or_from_slice_get fs i f f (sym e))

-- there is a field at each index below the number of fields
pub field_missing : (fs : Fields) (i : ℕ) → i < length fs → None ≡ slice_get fs i → ⊥
field_missing fs i lt e = by_cases (slice_get_cases fs i).1 where
  by_cases : ((x : List ℕ) × (i < length fs) × (slice_get fs i ≡ Some x) × (get_or fs i x ≡ x)) ⊎ ((length fs ≤ i) × (slice_get fs i ≡ None)) → ⊥
  by_cases (inl (x, within, is, same)) = cc (e, is)
  by_cases (inr (le, is)) = omega (arith, lt, le)

pub drop-no_field : (fs : Fields) (i : ℕ) → None ≡ slice_get fs i → drop i fs ≡ []
drop-no_field fs i e = by_cases (slice_get_cases fs i).1 where
  by_cases : ((x : List ℕ) × (i < length fs) × (slice_get fs i ≡ Some x) × (get_or fs i x ≡ x)) ⊎ ((length fs ≤ i) × (slice_get fs i ≡ None)) → drop i fs ≡ []
  by_cases (inl (x, within, is, same)) = absurd (field_missing fs i within e)
  by_cases (inr (le, is)) = drop_all i fs le

pub drop-map : {X Y : Type 0} (v : X → Y) (xs : List X) (i : ℕ) (x : X) → i < length xs → x ≡ get_or xs i x → drop i (map v xs) ≡ v x ∷ drop (i + 1) (map v xs)
drop-map v [] i x lt e = absurd (omega (arith, lt))
drop-map v (y ∷ ys) zero x lt e = ap (λ z. v z ∷ map v ys) (sym e)
drop-map v (y ∷ ys) (suc i) x lt e = rw add-one (rw add-one at (drop-map v ys i x (omega (arith, lt)) e))

pub after-first_then : {X : Type 0} (xs : List X) (x : X) (r : Result (List X) LoadError) → after xs (first_then (Ok x) r) ≡ after (xs ++ x ∷ []) r
after-first_then xs x (Ok ys) = ap Ok (sym (append_assoc xs (x ∷ []) ys))
after-first_then xs x (Err e) = refl

cells_step : (cs : List Column) (fs : Fields) (row i : ℕ) (c : Column) (f : List ℕ) → drop i cs ≡ c ∷ drop (i + 1) cs → drop i fs ≡ f ∷ drop (i + 1) fs
    → cells_of (drop i cs) row i (drop i fs) ≡ first_then (cell_of c row i f) (cells_of (drop (i + 1) cs) row (i + 1) (drop (i + 1) fs))
unfolding cells_of
cells_step cs fs row i c f h k = rw (h, k) refl

-- the cells from this column on are this cell and those after it
one_cell : {A : Type 0} (columns : List (declared.Column A)) (fs : Fields) (row i : ℕ) (x : declared.Column A) (f : List ℕ) (xs : List Datum) (whole : Result (List Datum) LoadError)
    → i < length columns → x ≡ get_or columns i x → Some f ≡ slice_get fs i
    → whole ≡ after xs (cells_of (drop i (map column_of columns)) row i (drop i fs))
    → whole ≡ after xs (first_then (cell_of (column_of x) row i f) (cells_of (drop (i + 1) (map column_of columns)) row (i + 1) (drop (i + 1) fs)))
one_cell columns fs row i x f xs whole lt is at e = e ∙ ap (after xs) (cells_step _ _ row i _ _ (drop-map column_of columns i x lt is) (drop-field fs i f at))

-- a cell of the row gives no value
cell_refused : (e : Failure LoadError) (xs : List Datum) (cell : Result Datum LoadError) (rest whole : Result (List Datum) LoadError) → whole ≡ after xs (first_then cell rest) → IsFailure e cell → IsFailure e whole
cell_refused OutOfMemory xs cell rest whole is fails = tt
cell_refused (Error e) xs cell rest whole is fails = rw fails at is

-- the cell of this column is refused
pub one_refused : {A : Type 0} (columns : List (declared.Column A)) (fs : Fields) (row i : ℕ) (x : declared.Column A) (f : List ℕ) (xs : List Datum) (e : Failure LoadError) (whole : Result (List Datum) LoadError)
    → i < length columns → x ≡ get_or columns i x → Some f ≡ slice_get fs i → whole ≡ after xs (cells_of (drop i (map column_of columns)) row i (drop i fs)) → IsFailure e (cell_of (column_of x) row i f) → IsFailure e whole
one_refused columns fs row i x f xs e whole lt is at so_far fails =
    cell_refused e xs (cell_of (column_of x) row i f) (cells_of (drop (i + 1) (map column_of columns)) row (i + 1) (drop (i + 1) fs)) whole (one_cell columns fs row i x f xs whole lt is at so_far) fails

-- no cell is left
pub no_cells : (cs : List Column) (fs : Fields) (row i : ℕ) (xs : List Datum) → length cs ≤ i → after xs (cells_of (drop i cs) row i fs) ≡ Ok xs
unfolding cells_of
no_cells cs fs row i xs h = rw (drop_all i cs h) (ap Ok (append-nil xs))

-- one more cell was read
pub one_more_cell : {A : Type 0} (columns : List (declared.Column A)) (fs : Fields) (row i : ℕ) (x : declared.Column A) (f : List ℕ) (values : Row) (d : Datum) (new : Row) (whole : Result (List Datum) LoadError)
    → i < length columns → x ≡ get_or columns i x → Some f ≡ slice_get fs i → length values ≡ i → whole ≡ after values (cells_of (drop i (map column_of columns)) row i (drop i fs))
    → cell_of (column_of x) row i f ≡ Ok d → new ≡ values ++ d ∷ []
    → (length new ≡ i + 1) × (whole ≡ after new (cells_of (drop (i + 1) (map column_of columns)) row (i + 1) (drop (i + 1) fs)))
one_more_cell columns fs row i x f values d new whole lt is at count so_far cell all =
    let rest = cells_of (drop (i + 1) (map column_of columns)) row (i + 1) (drop (i + 1) fs) in
    let next = one_cell columns fs row i x f values whole lt is at so_far in
    let longer : length new ≡ i + 1 = omega (arith, ap length all, length-append values (d ∷ []), count) in
    (longer, next ∙ ap (λ (r : Result Datum LoadError). after values (first_then r rest)) cell ∙ after-first_then values d rest ∙ ap (λ (xs : List Datum). after xs rest) (sym all))

-- before the first cell
pub no_cell_yet : (cs : List Column) (fs : Fields) (row : ℕ) (values : Row) → values ≡ [] → (length values ≡ 0) × (cells_of cs row 0 fs ≡ after values (cells_of (drop 0 cs) row 0 (drop 0 fs)))
no_cell_yet cs fs row values none = rw none (refl, sym (after-nil (cells_of cs row 0 fs)))

-- every cell was read
pub all_cells : (cs : List Column) (fs : Fields) (row i : ℕ) (values : Row) (whole : Result (List Datum) LoadError) → length cs ≤ i → whole ≡ after values (cells_of (drop i cs) row i (drop i fs)) → whole ≡ Ok values
all_cells cs fs row i values whole over so_far = so_far ∙ no_cells cs (drop i fs) row i values over

-- the exit of a `?`
pub exit_gives : {X Y : Type 0} (view : X → Y) (r : Result X (Failure LoadError)) (f : Failure LoadError) (m : Result Y LoadError) → IsErrAnd r (λ e. e ≡ f) → IsFailure f m → Gives view r m
exit_gives view (Ok x) f m is fails = absurd is
exit_gives view (Err e) f m is fails = rw is fails

pub exit_fails : {X Y : Type 0} (r : Result X (Failure LoadError)) (f : Failure LoadError) (m : Result Y LoadError) → IsErrAnd r (λ e. e ≡ f) → IsFailure f m → IfErr r (λ e. IsFailure e m)
exit_fails (Ok x) f m is fails = tt
exit_fails (Err e) f m is fails = rw is fails

pub exit_no_reader : {X : Type 0} (r : Result X (Failure LoadError)) (f : Failure LoadError) → IsErrAnd r (λ e. e ≡ f) → ((row : ℕ) → f ≢ Error (error.Reader row)) → IfErr r (λ e. (row : ℕ) → e ≢ Error (error.Reader row))
exit_no_reader (Ok x) f is none = tt
exit_no_reader (Err e) f is none = λ row same. none row (sym is ∙ same)

-- the type of a column
pub type_at : {A : Type 0} (columns : List (declared.Column A)) (i : ℕ) (x : declared.Column A) → i < length columns → x ≡ get_or columns i x → get_or (types_of (map column_of columns)) i types.Bigint ≡ x.data_type
type_at columns i x lt is =
    get_or-map (λ (c : Column). c.data_type) (map column_of columns) i (column_of x) types.Bigint (rw length-map lt)
    ∙ ap (λ (c : Column). c.data_type) (get_or-map column_of columns i x (column_of x) lt ∙ ap column_of (sym is))

-- a value of a type fits it
number_fits : (r : Result ℤ FaultKind) (d : Datum) → as_number r ≡ Ok d → fits_type types.Bigint d ≡ true
number_fits (Ok n) d e = let is : int n ≡ d = cc e in rw (← is) refl
number_fits (Err k) d e = cc e

truth_fits : (a b : Bool) (d : Datum) → (if a then Ok (bool true) else if b then Ok (bool false) else Err BadText) ≡ Ok d → fits_type types.Boolean d ≡ true
truth_fits true b d e = let is : bool true ≡ d = cc e in rw (← is) refl
truth_fits false true d e = let is : bool false ≡ d = cc e in rw (← is) refl
truth_fits false false d e = cc e

value_fits : (kind : ColType) (f : List ℕ) (d : Datum) → value_at kind f ≡ Ok d → fits_type kind d ≡ true
value_fits types.Bigint f d e = number_fits (bigint_at f) d e
value_fits types.Text f d e = let is : text f ≡ d = cc e in rw (← is) refl
value_fits types.Boolean f d e = truth_fits _ _ d e

pub spelled_fits : (kind : ColType) (f : List ℕ) (d : Datum) → value_in kind f ≡ Ok d → fits_type kind d ≡ true
spelled_fits kind f d e = by (is_utf8 f) e where
  by : (b : Bool) → cond b (value_at kind f) (Err BadText) ≡ Ok d → fits_type kind d ≡ true
  by true h = value_fits kind f d h
  by false h = cc h
