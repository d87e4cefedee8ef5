-- Records one after another, and the rows that they give.
use Rattle.std.proofs.Common.{ℕ, zero, suc, ◌≡◌, ◌≢◌, ◌+◌, ◌-◌, ◌<◌, ◌≤◌, ◌==◌, Bool, true, false, List, [], ◌∷◌, ◌++◌, length, take, Option, Some, None, Result, Ok, Err, if◌then◌else◌, refl, sym, ap, ◌∙◌, arith, eq-eqb, ne_eqb}
use Rattle.std.specs.Bool.{⊤}
use Rattle.std.proofs.lemmas.List.{append_assoc, append-nil}
use Rattle.std.proofs.Math.Seq.{take-append_seam}
use Rattle.csv_records.specs.Left.{FirstHasOther, TakesFirst}
use Rattle.value.specs.Datum.{Row}
use Rattle.tables.specs.declared.LoadError.{LoadError}
use Rattle.tables.specs.declared.LoadError.TheVariants as error
use Rattle.tables.specs.Loading.{Fields, cells_of, rows_of}
use Rattle.memory.specs.Results.{first_then}
use Rattle.value.specs.Columns.{Column}
use Rattle.tables.specs.Reading.{AreKnown}

-- ---- the records that are known

-- of the records that are known, some were seen, and the others are left
abbrev pub Leaves : Option (List Fields) → List Fields → Option (List Fields) → Type 0
Leaves None seen left = ⊤
Leaves (Some known) seen left = (rest : List Fields) × (left ≡ Some rest) × (known ≡ seen ++ rest)

pub leaves_all : (known : Option (List Fields)) → Leaves known [] known
leaves_all None = tt
leaves_all (Some known) = (known, refl, refl)

next_is : (rest : List Fields) (new : Option (List Fields)) (r : Fields) → TakesFirst (Some rest) new true r → (rs : List Fields) × (new ≡ Some rs) × (rest ≡ r ∷ rs)
next_is [] new r gives = cc gives
next_is (x ∷ xs) new r (here, is, left) = (xs, left, ap (λ y. y ∷ xs) (sym is))

pub leaves_one_less : (known : Option (List Fields)) (seen : List Fields) (old new : Option (List Fields)) (r : Fields) → Leaves known seen old → TakesFirst old new true r → Leaves known (seen ++ r ∷ []) new
leaves_one_less None seen old new r leaves gives = tt
leaves_one_less (Some known) seen old new r (rest, is, all) gives =
    let n = next_is rest new r (rw is at gives) in
    (n.0, n.1, all ∙ ap (λ xs. seen ++ xs) n.2 ∙ sym (append_assoc seen (r ∷ []) n.0))

none_left : (rest : List Fields) (new : Option (List Fields)) (r : Fields) → TakesFirst (Some rest) new false r → rest ≡ []
none_left [] new r gives = refl
none_left (x ∷ xs) new r (here, is, left) = cc here

pub leaves_none : (known : Option (List Fields)) (seen : List Fields) (old new : Option (List Fields)) (r : Fields) → Leaves known seen old → TakesFirst old new false r → AreKnown known seen
leaves_none None seen old new r leaves gives = tt
leaves_none (Some known) seen old new r (rest, is, all) gives =
    let none = none_left rest new r (rw is at gives) in all ∙ ap (λ xs. seen ++ xs) none ∙ append-nil seen

pub leaves_some : (known : Option (List Fields)) (seen : List Fields) (left : Option (List Fields)) → Leaves known seen left → (rest : List Fields) × AreKnown known (seen ++ rest)
leaves_some None seen left leaves = ([], tt)
leaves_some (Some known) seen left (rest, is, all) = (rest, all)

other : (n : ℕ) → (r : Fields) × (length r ≢ n)
other zero = ([] ∷ [], λ e. omega (arith, e))
other (suc n) = ([], λ e. omega (arith, e))

first_is_other : (rest : List Fields) (n : ℕ) → FirstHasOther (Some rest) n → (r : Fields) × (rs : List Fields) × (rest ≡ r ∷ rs) × (length r ≢ n)
first_is_other [] n h = absurd h
first_is_other (r ∷ rs) n h = (r, rs, refl, h)

pub leaves_other : (known : Option (List Fields)) (seen : List Fields) (left : Option (List Fields)) (n : ℕ) → Leaves known seen left → FirstHasOther left n
    → (r : Fields) × (rest : List Fields) × (length r ≢ n) × AreKnown known (seen ++ r ∷ rest)
leaves_other None seen left n leaves h = let o = other n in (o.0, [], o.1, tt)
leaves_other (Some known) seen left n (rest, is, all) h =
    let f = first_is_other rest n (rw is at h) in (f.0, f.1, f.3, all ∙ ap (λ xs. seen ++ xs) f.2)

-- ---- the rows of records that follow others

-- rows that were read, and those after them
abbrev pub after : {X : Type 0} → List X → Result (List X) LoadError → Result (List X) LoadError
after xs (Ok ys) = Ok (xs ++ ys)
after xs (Err e) = Err e

pub after-nil : {X : Type 0} (r : Result (List X) LoadError) → after [] r ≡ r
after-nil (Ok ys) = refl
after-nil (Err e) = refl

first_then-after : {X : Type 0} (x : X) (xs : List X) (r : Result (List X) LoadError) → first_then (Ok x) (after xs r) ≡ after (x ∷ xs) r
first_then-after x xs (Ok ys) = refl
first_then-after x xs (Err e) = refl

pub both_ok : {X : Type 0} (a : Result X LoadError) (b : Result (List X) LoadError) (xs : List X) → first_then a b ≡ Ok xs → (x : X) × (ys : List X) × (a ≡ Ok x) × (b ≡ Ok ys) × (xs ≡ x ∷ ys)
both_ok (Ok x) (Ok ys) xs h = (x, ys, refl, refl, cc)
both_ok (Ok x) (Err e) xs h = cc h
both_ok (Err e) b xs h = cc h

pub if_ok : {X : Type 0} (b : Bool) (r : Result X LoadError) (e : LoadError) (x : X) → (if b then r else Err e) ≡ Ok x → (b ≡ true) × (r ≡ Ok x)
if_ok true r e x h = (refl, h)
if_ok false r e x h = cc h

first_row_then : (b : Bool) (cells : Result Row LoadError) (whole : Result (List Row) LoadError) (e : LoadError) (x : Row) (xs rows : List Row) (r : Result (List Row) LoadError)
    → b ≡ true → cells ≡ Ok x → whole ≡ after xs r → rows ≡ x ∷ xs → (if b then first_then cells whole else Err e) ≡ after rows r
first_row_then b cells whole e x xs rows r test is next all = rw (test, is, next, all) (first_then-after x xs r)

pub rows_of-nil : (cols : List Column) (room row : ℕ) → rows_of cols room row [] ≡ Ok []
unfolding rows_of
rows_of-nil cols zero row = refl
rows_of-nil cols (suc room) row = refl

pub rows_of-append : (cols : List Column) (room row left from : ℕ) (seen : List Fields) (rows : List Row) (rest : List Fields) → left + length seen ≡ room → row + length seen ≡ from
    → rows_of cols room row seen ≡ Ok rows → rows_of cols room row (seen ++ rest) ≡ after rows (rows_of cols left from rest)
unfolding rows_of
rows_of-append cols room row left from [] rows rest e f h =
    let same_room : room ≡ left = omega arith in
    let same_row : row ≡ from = omega arith in
    let none : [] ≡ rows = cc (rows_of-nil cols room row, h) in
    rw (same_room, same_row, ← none) (sym (after-nil (rows_of cols left from rest)))
rows_of-append cols zero row left from (s ∷ ss) rows rest e f h = absurd (omega arith)
rows_of-append cols (suc room) row left from (s ∷ ss) rows rest e f h =
    let p = if_ok (length s == length cols) _ _ rows h in
    let q = both_ok (cells_of cols row 0 s) (rows_of cols room (row + 1) ss) rows p.1 in
    let next = rows_of-append cols room (row + 1) left from ss q.1 rest (omega arith) (omega arith) q.3 in
    first_row_then (length s == length cols) (cells_of cols row 0 s) (rows_of cols room (row + 1) (ss ++ rest)) (error.Reader row) q.0 q.1 rows (rows_of cols left from rest) p.0 q.2 next q.4

row_first : (cols : List Column) (room row left : ℕ) (r : Fields) (rest : List Fields) → room ≡ suc left → length r ≡ length cols
    → rows_of cols room row (r ∷ rest) ≡ first_then (cells_of cols row 0 r) (rows_of cols left (row + 1) rest)
unfolding rows_of
row_first cols room row left r rest e n = rw (e, eq-eqb (length r) (length cols) n) refl

no_room : (cols : List Column) (room row : ℕ) (r : Fields) (rest : List Fields) → room ≡ 0 → length r ≡ length cols → rows_of cols room row (r ∷ rest) ≡ Err error.TooMany
unfolding rows_of
no_room cols room row r rest e n = rw (e, eq-eqb (length r) (length cols) n) refl

uneven : (cols : List Column) (room row : ℕ) (r : Fields) (rest : List Fields) → length r ≢ length cols → rows_of cols room row (r ∷ rest) ≡ Err (error.Reader row)
unfolding rows_of
uneven cols zero row r rest n = rw (ne_eqb (length r) (length cols) n) refl
uneven cols (suc room) row r rest n = rw (ne_eqb (length r) (length cols) n) refl

-- ---- one more record after those that gave rows

pub one_more_row : (cols : List Column) (room done : ℕ) (seen : List Fields) (rows : List Row) (r : Fields) (values : Row) → done < room → length seen ≡ done → rows_of cols room 1 seen ≡ Ok rows
    → length r ≡ length cols → cells_of cols (done + 1) 0 r ≡ Ok values → rows_of cols room 1 (seen ++ r ∷ []) ≡ Ok (rows ++ values ∷ [])
one_more_row cols room done seen rows r values lt len was n cells =
    let first : rows_of cols (room - done) (done + 1) (r ∷ []) ≡ Ok (values ∷ []) =
    row_first cols (room - done) (done + 1) (room - (done + 1)) r [] (omega arith) n ∙ rw (cells, rows_of-nil cols (room - (done + 1)) (done + 1 + 1)) refl in
    rows_of-append cols room 1 (room - done) (done + 1) seen rows (r ∷ []) (omega arith) (omega arith) was ∙ ap (after rows) first

pub cell_fault : (cols : List Column) (room done : ℕ) (seen : List Fields) (rows : List Row) (r : Fields) (rest : List Fields) (e : LoadError) → done < room → length seen ≡ done → rows_of cols room 1 seen ≡ Ok rows
    → length r ≡ length cols → cells_of cols (done + 1) 0 r ≡ Err e → rows_of cols room 1 ((seen ++ r ∷ []) ++ rest) ≡ Err e
cell_fault cols room done seen rows r rest e lt len was n cells =
    let first : rows_of cols (room - done) (done + 1) (r ∷ rest) ≡ Err e =
    row_first cols (room - done) (done + 1) (room - (done + 1)) r rest (omega arith) n ∙ rw cells refl in
    ap (rows_of cols room 1) (append_assoc seen (r ∷ []) rest)
    ∙ rows_of-append cols room 1 (room - done) (done + 1) seen rows (r ∷ rest) (omega arith) (omega arith) was ∙ ap (after rows) first

pub too_many : (cols : List Column) (room : ℕ) (seen : List Fields) (rows : List Row) (r : Fields) (rest : List Fields) → length seen ≡ room → rows_of cols room 1 seen ≡ Ok rows
    → length r ≡ length cols → rows_of cols room 1 ((seen ++ r ∷ []) ++ rest) ≡ Err error.TooMany
too_many cols room seen rows r rest len was n =
    ap (rows_of cols room 1) (append_assoc seen (r ∷ []) rest)
    ∙ rows_of-append cols room 1 0 (room + 1) seen rows (r ∷ rest) (omega arith) (omega arith) was
    ∙ ap (after rows) (no_room cols 0 (room + 1) r rest refl n)

pub uneven_fault : (cols : List Column) (room done : ℕ) (seen : List Fields) (rows : List Row) (r : Fields) (rest : List Fields) → done ≤ room → length seen ≡ done → rows_of cols room 1 seen ≡ Ok rows
    → length r ≢ length cols → rows_of cols room 1 (seen ++ r ∷ rest) ≡ Err (error.Reader (done + 1))
uneven_fault cols room done seen rows r rest le len was n =
    rows_of-append cols room 1 (room - done) (done + 1) seen rows (r ∷ rest) (omega arith) (omega arith) was
    ∙ ap (after rows) (uneven cols (room - done) (done + 1) r rest n)

pub take-seen : (seen rest : List Fields) (n : ℕ) → length seen ≡ n → take n (seen ++ rest) ≡ seen
take-seen seen rest n e = rw (← e) (take-append_seam seen rest)
