-- Columns that grow and shrink, and their rows.
use Rattle.std.proofs.Common.{◌≡◌, ◌≢◌, ℕ, zero, suc, ◌+◌, ◌<◌, ◌≤◌, ◌⊎◌, inl, inr, List, [], ◌∷◌, ◌++◌, length, map, take, get_or, set, All, refl, sym, ap, ◌∙◌, arith, length-append, add-one, below_more}
use Rattle.std.proofs.lemmas.List.{get_or_append_left, get_or_push, get_or-map, get_or-take, get_or-set_same, get_or-set_other, get_or_default, map-set, length-map, length-set, length-take-le, take_more, take_more_set, map_push, same_lists, take_all}
use Rattle.std.proofs.Math.Seq.{map-set_same}
use Rattle.std.proofs.lemmas.Bool.{cases_lt}
use Rattle.value.specs.Datum.{Datum, null, Row}
use Rattle.columns.specs.Held.{HoldRows}
use Rattle.columns.specs.Rows.{row_across, rows_from, types_of}
use Rattle.value.specs.Columns.{Column, column_of, columns_of}
use Rattle.value.specs.declared.column.Column as declared

-- ---- a list in which one item is replaced

module _ {X Y : Type 0} (f : X → Y) (xs : List X) (i : ℕ) (x : X) (d : Y) where
  pub set_here : i < length xs → get_or (map f (set xs i x)) i d ≡ f x
  set_here lt = ap (λ l. get_or l i d) (map-set f xs i x) ∙ get_or-set_same (map f xs) i (f x) d (omega (arith, length-map xs f))

  pub set_there : (j : ℕ) → j ≢ i → get_or (map f (set xs i x)) j d ≡ get_or (map f xs) j d
  set_there j ne = ap (λ l. get_or l j d) (map-set f xs i x) ∙ get_or-set_other (map f xs) i j (f x) d ne

-- ---- columns

pub cut_by : (old new : List (List Datum)) (n : ℕ) → length new ≡ length old → ((j : ℕ) → j < length old → get_or new j [] ≡ take n (get_or old j [])) → new ≡ map (take n) old
cut_by old new n long each =
    same_lists new (map (take n) old) (long ∙ sym (length-map old (take n)))
    (λ k d lt. get_or_default new k d [] lt ∙ each k (omega arith) ∙ sym (get_or-map (take n) old k [] d (omega arith)))

-- each column has a value for each row, and maybe one more
pub hold_long : (n s : ℕ) (cols : List (List Datum)) → HoldRows n s cols → (k : ℕ) (d : List Datum) → k < length cols → n ≤ length (get_or cols k d)
hold_long n s cols h k d lt =
    let case : (k < s) ⊎ (s ≤ k) = cases_lt k s in
    let same : get_or cols k d ≡ get_or cols k [] = get_or_default cols k d [] lt in
    elim case [
      | inl before ↦ omega (arith, ap length same, h.begun k before)
      | inr after ↦ omega (arith, ap length same, h.others k after lt)
    ]

pub none_held : (cols : List (List Datum)) → All (λ cells. length cells ≡ 0) cols → HoldRows 0 0 cols
none_held cols none = record { within = omega arith; begun = λ k lt. absurd (omega arith); others = λ k le lt. none k [] lt }

-- columns that were cut
pub cut_held : (n s m : ℕ) (cols : List (List Datum)) → HoldRows n s cols → m ≤ n → HoldRows m 0 (map (take m) cols)
cut_held n s m cols h le = record {
  within = omega arith;
  begun = λ k lt. absurd (omega arith);
  others = λ k z lt.
      let within : k < length cols = omega (arith, length-map cols (take m)) in
      ap length (get_or-map (take m) cols k [] [] within) ∙ length-take-le m (get_or cols k []) (omega (arith, hold_long n s cols h k [] within));
}

-- the row is finished
pub finished_held : (n s : ℕ) (cols : List (List Datum)) → HoldRows n s cols → s ≡ length cols → HoldRows (n + 1) 0 cols
finished_held n s cols h all = record { within = omega arith; begun = λ k lt. absurd (omega arith); others = λ k z lt. h.begun k (omega arith) }

-- ---- rows

pub length-rows : (cols : List (List Datum)) (j n : ℕ) → length (rows_from cols j n) ≡ n
unfolding rows_from
length-rows cols j zero = refl
length-rows cols j (suc n) = ap suc (length-rows cols (j + 1) n)

pub row_in : (cols : List (List Datum)) (j n i : ℕ) → i < n → get_or (rows_from cols j n) i [] ≡ row_across cols (j + i)
unfolding rows_from
row_in cols j zero i lt = absurd (omega arith)
row_in cols j (suc n) zero lt = let same : j ≡ j + 0 = omega arith in ap (row_across cols) same
row_in cols j (suc n) (suc i) lt = let same : j + 1 + i ≡ j + suc i = omega arith in row_in cols (j + 1) n i (omega arith) ∙ ap (row_across cols) same

same_rows : (cols cols' : List (List Datum)) (j n : ℕ) → ((i : ℕ) → i < j + n → row_across cols i ≡ row_across cols' i) → rows_from cols j n ≡ rows_from cols' j n
unfolding rows_from
same_rows cols cols' j zero h = refl
same_rows cols cols' j (suc n) h = λ p. h j (omega arith) p ∷ same_rows cols cols' (j + 1) n (λ i lt. h i (omega arith)) p

first_rows : (cols : List (List Datum)) (j n m : ℕ) → m ≤ n → take m (rows_from cols j n) ≡ rows_from cols j m
unfolding rows_from
first_rows cols j n zero le = refl
first_rows cols j zero (suc m) le = absurd (omega arith)
first_rows cols j (suc n) (suc m) le = ap (λ l. row_across cols j ∷ l) (first_rows cols (j + 1) n m (omega arith))

last_row : (cols : List (List Datum)) (j n : ℕ) → rows_from cols j (suc n) ≡ rows_from cols j n ++ row_across cols (j + n) ∷ []
unfolding rows_from
last_row cols j zero = let same : j ≡ j + 0 = omega arith in ap (λ i. row_across cols i ∷ []) same
last_row cols j (suc n) = let same : j + 1 + n ≡ j + suc n = omega arith in ap (λ l. row_across cols j ∷ l) (last_row cols (j + 1) n ∙ ap (λ i. rows_from cols (j + 1) n ++ row_across cols i ∷ []) same)

cut_row : (cols : List (List Datum)) (m i : ℕ) → i < m → row_across (map (take m) cols) i ≡ row_across cols i
cut_row [] m i lt = refl
cut_row (c ∷ cols) m i lt = λ p. get_or-take m c i null lt p ∷ cut_row cols m i lt p

-- the rows of columns that were cut
pub rows_cut : (cols : List (List Datum)) (n m : ℕ) → m ≤ n → rows_from (map (take m) cols) 0 m ≡ take m (rows_from cols 0 n)
rows_cut cols n m le = same_rows (map (take m) cols) cols 0 m (λ i lt. cut_row cols m i (omega arith)) ∙ sym (first_rows cols 0 n m le)

-- the unfinished row is finished
pub rows_finished : (cols : List (List Datum)) (n s : ℕ) → s ≡ length cols → rows_from cols 0 (n + 1) ≡ rows_from cols 0 n ++ take s (row_across cols n) ∷ []
rows_finished cols n s all =
    let at : 0 + n ≡ n = omega arith in
    let whole : take s (row_across cols n) ≡ row_across cols n = take_all s (row_across cols n) (omega (arith, length-map cols (λ (cells : List Datum). get_or cells n null))) in
    ap (rows_from cols 0) (add-one n) ∙ last_row cols 0 n ∙ (λ p. rows_from cols 0 n ++ (ap (row_across cols) at ∙ sym whole) p ∷ [])

-- ---- the next column has one more value

module _ (n s : ℕ) (cols new : List (List Datum)) (d : Datum) (h : HoldRows n s cols) (lt : s < length cols) (is : new ≡ set cols s (get_or cols s [] ++ d ∷ [])) where
  long : length (get_or cols s []) ≡ n
  long = h.others s (omega arith) lt

  pub one_held : HoldRows n (s + 1) new
  one_held =
      let count : length new ≡ length cols = ap length is ∙ length-set cols s (get_or cols s [] ++ d ∷ []) in
      let there : (k : ℕ) → k ≢ s → get_or new k [] ≡ get_or cols k [] = λ k ne. ap (λ l. get_or l k []) is ∙ get_or-set_other cols s k (get_or cols s [] ++ d ∷ []) [] ne in
      let here : get_or new s [] ≡ get_or cols s [] ++ d ∷ [] = ap (λ l. get_or l s []) is ∙ get_or-set_same cols s (get_or cols s [] ++ d ∷ []) [] lt in
      let longer : length (get_or new s []) ≡ n + 1 = ap length here ∙ length-append (get_or cols s []) (d ∷ []) ∙ ap (λ m. m + 1) long in
      record {
        within = omega (arith, count);
        begun = below_more (λ k. length (get_or new k []) ≡ n + 1) s (λ k before. ap length (there k (λ e. omega (arith, e))) ∙ h.begun k before) longer;
        others = λ k le below. ap length (there k (λ e. omega (arith, e))) ∙ h.others k (omega arith) (omega (arith, count));
      }

  -- the rows stay
  pub rows_kept : rows_from new 0 n ≡ rows_from cols 0 n
  rows_kept =
      same_rows new cols 0 n (λ i below.
      ap (λ l. row_across l i) is
      ∙ map-set_same (λ (cells : List Datum). get_or cells i null) cols s (get_or cols s [] ++ d ∷ []) [] (get_or_append_left (get_or cols s []) (d ∷ []) null i (omega (arith, long))))

  -- the unfinished row has it
  pub one_more : take (s + 1) (row_across new n) ≡ take s (row_across cols n) ++ d ∷ []
  one_more =
      let at : List Datum → Datum = λ cells. get_or cells n null in
      let last : at (get_or cols s [] ++ d ∷ []) ≡ d = get_or_push (get_or cols s []) d null n long in
      ap (λ l. take (s + 1) (row_across l n)) is ∙ ap (take (s + 1)) (map-set at cols s (get_or cols s [] ++ d ∷ []) ∙ ap (λ v. set (map at cols) s v) last)
      ∙ take_more_set (map at cols) s d (omega (arith, length-map cols at))

pub length-unfinished : (n s : ℕ) (cols : List (List Datum)) → s ≤ length cols → length (take s (row_across cols n)) ≡ s
length-unfinished n s cols le = length-take-le s (row_across cols n) (omega (arith, length-map cols (λ (cells : List Datum). get_or cells n null)))

-- ---- one step

-- an item, as what the list of them has
pub item_is : {X Y : Type 0} (f : X → Y) (xs : List X) (i : ℕ) (x : X) (d : Y) → i < length xs → x ≡ get_or xs i x → f x ≡ get_or (map f xs) i d
item_is f xs i x d lt is = ap f is ∙ sym (get_or-map f xs i x d lt)

-- the types of one column more
pub types_more : {A : Type 0} (columns : List (declared.Column A)) (i : ℕ) (x : declared.Column A) → i < length columns → x ≡ get_or columns i x
    → types_of (columns_of (take (i + 1) columns)) ≡ types_of (columns_of (take i columns)) ++ x.data_type ∷ []
types_more columns i x lt is =
    ap (λ l. types_of (columns_of l)) (take_more columns i x lt) ∙ ap types_of (map_push (λ c. column_of c) (take i columns) (get_or columns i x)) ∙ map_push (λ (c : Column). c.data_type) (columns_of (take i columns)) (column_of (get_or columns i x))
    ∙ ap (λ (c : declared.Column _). types_of (columns_of (take i columns)) ++ c.data_type ∷ []) (sym is)

-- a column where no row is unfinished
pub column_is : (n s : ℕ) (cols : List (List Datum)) → HoldRows n s cols → take s (row_across cols n) ≡ [] → (k : ℕ) → k < length cols → get_or cols k [] ≡ map (λ (row : Row). get_or row k null) (rows_from cols 0 n)
column_is n s cols h none k lt =
    let start : s ≡ 0 = sym (length-unfinished n s cols h.within) ∙ ap length none in
    let long : length (get_or cols k []) ≡ n = h.others k (omega (arith, start)) lt in
    let at : Row → Datum = λ row. get_or row k null in
    same_lists (get_or cols k []) (map at (rows_from cols 0 n)) (long ∙ sym (length-map (rows_from cols 0 n) at ∙ length-rows cols 0 n))
    (λ i d below.
    let within : i < n = omega (arith, long) in
    let here : 0 + i ≡ i = omega arith in
    get_or_default (get_or cols k []) i d null below ∙ sym (get_or-map (λ (cells : List Datum). get_or cells i null) cols k [] null lt)
    ∙ sym (ap at (row_in cols 0 n i within ∙ ap (row_across cols) here)) ∙ sym (get_or-map at (rows_from cols 0 n) i [] d (omega (arith, length-rows cols 0 n))))
