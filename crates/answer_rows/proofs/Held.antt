-- Rows that stay the same where texts, cells and places are put after others or cut off.
use Rattle.std.proofs.Common.{◌≡◌, ℕ, ◌-◌, ◌<◌, ◌≤◌, List, [], ◌∷◌, ◌++◌, length, get_or, map, take, drop, All, is_lt, refl, sym, ap, ap₂, subst, ◌∙◌, arith, length-append}
use Rattle.std.specs.List.{insert}
use Rattle.std.proofs.lemmas.List.{length-drop, length-map, get_or-map, get_or_append_left, get_or-take, map-append, take-append-le, drop-append-le, drop_at, take_all}
use Rattle.std.proofs.lemmas.List.Elements.{All-drop, All-head, All-push, All-tail, All-take, All-weaker}
use Rattle.value.specs.Datum.{Datum, Row, null, cell}
use Rattle.expr.specs.declared.query.OutputKey.{OutputKey}
use Rattle.answer_rows.specs.Ordered.{is_before_last, output_cmp}
use Rattle.answer_rows.specs.View.{value_in, values_in, row_in, rows_in, IsAmong, IsPutIn, IsWithin}
use Rattle.answer_rows.specs.declared.cells.Cell.{Cell}
use Rattle.answer_rows.specs.declared.cells.Cell.TheVariants as code
use Rattle.answer_rows.specs.declared.cells.Place.{Place}
use Rattle.answer_rows.proofs.FirstRows.{last_is, map-insert}

among_more : (m n : ℕ) (c : Cell) → m ≤ n → IsAmong m c → IsAmong n c
among_more m n code.Null le h = tt
among_more m n (code.Int k) le h = tt
among_more m n (code.Text i) le h = omega arith
among_more m n (code.Bool b) le h = tt

all_among_more : (m n : ℕ) (cells : List Cell) → m ≤ n → All (IsAmong m) cells → All (IsAmong n) cells
all_among_more m n cells le all = All-weaker (IsAmong m) (IsAmong n) (λ c h. among_more m n c le h) cells all

-- ---- texts

-- the first n texts are the same
module _ (n : ℕ) (a b : List Datum) (same : (i : ℕ) → i < n → cell a i ≡ cell b i) where
  value_same : (c : Cell) → IsAmong n c → value_in a c ≡ value_in b c
  value_same code.Null h = refl
  value_same (code.Int k) h = refl
  value_same (code.Text i) h = same i h
  value_same (code.Bool t) h = refl

  values_same : (cells : List Cell) → All (IsAmong n) cells → values_in a cells ≡ values_in b cells
  values_same [] all = refl
  values_same (c ∷ cells) all = ap₂ (λ d ds. d ∷ ds) (value_same c (All-head (IsAmong n) c cells all)) (values_same cells (All-tail (IsAmong n) c cells all))

  row_same : (cells : List Cell) → All (IsAmong n) cells → (place : Place) → row_in a cells place ≡ row_in b cells place
  row_same cells all place = values_same (take place.len (drop place.start cells)) (All-take (IsAmong n) place.len (drop place.start cells) (All-drop (IsAmong n) place.start cells all))

  rows_same : (cells : List Cell) → All (IsAmong n) cells → (places : List Place) → rows_in a cells places ≡ rows_in b cells places
  rows_same cells all places = λ i. map (λ place. row_same cells all place i) places

-- one more value
module _ (texts after : List Datum) (c : Cell) (d : Datum) (put : IsPutIn texts after c d) where
  pub put_few : length texts ≤ length after
  put_few = omega (arith, ap length put.texts, length-append texts put.more)

  first_same : (n : ℕ) → n ≤ length texts → (i : ℕ) → i < n → cell after i ≡ cell texts i
  first_same n le i lt = ap (λ l. cell l i) put.texts ∙ get_or_append_left texts put.more null i (omega arith)

  pub put_values : (cells : List Cell) → All (IsAmong (length texts)) cells → values_in after cells ≡ values_in texts cells
  put_values cells all = values_same (length texts) after texts (first_same (length texts) (omega arith)) cells all

  -- after other values
  pub put_value_last : (cells : List Cell) → All (IsAmong (length texts)) cells → values_in after (cells ++ c ∷ []) ≡ values_in texts cells ++ d ∷ []
  put_value_last cells all = map-append (value_in after) cells (c ∷ []) ∙ ap₂ (λ l v. l ++ v ∷ []) (put_values cells all) put.value

  pub put_all : (cells cells' : List Cell) → cells' ≡ cells ++ c ∷ [] → All (IsAmong (length texts)) cells → All (IsAmong (length after)) cells'
  put_all cells cells' is all = subst (All (IsAmong (length after))) (sym is) (All-push (IsAmong (length after)) cells c (all_among_more (length texts) (length after) cells put_few all) put.among)

  pub put_rows : (n : ℕ) → n ≤ length texts → (cells : List Cell) → All (IsAmong n) cells → (places : List Place) → rows_in after cells places ≡ rows_in texts cells places
  put_rows n le cells all places = rows_same n after texts (first_same n le) cells all places

-- where only the first texts stay
pub rows_cut : (n : ℕ) (texts : List Datum) (cells : List Cell) → All (IsAmong n) cells → (places : List Place) → rows_in (take n texts) cells places ≡ rows_in texts cells places
rows_cut n texts cells all places = rows_same n (take n texts) texts (λ i lt. get_or-take n texts i null lt) cells all places

-- ---- cells

module _ (texts : List Datum) (cells more : List Cell) where
  row_cells : (place : Place) → IsWithin (length cells) place → row_in texts (cells ++ more) place ≡ row_in texts cells place
  row_cells place within =
      ap (λ l. values_in texts (take place.len l)) (drop-append-le place.start cells more (omega arith))
      ∙ ap (values_in texts) (take-append-le place.len (drop place.start cells) more (omega (arith, length-drop place.start cells)))

  -- where cells are put after others
  rows_cells : (places : List Place) → All (IsWithin (length cells)) places → rows_in texts (cells ++ more) places ≡ rows_in texts cells places
  rows_cells [] all = refl
  rows_cells (p ∷ places) all = ap₂ (λ r rs. r ∷ rs) (row_cells p (All-head (IsWithin (length cells)) p places all)) (rows_cells places (All-tail (IsWithin (length cells)) p places all))

  -- and are a row at their place
  module _ (place : Place) (start : place.start ≡ length cells) (len : place.len ≡ length more) where
    row_put : row_in texts (cells ++ more) place ≡ values_in texts more
    row_put = ap (λ l. values_in texts (take place.len l)) (drop_at cells more place.start (sym start)) ∙ ap (values_in texts) (take_all place.len more (omega (arith, len)))

    pub rows_put : (places : List Place) (number : ℕ) → All (IsWithin (length cells)) places → rows_in texts (cells ++ more) (insert places number place) ≡ insert (rows_in texts cells places) number (values_in texts more)
    rows_put places number all = map-insert (row_in texts (cells ++ more)) places number place ∙ ap₂ (λ l r. insert l number r) (rows_cells places all) row_put

-- ---- the last row

pub last_place : (keys : List OutputKey) (view : Place → Row) (row : Row) (places : List Place) (last : Place) → 0 < length places → last ≡ get_or places (length places - 1) last → is_lt (output_cmp keys row (view last)) ≡ is_before_last keys row (map view places)
last_place keys view row places last some is =
    let as_many = length-map places view in
    ap (λ p. is_lt (output_cmp keys row (view p))) is
    ∙ ap (λ r. is_lt (output_cmp keys row r)) (sym (get_or-map view places (length places - 1) last (view last) (omega (arith, some))))
    ∙ ap (λ n. is_lt (output_cmp keys row (get_or (map view places) (n - 1) (view last)))) (sym as_many)
    ∙ last_is keys row (map view places) (view last) (omega (arith, some, as_many))
