use Rattle.std.proofs.Common.{List, length, ◌≡◌, ◌∷◌, ◌∙◌, refl}
use Rattle.std.specs.declared.cmp.Ordering.{Ordering}
use Rattle.std.specs.declared.cmp.Ordering.TheVariants as order
use Rattle.std.specs.Ordering.{ordering_then}
use Rattle.std.proofs.lemmas.List.{nil_from_length}
use Rattle.value.specs.Datum.{Datum, Row, datum, datum_of, row_of}
use Rattle.value.specs.Orders.{datum_cmp, row_cmp}
use Rattle.value.specs.declared.types.Value.{Value}
use Rattle.value.proofs.order.+cmp_rows.Goals as goal

-- ---- rows without columns

module _ {A : Type 0} (a b : List (Value A)) where
  both_empty : length a ≡ 0 → length b ≡ 0 → order.Equal ≡ row_cmp (row_of a) (row_of b)
  both_empty i j = rw (nil_from_length a i, nil_from_length b j) refl

  first_empty : length a ≡ 0 → (y : Value A) (ys : List (Value A)) → b ≡ y ∷ ys → order.Less ≡ row_cmp (row_of a) (row_of b)
  first_empty i y ys j = rw (nil_from_length a i, j) refl

  second_empty : (x : Value A) (xs : List (Value A)) → a ≡ x ∷ xs → length b ≡ 0 → order.Greater ≡ row_cmp (row_of a) (row_of b)
  second_empty x xs i j = rw (i, nil_from_length b j) refl

-- ---- rows with a first column

with_first : {A : Type 0} (a : List (Value A)) (x : Value A) (xs : List (Value A)) (d : Datum) → a ≡ x ∷ xs → d ≡ datum x → row_of a ≡ d ∷ row_of xs
with_first a x xs d i e = rw (i, e) refl

first_decides : (o p : Ordering) → (o ≡ order.Equal → ⊥) → o ≡ ordering_then o p
first_decides order.Less p n = refl
first_decides order.Equal p n = absurd (n refl)
first_decides order.Greater p n = refl

module _ (a b : Row) (x y : Datum) (xs ys : Row) (i : a ≡ x ∷ xs) (j : b ≡ y ∷ ys) where
  -- rows whose first columns are equal compare as their other columns
  equal_firsts : (o : Ordering) → order.Equal ≡ datum_cmp x y → o ≡ row_cmp xs ys → o ≡ row_cmp a b
  equal_firsts o e h = rw (i, j) (rw (← e) h)

  -- others compare as their first columns
  other_firsts : (o : Ordering) → o ≡ datum_cmp x y → (o ≡ order.Equal → ⊥) → o ≡ row_cmp a b
  other_firsts o e n = rw (i, j) (e ∙ first_decides (datum_cmp x y) (row_cmp xs ys) (λ h. n (e ∙ h)))

pub returns-in-None-None : goal.returns-in-None-None
returns-in-None-None g t c = both_empty c.args.a.now c.args.b.now c.in-None-None.ensures.cases c.in-None-None.ensures'.cases

pub returns-in-None-Some : goal.returns-in-None-Some
returns-in-None-Some g t c = first_empty c.args.a.now c.args.b.now c.in-None-Some.ensures.cases c.in-None-Some.field-0-1.0.now c.in-None-Some.field-0-1.1.now c.in-None-Some.ensures'.cases.0

pub returns-in-Some-None : goal.returns-in-Some-None
returns-in-Some-None g t c = second_empty c.args.a.now c.args.b.now c.in-Some-None.field-0-0.0.now c.in-Some-None.field-0-0.1.now c.in-Some-None.ensures.cases.0 c.in-Some-None.ensures'.cases

pub returns : goal.returns
returns g t c =
    other_firsts (row_of c.args.a.now) (row_of c.args.b.now) (datum_of c.as_val.result) (datum_of c.as_val-in-Some-Some.result) (row_of c.in-Some-Some.xs.now) (row_of c.in-Some-Some.ys.now)
    (with_first c.args.a.now c.in-Some-Some.x.now c.in-Some-Some.xs.now (datum_of c.as_val.result) c.in-Some-Some.ensures.cases.0 c.as_val.ensures)
    (with_first c.args.b.now c.in-Some-Some.y.now c.in-Some-Some.ys.now (datum_of c.as_val-in-Some-Some.result) c.in-Some-Some.ensures'.cases.0 c.as_val-in-Some-Some.ensures)
    c.cmp_values.result c.cmp_values.ensures c.in_default.not-Equal

pub returns-in-Equal : goal.returns-in-Equal
returns-in-Equal g t c =
    equal_firsts (row_of c.args.a.now) (row_of c.args.b.now) (datum_of c.as_val.result) (datum_of c.as_val-in-Some-Some.result) (row_of c.in-Some-Some.xs.now) (row_of c.in-Some-Some.ys.now)
    (with_first c.args.a.now c.in-Some-Some.x.now c.in-Some-Some.xs.now (datum_of c.as_val.result) c.in-Some-Some.ensures.cases.0 c.as_val.ensures)
    (with_first c.args.b.now c.in-Some-Some.y.now c.in-Some-Some.ys.now (datum_of c.as_val-in-Some-Some.result) c.in-Some-Some.ensures'.cases.0 c.as_val-in-Some-Some.ensures)
    c.cmp_rows.result c.in-Equal.ensures c.cmp_rows.ensures
