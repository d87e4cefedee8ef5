-- Equality with texts.
use Rattle.std.proofs.Common.{◌≡◌, ℕ, zero, suc, ◌+◌, ◌-◌, ◌<◌, ◌≤◌, Bool, true, false, ◌&&◌, List, [], ◌∷◌, length, map, replicate, drop, get_or, Ok, Err, Option, Some, None, Bor, IfSome, refl, sym, ap, ap₂, subst, ◌∙◌, arith}
use Rattle.std.specs.List.{list_all}
use Rattle.std.specs.Ordering.{is_eq, is_ne, ordering_reverse}
use Rattle.std.specs.declared.cmp.Ordering.{Ordering}
use Rattle.std.specs.declared.cmp.Ordering.TheVariants as o
use Rattle.std.specs.Simd.Lanes.{zip2}
use Rattle.std.proofs.Math.Bool.{and-false}
use Rattle.std.proofs.lemmas.List.{drop_more, map-id}
use Rattle.std.proofs.lemmas.Map.Text.{is_eq-slice_cmp}
use Rattle.std.proofs.lemmas.Simd.{map-map, splat_is_map, zip2_splat}
use Rattle.std.specs.Str.{bytes_eq}
use Rattle.value.specs.Datum.{Datum, Row, null, int, text, bool}
use Rattle.value.specs.Names.{Name}
use Rattle.value.specs.Orders.{datum_cmp, equal_of, is_true, is_unknown, of_bool}
use Rattle.value.specs.Truths.{greatest, negated}
use Rattle.value.proofs.Conditions.{truth_back}
use Rattle.value.proofs.DatumOrder.{datum_cmp_total}
use Rattle.value.specs.declared.order.Truth.{Truth}
use Rattle.value.specs.declared.order.Truth.TheVariants.{False}
use Rattle.value.specs.declared.operators.Comparison.TheVariants.{Equal, NotEqual}
use Rattle.expr.specs.Bound.{BoundExpr, Comparison, CurrentUser, In, Literal}
use Rattle.eval.specs.Meaning.{Outcome, comparison, condition, meaning, membership}
use Rattle.eval.specs.Operators.{comparison_of, in_of, negated_if}
use Rattle.columns.specs.Bits.{IsMaskOf}
use Rattle.columns.specs.Comparing.{Show}
use Rattle.columns.specs.Optional.{is_null}
use Rattle.tuples.specs.Rows.{cells_of}
use Rattle.lane_filters.specs.Outcomes.{AreTruths, AreValues}
use Rattle.lane_filters.proofs.Nodes.{comparison_truths, literal_values}
use Rattle.lane_filters.proofs.Pointwise.{all_same, one_by_one}

-- ---- of two values

pub read_bool : (b : Bool) → is_true (of_bool b) ≡ b
read_bool true = refl
read_bool false = refl

pub equal_texts : (t u : List ℕ) → is_true (equal_of (text t) (text u)) ≡ bytes_eq t u
equal_texts t u = read_bool (is_eq (datum_cmp (text t) (text u))) ∙ is_eq-slice_cmp t u

never_unknown : (b : Bool) → is_unknown (of_bool b) ≡ false
never_unknown true = refl
never_unknown false = refl

-- the equality of a value with a text is null where the value is
null_alone : (t : List ℕ) (d : Datum) → is_unknown (equal_of d (text t)) ≡ is_null d
null_alone t null = refl
null_alone t (int n) = never_unknown (is_eq (datum_cmp (int n) (text t)))
null_alone t (text u) = never_unknown (is_eq (datum_cmp (text u) (text t)))
null_alone t (bool b) = never_unknown (is_eq (datum_cmp (bool b) (text t)))

reversed : (x : Ordering) → is_eq (ordering_reverse x) ≡ is_eq x
reversed o.Less = refl
reversed o.Equal = refl
reversed o.Greater = refl

exchanged : (d e : Datum) → of_bool (is_eq (datum_cmp e d)) ≡ of_bool (is_eq (datum_cmp d e))
exchanged d e = ap (λ x. of_bool (is_eq x)) (datum_cmp_total.antisymm e d) ∙ ap of_bool (reversed (datum_cmp d e))

equal_either : (d e : Datum) → equal_of e d ≡ equal_of d e
equal_either null null = refl
equal_either null (int n) = refl
equal_either null (text t) = refl
equal_either null (bool b) = refl
equal_either (int m) null = refl
equal_either (int m) (int n) = exchanged (int m) (int n)
equal_either (int m) (text t) = exchanged (int m) (text t)
equal_either (int m) (bool b) = exchanged (int m) (bool b)
equal_either (text s) null = refl
equal_either (text s) (int n) = exchanged (text s) (int n)
equal_either (text s) (text t) = exchanged (text s) (text t)
equal_either (text s) (bool b) = exchanged (text s) (bool b)
equal_either (bool a) null = refl
equal_either (bool a) (int n) = exchanged (bool a) (int n)
equal_either (bool a) (text t) = exchanged (bool a) (text t)
equal_either (bool a) (bool b) = exchanged (bool a) (bool b)

opposite : (x : Ordering) → of_bool (is_ne x) ≡ negated (of_bool (is_eq x))
opposite o.Less = refl
opposite o.Equal = refl
opposite o.Greater = refl

not_equal : (d e : Datum) → comparison_of NotEqual d e ≡ negated (equal_of d e)
not_equal null e = refl
not_equal (int m) null = refl
not_equal (int m) (int n) = opposite (datum_cmp (int m) (int n))
not_equal (int m) (text t) = opposite (datum_cmp (int m) (text t))
not_equal (int m) (bool b) = opposite (datum_cmp (int m) (bool b))
not_equal (text s) null = refl
not_equal (text s) (int n) = opposite (datum_cmp (text s) (int n))
not_equal (text s) (text t) = opposite (datum_cmp (text s) (text t))
not_equal (text s) (bool b) = opposite (datum_cmp (text s) (bool b))
not_equal (bool a) null = refl
not_equal (bool a) (int n) = opposite (datum_cmp (bool a) (int n))
not_equal (bool a) (text t) = opposite (datum_cmp (bool a) (text t))
not_equal (bool a) (bool b) = opposite (datum_cmp (bool a) (bool b))

-- ---- on one row

either_way : (m n : Outcome) (t : Truth) → condition (comparison Equal m n) ≡ Ok t → condition (comparison Equal n m) ≡ Ok t
either_way (Err f) n t p = absurd (cc)
either_way (Ok d) (Err f) t p = absurd (cc)
either_way (Ok d) (Ok e) t p = ap Ok (truth_back (equal_of e d) ∙ equal_either d e ∙ sym (truth_back (equal_of d e))) ∙ p

other_way : (m n : Outcome) (t : Truth) → condition (comparison Equal m n) ≡ Ok t → condition (comparison NotEqual m n) ≡ Ok (negated t)
other_way (Err f) n t p = absurd (cc)
other_way (Ok d) (Err f) t p = absurd (cc)
other_way (Ok d) (Ok e) t p =
    let same : equal_of d e ≡ t = sym (truth_back (equal_of d e)) ∙ cc in
    ap Ok (truth_back (comparison_of NotEqual d e) ∙ not_equal d e ∙ ap negated same)

member_on : (n : Bool) (values : List Datum) (m : Outcome) (d : Datum) → m ≡ Ok d → condition (membership n m values) ≡ Ok (negated_if n (in_of d values))
member_on n values m d p = (λ i. condition (membership n (p i) values)) ∙ ap Ok (truth_back (negated_if n (in_of d values)))

-- ---- on all rows

module _ (role : Name) (rows : List Row) where
  pub literal_text : (e : BoundExpr) (d : Datum) → e ≡ Literal d → (o : Option (Bor (List ℕ))) → IfSome o (λ t. d ≡ text t.now) → IfSome o (λ t. AreValues role rows e (replicate (length rows) (text t.now)))
  literal_text e d is None h = tt
  literal_text e d is (Some t) h = subst (λ (x : BoundExpr). AreValues role rows x (replicate (length rows) (text t.now))) (sym (is ∙ ap Literal h)) (literal_values role rows (text t.now))

  pub role_values : AreValues role rows CurrentUser (replicate (length rows) (text role))
  role_values = all_same (λ row. meaning (cells_of row) role CurrentUser) (text role) (λ row. refl) rows ∙ ap (map Ok) (sym (splat_is_map rows (length rows) (text role) refl))

  pub equal_truths : (offset : ℕ) (e f : BoundExpr) (cells : List Datum) (t : List ℕ) → AreValues role rows e cells → AreValues role rows f (replicate (length rows) (text t)) → length cells ≡ length rows
      → AreTruths role rows (Comparison Equal offset e f) (map (λ d. equal_of d (text t)) cells)
  equal_truths offset e f cells t p q many =
      comparison_truths role rows Equal offset e f cells (replicate (length rows) (text t)) p q ∙ ap (map Ok) (zip2_splat (comparison_of Equal) cells (length rows) (text t) many)

  pub exchanged_truths : (offset : ℕ) (e f : BoundExpr) (ts : List Truth) → AreTruths role rows (Comparison Equal offset f e) ts → AreTruths role rows (Comparison Equal offset e f) ts
  exchanged_truths offset e f ts h =
      one_by_one (λ row. condition (meaning (cells_of row) role (Comparison Equal offset f e))) (λ row. condition (meaning (cells_of row) role (Comparison Equal offset e f))) (λ t. t)
      (λ row t. either_way (meaning (cells_of row) role f) (meaning (cells_of row) role e) t) rows ts h ∙ ap (map Ok) (map-id ts)

  pub opposite_truths : (offset : ℕ) (e f : BoundExpr) (ts : List Truth) → AreTruths role rows (Comparison Equal offset e f) ts → AreTruths role rows (Comparison NotEqual offset e f) (map negated ts)
  opposite_truths offset e f =
      one_by_one (λ row. condition (meaning (cells_of row) role (Comparison Equal offset e f))) (λ row. condition (meaning (cells_of row) role (Comparison NotEqual offset e f))) negated
      (λ row t. other_way (meaning (cells_of row) role e) (meaning (cells_of row) role f) t) rows

  pub member_truths : (n : Bool) (offset : ℕ) (values : List Datum) (e : BoundExpr) (cells : List Datum) (ts : List Truth) → AreValues role rows e cells → ts ≡ map (negated_if n) (map (λ d. in_of d values) cells)
      → AreTruths role rows (In n offset values e) ts
  member_truths n offset values e cells ts p is =
      one_by_one (λ row. meaning (cells_of row) role e) (λ row. condition (meaning (cells_of row) role (In n offset values e))) (λ d. negated_if n (in_of d values))
      (λ row d. member_on n values (meaning (cells_of row) role e) d) rows cells p ∙ ap (map Ok) (sym (map-map (negated_if n) (λ d. in_of d values) cells) ∙ sym is)

-- ---- the masks of an equality with a text

pub equality_shown : (cells : List Datum) (t : List ℕ) (trues nulls : List ℕ) → IsMaskOf (map (λ d. is_true (equal_of d (text t))) cells) trues → IsMaskOf (map is_null cells) nulls → Show (map (λ d. equal_of d (text t)) cells) trues nulls
equality_shown cells t trues nulls equal missing = record {
  true_bits = subst (λ (bs : List Bool). IsMaskOf bs trues) (sym (map-map is_true (λ d. equal_of d (text t)) cells)) equal;
  null_bits = subst (λ (bs : List Bool). IsMaskOf bs nulls) (sym (map-map is_unknown (λ d. equal_of d (text t)) cells ∙ (λ i. map (λ d. null_alone t d i) cells))) missing;
}

-- ---- one value more of a list

pub one_more_value : (cells : List Datum) (v : Datum) (vs : List Datum) → zip2 greatest (map (λ d. equal_of d v) cells) (map (λ d. in_of d vs) cells) ≡ map (λ d. in_of d (v ∷ vs)) cells
one_more_value [] v vs = refl
one_more_value (d ∷ cells) v vs = ap (λ ts. greatest (equal_of d v) (in_of d vs) ∷ ts) (one_more_value cells v vs)

pub no_value : (cells : List Datum) (n : ℕ) → n ≡ length cells → replicate n False ≡ map (λ d. in_of d []) cells
no_value cells n many = splat_is_map cells n False (sym many)

pub value_step : {X : Type 0} (view : X → Datum) (vs : List X) (left : ℕ) (v : X) → 0 < left → left ≤ length vs → v ≡ get_or vs (left - 1) v → map view (drop (left - 1) vs) ≡ view v ∷ map view (drop left vs)
value_step view vs left v some within is =
    let e : left - 1 + 1 ≡ left = omega (arith, some) in
    ap (map view) (drop_more vs (left - 1) v (omega (arith, some, within))) ∙ ap₂ (λ x k. view x ∷ map view (drop k vs)) (sym is) e

module _ {X : Type 0} (view : X → Datum) (test : Datum → Bool) where
  pub not_each : (xs : List X) (i : ℕ) (x : X) → i < length xs → x ≡ get_or xs i x → test (view x) ≡ false → list_all test (map view xs) ≡ false
  not_each [] i x lt is fails = absurd (omega (arith, lt))
  not_each (y ∷ ys) zero x lt is fails = ap (λ z. test (view z) && list_all test (map view ys)) (sym is) ∙ ap (λ b. b && list_all test (map view ys)) fails
  not_each (y ∷ ys) (suc i) x lt is fails = ap (λ b. test (view y) && b) (not_each ys i x (omega (arith, lt)) is fails) ∙ and-false (test (view y))
