-- The order of values and of rows is total, and distinguishes all values.
use Rattle.std.proofs.Common.{◌≡◌, [], ◌∷◌, refl, sym, ap, ap₂, true, false, Ordering, Less, Equal, Greater, is_eq, true≢false, arith}
use Rattle.std.specs.Cmp.{IsTotalOrder}
use Rattle.std.specs.Cmp.Lexicographic.{slice_cmp}
use Rattle.std.specs.Ordering.{ordering_then}
use Rattle.std.proofs.lemmas.Cmp.{nat_cmp_total, int_cmp_total, nat_list_cmp_total, lists_total, then_total, on_total}
use Rattle.std.proofs.lemmas.Map.Lookups.{CmpEqualImpliesEq, exact_signed, exact_bytes, exact_unsigned}
use Rattle.value.specs.Datum.{Datum, null, int, text, bool}
use Rattle.value.specs.Orders.{class, number, bytes, datum_cmp, row_cmp}

pub datum_cmp_total : IsTotalOrder datum_cmp
datum_cmp_total = then_total (on_total class nat_cmp_total) (then_total (on_total number int_cmp_total) (on_total bytes nat_list_cmp_total))

-- two orders one after the other say equal where both do
both_equal : (o p : Ordering) → ordering_then o p ≡ Equal → (o ≡ Equal) × (p ≡ Equal)
both_equal Less p e = absurd (true≢false (sym (ap is_eq e)))
both_equal Equal p e = (refl, e)
both_equal Greater p e = absurd (true≢false (sym (ap is_eq e)))

same_parts : (a b : Datum) → datum_cmp a b ≡ Equal → (class a ≡ class b) × (number a ≡ number b) × (bytes a ≡ bytes b)
same_parts a b e =
    let p = both_equal _ _ e in
    let q = both_equal _ _ p.1 in
    (exact_unsigned _ _ p.0, exact_signed _ _ q.0, exact_bytes _ _ q.1)

-- values of one class with one number and one text are the same
same_datum : (a b : Datum) → class a ≡ class b → number a ≡ number b → bytes a ≡ bytes b → a ≡ b
same_datum (int m) (int n) c e f = ap int e
same_datum (text s) (text t) c e f = ap text f
same_datum null null c e f = refl
same_datum (bool false) (bool false) c e f = refl
same_datum (bool true) (bool true) c e f = refl
same_datum (bool false) (bool true) c e f = absurd (omega (arith, c))
same_datum (bool true) (bool false) c e f = absurd (omega (arith, c))
same_datum (int m) null c e f = absurd (omega (arith, c))
same_datum (int m) (text t) c e f = absurd (omega (arith, c))
same_datum (int m) (bool false) c e f = absurd (omega (arith, c))
same_datum (int m) (bool true) c e f = absurd (omega (arith, c))
same_datum (text s) null c e f = absurd (omega (arith, c))
same_datum (text s) (int n) c e f = absurd (omega (arith, c))
same_datum (text s) (bool false) c e f = absurd (omega (arith, c))
same_datum (text s) (bool true) c e f = absurd (omega (arith, c))
same_datum null (int n) c e f = absurd (omega (arith, c))
same_datum null (text t) c e f = absurd (omega (arith, c))
same_datum null (bool false) c e f = absurd (omega (arith, c))
same_datum null (bool true) c e f = absurd (omega (arith, c))
same_datum (bool false) null c e f = absurd (omega (arith, c))
same_datum (bool true) null c e f = absurd (omega (arith, c))
same_datum (bool false) (int n) c e f = absurd (omega (arith, c))
same_datum (bool true) (int n) c e f = absurd (omega (arith, c))
same_datum (bool false) (text t) c e f = absurd (omega (arith, c))
same_datum (bool true) (text t) c e f = absurd (omega (arith, c))

pub datum_cmp_exact : CmpEqualImpliesEq datum_cmp
datum_cmp_exact a b e = let p = same_parts a b e in same_datum a b p.0 p.1 p.2

pub lists_exact : {X : Type 0} (cmp : X → X → Ordering) → CmpEqualImpliesEq cmp → CmpEqualImpliesEq (slice_cmp cmp)
lists_exact cmp exact [] [] e = refl
lists_exact cmp exact [] (y ∷ ys) e = absurd (true≢false (sym (ap is_eq e)))
lists_exact cmp exact (x ∷ xs) [] e = absurd (true≢false (sym (ap is_eq e)))
lists_exact {X} cmp exact (x ∷ xs) (y ∷ ys) e =
    let p = both_equal (cmp x y) (slice_cmp cmp xs ys) e in ap₂ ◌∷◌ (exact x y p.0) (lists_exact cmp exact xs ys p.1)

pub row_cmp_total : IsTotalOrder row_cmp
row_cmp_total = lists_total datum_cmp_total

pub row_cmp_exact : CmpEqualImpliesEq row_cmp
row_cmp_exact = lists_exact datum_cmp datum_cmp_exact
