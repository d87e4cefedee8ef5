-- Comparisons of operands that are numbers.
use Rattle.std.proofs.Common.{◌≡◌, ℕ, zero, suc, ℤ, true, false, List, [], ◌∷◌, length, map, replicate, refl, sym, ap, ◌∙◌}
use Rattle.std.specs.Ordering.{int_cmp}
use Rattle.std.specs.declared.cmp.Ordering.TheVariants as o
use Rattle.std.specs.Simd.Lanes.{zip2}
use Rattle.std.proofs.lemmas.Cmp.{int_cmp_total}
use Rattle.std.proofs.lemmas.List.{length-replicate}
use Rattle.std.proofs.lemmas.Simd.{zip2_splat, zip2_splat_left}
use Rattle.value.specs.Datum.{Datum, null, int, text, bool}
use Rattle.value.specs.Operators.{commutator}
use Rattle.value.specs.Orders.{of_bool, test_of}
use Rattle.value.proofs.Commutators.{commuted}
use Rattle.value.specs.declared.order.Truth.{Truth}
use Rattle.value.specs.declared.operators.Comparison.{Comparison}
use Rattle.eval.specs.Operators.{comparison_of}
use Rattle.columns.specs.Comparing.{holds}
use Rattle.columns.proofs.Truths.{int_order}

-- a value on the right
on_the_right : (op : Comparison) (n : ℤ) (d : Datum) → comparison_of (commutator op) d (int n) ≡ comparison_of op (int n) d
on_the_right op n null = refl
on_the_right op n (int m) =
    ap (λ x. of_bool (test_of (commutator op) x)) (int_order m n) ∙ ap of_bool (commuted op (int_cmp m n) ∙ ap (test_of op) (sym (int_cmp_total.antisymm n m) ∙ sym (int_order n m)))
on_the_right op n (text t) = ap of_bool (commuted op o.Greater)
on_the_right op n (bool true) = ap of_bool (commuted op o.Less)
on_the_right op n (bool false) = ap of_bool (commuted op o.Less)

all_right : (op : Comparison) (n : ℤ) (ds : List Datum) → map (λ d. comparison_of (commutator op) d (int n)) ds ≡ map (λ d. comparison_of op (int n) d) ds
all_right op n [] = refl
all_right op n (d ∷ ds) = λ p. on_the_right op n d p ∷ all_right op n ds p

pub literal_right : (op : Comparison) (rows : ℕ) (n : ℤ) (ds : List Datum) → length ds ≡ rows → map (λ d. comparison_of op d (int n)) ds ≡ zip2 (comparison_of op) ds (replicate rows (int n))
literal_right op rows n ds e = sym (zip2_splat (comparison_of op) ds rows (int n) e)

pub literal_left : (op : Comparison) (rows : ℕ) (n : ℤ) (ds : List Datum) → length ds ≡ rows → map (λ d. comparison_of (commutator op) d (int n)) ds ≡ zip2 (comparison_of op) (replicate rows (int n)) ds
literal_left op rows n ds e = all_right op n ds ∙ sym (zip2_splat_left (comparison_of op) (int n) rows ds e)

same_of_all : (f : Datum → Truth) (rows : ℕ) (d : Datum) → map f (replicate rows d) ≡ replicate rows (f d)
same_of_all f zero d = refl
same_of_all f (suc rows) d = λ p. f d ∷ same_of_all f rows d p

pub two_literals : (op : Comparison) (rows : ℕ) (m n : ℤ) → replicate rows (of_bool (holds op m n)) ≡ zip2 (comparison_of op) (replicate rows (int m)) (replicate rows (int n))
two_literals op rows m n =
    ap (λ x. replicate rows (of_bool (test_of op x))) (sym (int_order m n)) ∙ sym (same_of_all (λ d. comparison_of op d (int n)) rows (int m))
    ∙ sym (zip2_splat (comparison_of op) (replicate rows (int m)) rows (int n) (length-replicate {A = Datum} rows (int m)))
