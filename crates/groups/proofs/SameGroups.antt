-- The rows of the groups are a function of the bag of the members.
use Rattle.std.proofs.Common.{◌≡◌, ℕ, suc, ◌+◌, ℤ, pos, negsuc, ◌-ℤ◌, Bool, true, false, List, [], ◌∷◌, map, filter, refl, sym, ap, ap₂, ◌∙◌, arith, Ok, IsPermutation}
use Rattle.std.specs.List.{sum_by}
use Rattle.std.proofs.lemmas.Int.{ints}
use Rattle.std.proofs.lemmas.List.Sums.{sum_by-cons}
use Rattle.std.proofs.lemmas.Map.Lookups.{CmpEqualImpliesEq}
use Rattle.bags.specs.Sorting.{sorted_by}
use Rattle.bags.proofs.Order.{SameSums, SameSums-IsPermutation, sorted_by-SameSums}
use Rattle.bags.proofs.Bags.{SameSums-map, SameSums-filter, SameSums-filter_map, SameSums-length}
use Rattle.bags.proofs.Least.{least_same}
use Rattle.value.specs.Datum.{Datum, Row, cell}
use Rattle.value.specs.Orders.{number, row_cmp}
use Rattle.value.specs.Exact.{in_range}
use Rattle.value.specs.declared.operators.Aggregate.{Aggregate}
use Rattle.value.specs.declared.operators.Aggregate.TheVariants.{Count, Sum, Min, Max}
use Rattle.value.proofs.DatumOrder.{datum_cmp_exact, row_cmp_total, row_cmp_exact}
use Rattle.expr.specs.declared.bound.ColumnId.{ColumnId}
use Rattle.expr.specs.Aggregates.{AggregateCall}
use Rattle.groups.specs.Stages.{gives, stage}
use Rattle.memory.specs.Results.{first_then}
use Rattle.groups.specs.Members.{Member}
use Rattle.groups.specs.Groups.{Group, has_key, group_with, keys, classes, without_repeats}
use Rattle.groups.specs.Classes.{grouped}
use Rattle.groups.specs.Aggregates.{not_null, values_at, exact_sum, number_at, or_null, towards, aggregate_of, totals}
use Rattle.groups.specs.GroupRow.{with_totals, group_row, group_rows}
use Rattle.groups.proofs.RunningTotals.{towards_total}

-- ---- aggregates

towards_exact : (d : Bool) → CmpEqualImpliesEq (towards d)
towards_exact false a b e = datum_cmp_exact a b e
towards_exact true a b e = sym (datum_cmp_exact b a e)

up : ℤ → ℕ
up (pos n) = n
up (negsuc n) = 0

down : ℤ → ℕ
down (pos n) = 0
down (negsuc n) = suc n

parts : (z : ℤ) → z ≡ pos (up z) -ℤ pos (down z)
unfolding up down
parts (pos n) = omega (arith, ints)
parts (negsuc n) = omega (arith, ints)

-- a sum is that of the numbers above zero less that of those below
sum_parts : (ds : List Datum) → exact_sum ds ≡ pos (sum_by (λ d. up (number d)) ds) -ℤ pos (sum_by (λ d. down (number d)) ds)
sum_parts [] = refl
sum_parts (d ∷ ds) = omega (arith, ints, sum_parts ds, parts (number d), sum_by-cons (λ d. up (number d)) d ds, sum_by-cons (λ d. down (number d)) d ds)

same_sum : (xs ys : List Datum) → SameSums xs ys → exact_sum xs ≡ exact_sum ys
same_sum xs ys same = sum_parts xs ∙ ap₂ (λ a b. pos a -ℤ pos b) (same (λ d. up (number d))) (same (λ d. down (number d))) ∙ sym (sum_parts ys)

same_aggregate : (f : Aggregate) (offset : ℕ) (xs ys : List Datum) → SameSums xs ys → aggregate_of f offset xs ≡ aggregate_of f offset ys
same_aggregate Count offset xs ys same = ap (λ n. number_at offset (in_range (pos n))) (SameSums-length xs ys same)
same_aggregate Sum offset [] [] same = refl
same_aggregate Sum offset [] (y ∷ ys) same = absurd (omega (arith, SameSums-length [] (y ∷ ys) same))
same_aggregate Sum offset (x ∷ xs) [] same = absurd (omega (arith, SameSums-length (x ∷ xs) [] same))
same_aggregate Sum offset (x ∷ xs) (y ∷ ys) same = ap (λ z. number_at offset (in_range z)) (same_sum (x ∷ xs) (y ∷ ys) same)
same_aggregate Min offset xs ys same = ap (λ o. Ok (or_null o)) (least_same (towards false) (towards_total false) (towards_exact false) xs ys same)
same_aggregate Max offset xs ys same = ap (λ o. Ok (or_null o)) (least_same (towards true) (towards_total true) (towards_exact true) xs ys same)

same_totals : (calls : List AggregateCall) (index : ℕ) (xs ys : List Row) → SameSums xs ys → totals calls index xs ≡ totals calls index ys
same_totals [] index xs ys same = refl
same_totals (c ∷ calls) index xs ys same =
    ap₂ first_then
    (same_aggregate c.aggregate c.offset (values_at index xs) (values_at index ys) (SameSums-filter_map xs ys same (λ arguments. not_null (cell arguments index))))
    (same_totals calls (index + 1) xs ys same)

-- ---- groups

pub map-map : {A B C : Type 0} (g : B → C) (f : A → B) (xs : List A) → map g (map f xs) ≡ map (λ x. g (f x)) xs
map-map g f [] = refl
map-map g f (x ∷ xs) = ap (λ l. g (f x) ∷ l) (map-map g f xs)

same_row : (calls : List AggregateCall) (k : Row) (xs ys : List Row) → SameSums xs ys → group_row calls (grouped k xs) ≡ group_row calls (grouped k ys)
same_row calls k xs ys same = ap (with_totals k) (same_totals calls 0 xs ys same)

module _ (calls : List AggregateCall) (xs ys : List Member) (same : SameSums xs ys) where
  same_group : (k : Row) → group_row calls (group_with xs k) ≡ group_row calls (group_with ys k)
  same_group k =
      same_row calls k (map (λ m. m.arguments) (filter (has_key k) xs)) (map (λ m. m.arguments) (filter (has_key k) ys))
      (SameSums-map (filter (has_key k) xs) (filter (has_key k) ys) (SameSums-filter xs ys same (has_key k)) (λ m. m.arguments))

  same_keys : sorted_by row_cmp (keys xs) ≡ sorted_by row_cmp (keys ys)
  same_keys = sorted_by-SameSums row_cmp row_cmp_total row_cmp_exact (keys xs) (keys ys) (SameSums-map xs ys same (λ m. m.key))

  each_same : (ks : List Row) → map (λ k. gives (group_row calls (group_with xs k))) ks ≡ map (λ k. gives (group_row calls (group_with ys k))) ks
  each_same [] = refl
  each_same (k ∷ ks) = ap₂ (λ r l. gives r ∷ l) (same_group k) (each_same ks)

  same_classes : map (λ g. gives (group_row calls g)) (classes xs) ≡ map (λ g. gives (group_row calls g)) (classes ys)
  same_classes =
      map-map (λ (g : Group). gives (group_row calls g)) (group_with xs) (without_repeats (sorted_by row_cmp (keys xs)))
      ∙ each_same (without_repeats (sorted_by row_cmp (keys xs)))
      ∙ ap (λ ks. map (λ k. gives (group_row calls (group_with ys k))) (without_repeats ks)) same_keys
      ∙ sym (map-map (λ (g : Group). gives (group_row calls g)) (group_with ys) (without_repeats (sorted_by row_cmp (keys ys))))

pub same_group_rows : (columns : List ColumnId) (calls : List AggregateCall) (xs ys : List Member) → SameSums xs ys → group_rows columns calls xs ≡ group_rows columns calls ys
same_group_rows [] calls xs ys same = ap (λ r. stage (gives r ∷ [])) (same_row calls [] (map (λ m. m.arguments) xs) (map (λ m. m.arguments) ys) (SameSums-map xs ys same (λ m. m.arguments)))
same_group_rows (column ∷ columns) calls xs ys same = ap stage (same_classes calls xs ys same)

pub same_rows_of_groups : (columns : List ColumnId) (calls : List AggregateCall) (one other : List Member) → IsPermutation one other → group_rows columns calls one ≡ group_rows columns calls other
same_rows_of_groups columns calls one other same = same_group_rows columns calls one other (SameSums-IsPermutation one other same)
