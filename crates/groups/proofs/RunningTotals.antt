-- The running totals of some members, with one more, and when all are in.
use Rattle.std.proofs.Common.{◌≡◌, ◌⊎◌, inl, inr, ℕ, suc, ◌+◌, pos, ◌+ℤ◌, Bool, true, false, List, [], ◌∷◌, ◌++◌, length, refl, sym, ap, ap₂, ◌∙◌, arith, Option, Some, None, Ok}
use Rattle.std.specs.List.{cons_option}
use Rattle.std.specs.Cmp.{IsTotalOrder}
use Rattle.std.proofs.lemmas.Cmp.{back_total}
use Rattle.std.proofs.lemmas.Int.{ints}
use Rattle.std.proofs.lemmas.List.{append-nil}
use Rattle.std.proofs.lemmas.List.Elements.{filter_map-append}
use Rattle.bags.specs.Least.{lesser, least}
use Rattle.bags.proofs.Least.{lesser_assoc}
use Rattle.memory.specs.Results.{first_then}
use Rattle.value.specs.Datum.{Datum, null, Row, cell}
use Rattle.value.specs.Orders.{number}
use Rattle.value.specs.declared.operators.Aggregate.{Aggregate}
use Rattle.value.specs.declared.operators.Aggregate.TheVariants as aggregate
use Rattle.value.proofs.DatumOrder.{datum_cmp_total}
use Rattle.expr.specs.Aggregates.{AggregateCall}
use Rattle.groups.specs.Aggregates.{aggregate_of, exact_sum, not_null, totals, towards, values_at}
use Rattle.groups.specs.Running.{Total, Count, Sum, Best, total, with_value, with_argument, with_arguments, finished, all_finished, fresh, started, running}

-- ---- one more value

pub towards_total : (d : Bool) → IsTotalOrder (towards d)
towards_total false = datum_cmp_total
towards_total true = back_total datum_cmp_total

count_end : (ds : List Datum) (d : Datum) → length (ds ++ d ∷ []) ≡ length ds + 1
count_end [] d = refl
count_end (x ∷ ds) d = omega (arith, count_end ds d)

sum_end : (ds : List Datum) (d : Datum) → exact_sum (ds ++ d ∷ []) ≡ exact_sum ds +ℤ number d
sum_end [] d = omega (arith, ints)
sum_end (x ∷ ds) d = omega (arith, ints, sum_end ds d)

least_end : (b : Bool) (ds : List Datum) (d : Datum) → least (towards b) (ds ++ d ∷ []) ≡ lesser (towards b) (least (towards b) ds) (Some d)
least_end b [] d = refl
least_end b (x ∷ ds) d = ap (lesser (towards b) (Some x)) (least_end b ds d) ∙ sym (lesser_assoc (towards b) (towards_total b) (Some x) (least (towards b) ds) (Some d))

value_more : (a : Aggregate) (ds : List Datum) (d : Datum) → total a (ds ++ d ∷ []) ≡ with_value (total a ds) d
value_more aggregate.Count ds d = ap Count (count_end ds d)
value_more aggregate.Sum [] d = let same : exact_sum (d ∷ []) ≡ pos 0 +ℤ number d = omega (arith, ints) in ap (λ z. Sum (Some z)) same
value_more aggregate.Sum (x ∷ ds) d = ap (λ z. Sum (Some z)) (sum_end (x ∷ ds) d)
value_more aggregate.Min ds d = ap (Best false) (least_end false ds d)
value_more aggregate.Max ds d = ap (Best true) (least_end true ds d)

-- adding a value is the running total of the values and that one
argument_more : (a : Aggregate) (ds : List Datum) (o : Option Datum) → total a (ds ++ cons_option o []) ≡ with_argument (total a ds) o
argument_more a ds None = ap (total a) (append-nil ds)
argument_more a ds (Some d) = value_more a ds d

-- ---- one more member

one_more : (a : Aggregate) (index : ℕ) (members : List Row) (arguments : Row) → total a (values_at index (members ++ arguments ∷ [])) ≡ with_argument (total a (values_at index members)) (not_null (cell arguments index))
one_more a index members arguments =
    ap (total a) (filter_map-append (λ row. not_null (cell row index)) members (arguments ∷ [])) ∙ argument_more a (values_at index members) (not_null (cell arguments index))

-- its arguments from an index on
from_index : (calls : List AggregateCall) (index : ℕ) (members : List Row) (arguments rest : Row) → ((k : ℕ) → cell arguments (index + k) ≡ cell rest k) →
    running calls index (members ++ arguments ∷ []) ≡ with_arguments (running calls index members) rest
from_index [] index members arguments rest same = refl
from_index (c ∷ calls) index members arguments [] same =
    let here : cell arguments index ≡ null = ap (cell arguments) (omega arith) ∙ same 0 in
    ap₂ ◌∷◌ (one_more c.aggregate index members arguments ∙ ap (λ d. with_argument (total c.aggregate (values_at index members)) (not_null d)) here)
    (from_index calls (index + 1) members arguments [] (λ k. ap (cell arguments) (omega arith) ∙ same (suc k)) ∙ nothing (running calls (index + 1) members))
  where
    nothing : (ts : List Total) → with_arguments ts [] ≡ ts
    nothing [] = refl
    nothing (t ∷ ts) = refl
from_index (c ∷ calls) index members arguments (d ∷ rest) same =
    let here : cell arguments index ≡ d = ap (cell arguments) (omega arith) ∙ same 0 in
    ap₂ ◌∷◌ (one_more c.aggregate index members arguments ∙ ap (λ d. with_argument (total c.aggregate (values_at index members)) (not_null d)) here)
    (from_index calls (index + 1) members arguments rest (λ k. ap (cell arguments) (omega arith) ∙ same (suc k)))

pub running_more : (calls : List AggregateCall) (members : List Row) (arguments : Row) → running calls 0 (members ++ arguments ∷ []) ≡ with_arguments (running calls 0 members) arguments
running_more calls members arguments = from_index calls 0 members arguments arguments (λ k. ap (cell arguments) (omega arith))

-- ---- before the first member

of_none : (calls : List AggregateCall) (index : ℕ) → running calls index [] ≡ fresh calls
of_none [] index = refl
of_none (c ∷ calls) index = ap (λ ts. total c.aggregate [] ∷ ts) (of_none calls (index + 1))

pub fresh_running : (calls : List AggregateCall) → running calls 0 [] ≡ fresh calls
fresh_running calls = of_none calls 0

pub started_already : (calls : List AggregateCall) (members : List Row) → started calls (running calls 0 members) ≡ running calls 0 members
started_already [] members = refl
started_already (c ∷ calls) members = refl

-- ---- when all are in

finished_is : (a : Aggregate) (offset : ℕ) (ds : List Datum) → finished offset (total a ds) ≡ aggregate_of a offset ds
finished_is aggregate.Count offset ds = refl
finished_is aggregate.Sum offset [] = refl
finished_is aggregate.Sum offset (d ∷ ds) = refl
finished_is aggregate.Min offset ds = refl
finished_is aggregate.Max offset ds = refl

pub all_finished_are : (calls : List AggregateCall) (index : ℕ) (members : List Row) → all_finished calls (running calls index members) ≡ totals calls index members
all_finished_are [] index members = refl
all_finished_are (c ∷ calls) index members = ap₂ first_then (finished_is c.aggregate c.offset (values_at index members)) (all_finished_are calls (index + 1) members)

-- none follow where aggregates or totals run out
pub none_finished : (calls : List AggregateCall) (ts : List Total) → (calls ≡ []) ⊎ (ts ≡ []) → all_finished calls ts ≡ Ok []
none_finished calls ts (inl none) = ap (λ l. all_finished l ts) none
none_finished [] ts (inr none) = refl
none_finished (c ∷ calls) ts (inr none) = ap (all_finished (c ∷ calls)) none
