-- Running totals: the aggregates of the values so far, and the groups of the members so far.
use Rattle.std.specs.Prelude.{ℕ, zero, suc, ◌+◌, ◌^◌, ◌<◌, ℤ, pos, ◌+ℤ◌, Bool, true, false, List, [], ◌∷◌, map, length, Option, Some, None, Result, Ok, Err, FitsSigned, ⊤, if◌then◌else◌}
use Rattle.std.specs.Int.{w128}
use Rattle.std.specs.Ordering.{match_ordering}
use Rattle.bags.specs.Least.{lesser, least}
use Rattle.value.specs.Datum.{Datum, null, Row}
use Rattle.value.specs.Orders.{number, row_cmp}
use Rattle.value.specs.Exact.{in_range}
use Rattle.value.specs.declared.faults.Fault.{Fault}
use Rattle.value.specs.declared.operators.Aggregate.{Aggregate}
use Rattle.value.specs.declared.operators.Aggregate.TheVariants as aggregate
use Rattle.expr.specs.Aggregates.{AggregateCall}
use Rattle.eval.specs.Meaning.{Outcome}
use Rattle.groups.specs.Stages.{gives, stage}
use Rattle.memory.specs.Results.{first_then}
use Rattle.groups.specs.Members.{Member}
use Rattle.groups.specs.Groups.{Group, same_key}
use Rattle.groups.specs.Aggregates.{exact_sum, not_null, number_at, or_null, towards, values_at}
use Rattle.groups.specs.GroupRow.{GroupRow, with_totals}

-- ---- the total of one aggregate

-- the number of values, their sum unless there is none, or the least or greatest of them
pub data Total : Type 0 where
  Count : ℕ → Total
  Sum : Option ℤ → Total
  Best : Bool → Option Datum → Total

-- of these values
abbrev pub total : Aggregate → List Datum → Total
total aggregate.Count ds = Count (length ds)
total aggregate.Sum [] = Sum None
total aggregate.Sum (d ∷ ds) = Sum (Some (exact_sum (d ∷ ds)))
total aggregate.Min ds = Best false (least (towards false) ds)
total aggregate.Max ds = Best true (least (towards true) ds)

abbrev pub or_zero : Option ℤ → ℤ
or_zero None = pos 0
or_zero (Some z) = z

-- with one more value
abbrev pub with_value : Total → Datum → Total
with_value (Count n) d = Count (n + 1)
with_value (Sum z) d = Sum (Some (or_zero z +ℤ number d))
with_value (Best descends o) d = Best descends (lesser (towards descends) o (Some d))

-- a null is no value
abbrev pub with_argument : Total → Option Datum → Total
with_argument t None = t
with_argument t (Some d) = with_value t d

-- one more value takes no memory: of a least or greatest value nothing is promised, since it may be a text, which is copied
abbrev pub IsInPlace : Total → Datum → Type 0
IsInPlace (Count n) d = n + 1 < 2 ^ 64
IsInPlace (Sum z) d = FitsSigned w128 (or_zero z +ℤ number d)
IsInPlace (Best descends o) d = ⊥

-- nor does a null
abbrev pub IsArgumentInPlace : Total → Option Datum → Type 0
IsArgumentInPlace t None = ⊤
IsArgumentInPlace t (Some d) = IsInPlace t d

-- the value of the aggregate, when all values are in
abbrev pub finished : ℕ → Total → Result Datum Fault
finished offset (Count n) = number_at offset (in_range (pos n))
finished offset (Sum None) = Ok null
finished offset (Sum (Some z)) = number_at offset (in_range z)
finished offset (Best descends o) = Ok (or_null o)

-- ---- those of all aggregates

abbrev pub with_arguments : List Total → Row → List Total
with_arguments [] ds = []
with_arguments (t ∷ ts) [] = t ∷ ts
with_arguments (t ∷ ts) (d ∷ ds) = with_argument t (not_null d) ∷ with_arguments ts ds

-- that at an index
abbrev pub with_argument_at : (index : ℕ) → List Total → Option Datum → List Total
with_argument_at index [] o = []
with_argument_at zero (t ∷ ts) o = with_argument t o ∷ ts
with_argument_at (suc i) (t ∷ ts) o = t ∷ with_argument_at i ts o

-- none of them that has a value takes memory
abbrev pub IsOutcomeInPlace : Total → Outcome → Type 0
IsOutcomeInPlace t (Ok d) = IsArgumentInPlace t (not_null d)
IsOutcomeInPlace t (Err f) = ⊤

abbrev pub AreOutcomesInPlace : List Total → List Outcome → Type 0
AreOutcomesInPlace [] os = ⊤
AreOutcomesInPlace (t ∷ ts) [] = ⊤
AreOutcomesInPlace (t ∷ ts) (o ∷ os) = IsOutcomeInPlace t o × AreOutcomesInPlace ts os

-- of no members
abbrev pub fresh : List AggregateCall → List Total
fresh calls = map (λ c. total c.aggregate []) calls

-- of a group that may have had no member yet
abbrev pub started : List AggregateCall → List Total → List Total
started calls [] = fresh calls
started calls (t ∷ ts) = t ∷ ts

-- of these members; the first aggregate has its arguments at an index
abbrev pub running : List AggregateCall → ℕ → List Row → List Total
running [] index members = []
running (c ∷ calls) index members = total c.aggregate (values_at index members) ∷ running calls (index + 1) members

-- the values of the aggregates, or the first fault
abbrev pub all_finished : List AggregateCall → List Total → Result Row Fault
all_finished [] ts = Ok []
all_finished (c ∷ calls) [] = Ok []
all_finished (c ∷ calls) (t ∷ ts) = first_then (finished c.offset t) (all_finished calls ts)

-- ---- groups with their totals

pub record RunningGroup : Type 0 where
  pub key : Row
  pub totals : List Total

abbrev pub running_group : List AggregateCall → Group → RunningGroup
running_group calls g = record { key = g.key; totals = running calls 0 g.members }

abbrev pub running_groups : List AggregateCall → List Group → List RunningGroup
running_groups calls gs = map (running_group calls) gs

abbrev pub with_member : List AggregateCall → Row → List Total → Row → RunningGroup
with_member calls key ts arguments = record { key = key; totals = with_arguments (started calls ts) arguments }

-- one more member in groups that are in the order of their keys
abbrev pub put_running : List AggregateCall → Member → List RunningGroup → List RunningGroup
put_running calls m [] = with_member calls m.key [] m.arguments ∷ []
put_running calls m (g ∷ gs) = match_ordering (row_cmp m.key g.key) (with_member calls m.key [] m.arguments ∷ g ∷ gs) (with_member calls g.key g.totals m.arguments ∷ gs) (g ∷ put_running calls m gs)

-- the totals of the group with a key, none where there is no such group
abbrev pub totals_for : Row → List RunningGroup → List Total
totals_for key [] = []
totals_for key (g ∷ gs) = if same_key key g.key then g.totals else totals_for key gs

-- a member of a key takes no memory: its group has totals, and the outcomes of its arguments are in place
abbrev pub IsMemberInPlace : Row → List Outcome → List RunningGroup → Type 0
IsMemberInPlace key outcomes gs = (0 < length (totals_for key gs)) × AreOutcomesInPlace (totals_for key gs) outcomes

-- the row of a group whose members are all in
abbrev pub finished_row : List AggregateCall → RunningGroup → Result GroupRow Fault
finished_row calls g = with_totals g.key (all_finished calls g.totals)

-- the row of each, or the least fault
abbrev pub finished_rows : List AggregateCall → List RunningGroup → Result (List GroupRow) Fault
finished_rows calls gs = stage (map (λ g. gives (finished_row calls g)) gs)
