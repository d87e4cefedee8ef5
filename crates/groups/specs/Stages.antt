-- A stage of a query: the values of all its combinations or groups, or the least of their faults.
use Rattle.std.specs.Prelude.{Bool, true, false, List, Option, Some, None, Result, Ok, Err}
use Rattle.std.specs.List.{filter_map}
use Rattle.std.specs.declared.cmp.Ordering.{Ordering}
use Rattle.std.specs.Ordering.{nat_cmp, on, then_cmp}
use Rattle.bags.specs.Least.{least}
use Rattle.value.specs.Faults.{kind_cmp}
use Rattle.value.specs.declared.faults.Fault.{Fault}

-- ---- faults

-- by offset, then by kind
abbrev pub fault_cmp : Fault → Fault → Ordering
fault_cmp = then_cmp (on (λ f. f.offset) nat_cmp) (on (λ f. f.kind) kind_cmp)

-- ---- the outcome of one combination or group

-- a value, nothing, or a fault
abbrev pub Fate : Type 0 → Type 0
Fate Y = Result (Option Y) Fault

abbrev pub fault_in : {Y : Type 0} → Fate Y → Option Fault
fault_in (Ok given) = None
fault_in (Err fault) = Some fault

abbrev pub given_in : {Y : Type 0} → Fate Y → Option Y
given_in (Ok given) = given
given_in (Err fault) = None

-- a value is given, where there is no fault
abbrev pub gives : {Y : Type 0} → Result Y Fault → Fate Y
gives (Ok y) = Ok (Some y)
gives (Err fault) = Err fault

-- it is given where the test is true
abbrev pub gives_if : {Y : Type 0} → Y → Result Bool Fault → Fate Y
gives_if y (Ok true) = Ok (Some y)
gives_if y (Ok false) = Ok None
gives_if y (Err fault) = Err fault

-- ---- a stage

abbrev pub unless_fault : {X : Type 0} → Option Fault → X → Result X Fault
unless_fault None x = Ok x
unless_fault (Some fault) x = Err fault

-- all that is given, or the least fault
abbrev pub stage : {Y : Type 0} → List (Fate Y) → Result (List Y) Fault
stage fates = unless_fault (least fault_cmp (filter_map fault_in fates)) (filter_map given_in fates)
