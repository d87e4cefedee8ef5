-- The search over sets of placed entries and orders.
use Rattle.std.specs.Prelude.{◌≡◌, ℕ, ◌+◌, ◌-◌, ◌*◌, ◌^◌, ◌<◌, ◌≤◌, ◌==◌, ◌&&◌, ◌||◌, not, nat_lt, Bool, true, false, List, length, map, Option, Some, None, slice_get, slice_index_or, if◌then◌else◌}
use Rattle.std.specs.Int.{bit_at}
use Rattle.std.specs.List.{list_any, range_with_len}
use Rattle.std.specs.declared.vec.Vec.{Vec}
use Rattle.expr.specs.declared.bound.ColumnId.{ColumnId}
use Rattle.expr.specs.declared.code.CodeStep.{CodeStep}
use Rattle.expr.specs.declared.code.Access.{Access}
use Rattle.predicates.specs.Equalities.{column_sides}
use Rattle.stats.specs.Card.{Entries}
use Rattle.trailcheck.specs.Settings.{inner_count}
use Rattle.trailcheck.specs.Shapes.{entry_index}
use Rattle.joindp.specs.declared.best.Best.{Best}
use Rattle.code_costs.specs.Best.{Problem, estimates}
use Rattle.code_costs.specs.Cost.{access_cost, last_sorting, size, step_cost}
use Rattle.joins.specs.Orders.{Order, is_ordered_by, order_after, order_of, sides}
use Rattle.joindp.specs.Following.{accesses, may_be_next, may_follow}
use Rattle.joindp.specs.Walks.{Walk, Plan, IsBestFrom}

-- the entries whose bit is set
abbrev pub set_of : (bits : ℕ) → Entries
set_of bits entry = bit_at bits entry == 1

-- the entry is of the set, and may be the next one after its others; `nexts` has the entries that may be next after each set
abbrev pub is_last : (nexts : List ℕ) → (set entry : ℕ) → Bool
is_last nexts set entry = set_of set entry && set_of (slice_index_or nexts (set - 2 ^ entry) 0) entry

-- some code places the set: none of so many entries, or others and one that may be the next one after them
abbrev pub is_reached : (count : ℕ) → (nexts : List ℕ) → (set : ℕ) → Bool
is_reached count nexts set = (set == 0) || list_any (is_last nexts set) (range_with_len 0 count)

-- combinations of the set can come in that order
abbrev pub is_order_of : (set : ℕ) → Order → Bool
is_order_of set None = true
is_order_of set (Some id) = set_of set id.entry

-- no entry yet, or a set of entries and the order in which their combinations come
pub data State : Type 0 where
  Start : State
  After : (set : ℕ) → (order : Order) → State

abbrev pub plan_of : {A : Type 0} → Option (Best A) → Option Plan
plan_of None = None
plan_of (Some b) = Some (b.cost, b.steps)

-- so little that no sum of costs passes 128 bits: each of so many sums is at most 2^81
abbrev pub IsSmall : (sums : ℕ) → Option Plan → Type 0
IsSmall n None = Unit {0}
IsSmall n (Some q) = q.0 ≤ n * 2 ^ 81

-- ---- orders

-- the rows are wanted in that order
abbrev pub is_wanted : (wanted : Option ColumnId) → Order → Bool
is_wanted None order = false
is_wanted (Some id) order = is_ordered_by order id

-- the order is that of the one of two equated columns, and the other one is of an entry that has no place yet
abbrev pub asks_for : Entries → Order → Option (ColumnId × ColumnId) → Bool
asks_for placed order None = false
asks_for placed order (Some (a, b)) = (is_ordered_by order a && not (placed b.entry)) || (is_ordered_by order b && not (placed a.entry))

-- one of a list of orders
abbrev pub IsListed : List Order → Order → Type 0
IsListed orders order = (i : ℕ) × (slice_get orders i ≡ Some order)

-- each of the old ones is one of the new ones
abbrev pub AreKept : (old new : List Order) → Type 0
AreKept old new = (order : Order) → IsListed old order → IsListed new order

-- both columns of an equality, if it is one
abbrev pub HasSides : List Order → Option (ColumnId × ColumnId) → Type 0
HasSides orders None = Unit {0}
HasSides orders (Some (a, b)) = IsListed orders (Some a) × IsListed orders (Some b)

module _ (p : Problem) where
  abbrev pub entry_count : ℕ
  entry_count = inner_count p.setting

  abbrev pub is_done : State → Bool
  is_done Start = entry_count == 0
  is_done (After set order) = set + 1 == 2 ^ entry_count

  abbrev pub allows : State → CodeStep → Bool
  allows Start s = may_follow p.setting (λ entry. false) s
  allows (After set order) s = may_follow p.setting (set_of set) s

  abbrev pub cost_of_step : State → CodeStep → ℕ
  cost_of_step Start s = access_cost (estimates p) (entry_index s) s.access
  cost_of_step (After set order) s = step_cost (estimates p) (set_of set) order s

  abbrev pub next : State → CodeStep → State
  next Start s = After (2 ^ entry_index s) (order_of (entry_index s) s.access)
  next (After set order) s = After (set + 2 ^ entry_index s) (order_after p.setting.conditions (entry_index s) order s.method)

  abbrev pub last_cost : State → ℕ
  last_cost Start = last_sorting (estimates p) None p.wanted
  last_cost (After set order) = last_sorting (estimates p) order p.wanted

  abbrev pub search : Walk
  search = record { State = State; is_done = is_done; allows = allows; step_cost = cost_of_step; next = next; last_cost = last_cost }

  -- ---- the table of the best plans from each state

  -- after the placed entries a merge may ask for combinations in that order, or they are wanted in it in the end; or it is none
  abbrev pub is_live : Entries → Order → Bool
  is_live placed None = true
  is_live placed (Some id) = is_wanted p.wanted (Some id) || list_any (λ e. asks_for placed (Some id) (column_sides e)) p.setting.conditions

  -- an order that nobody asks for is as good as none
  abbrev pub live_order : Entries → Order → Order
  live_order placed order = if is_live placed order then order else None

  -- all orders that are live after some set, and those that a merge asks for
  pub record HasOrders (orders : List Order) : Type 0 where
    pub of_live : (placed : Entries) (order : Order) → is_live placed order ≡ true → IsListed orders order
    pub of_merge : (entry number : ℕ) (placed own : ColumnId) → sides p.setting.conditions entry number ≡ Some (placed, own) → IsListed orders (Some placed)

  -- the entries that may be next after each set that some code places
  abbrev pub AreNexts : List ℕ → Type 0
  AreNexts nexts = (length nexts ≡ 2 ^ entry_count) × ((set : ℕ) → set < 2 ^ entry_count → is_reached entry_count nexts set ≡ true → (i : ℕ) → set_of (slice_index_or nexts set 0) i ≡ nat_lt i entry_count && may_be_next p.setting (set_of set) i)

  -- the best plan where the set is placed and its combinations come in that order, if that is live; else none is kept
  abbrev pub IsKept : (set : ℕ) → Order → Option Plan → Type 0
  IsKept set order plan = (is_live (set_of set) order ≡ true → IsBestFrom search (After set order) plan × IsSmall (2 ^ entry_count - set) plan) × (is_live (set_of set) order ≡ false → plan ≡ None)

  -- the plans that are kept of the set, for each order that its combinations can come in
  abbrev pub IsRow : {A : Type 0} → List Order → (set : ℕ) → List (Option (Best A)) → Type 0
  IsRow {A} orders set row = (length row ≡ length orders) × ((i : ℕ) (order : Order) (d : Option (Best A)) → slice_get orders i ≡ Some order → is_order_of set order ≡ true → IsKept set order (plan_of (slice_index_or row i d)))

  -- the rows of all sets above this one that some code places, that of all entries first
  abbrev pub IsTable : {A : Type 0} → (nexts : List ℕ) → List Order → (set : ℕ) → List (Vec (Option (Best A)) A) → Type 0
  IsTable {A} nexts orders set rows = (length rows + set + 1 ≡ 2 ^ entry_count)
      × ((t : ℕ) (d : Vec (Option (Best A)) A) → set < t → t < 2 ^ entry_count → is_reached entry_count nexts t ≡ true → IsRow orders t (slice_index_or rows (2 ^ entry_count - 1 - t) d).items)

  -- the estimated number of combinations of each set
  abbrev pub AreSizes : List ℕ → Type 0
  AreSizes sizes = (length sizes ≡ 2 ^ entry_count) × ((set : ℕ) → set < 2 ^ entry_count → (slice_index_or sizes set 0 ≡ size (estimates p) (set_of set)) × (slice_index_or sizes set 0 ≤ 2 ^ 40))

  -- the ways in which the rows of each entry may be read
  abbrev pub AreAccesses : List (List Access) → Type 0
  AreAccesses lists = lists ≡ map (accesses p.setting) (range_with_len 0 entry_count)
