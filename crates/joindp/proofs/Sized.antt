-- One step of the search: its cost, and the set after it.
use Rattle.std.proofs.Common.{◌≡◌, ◌∙◌, sym, ap, ap₂, subst, ℕ, ◌+◌, ◌-◌, ◌^◌, ◌<◌, ◌≤◌, true, List, Option, Some, None, slice_index_or, length, map, arith}
use mathlib.Core.Path.{fun_ext}
use Rattle.std.proofs.lemmas.List.{length-map}
use Rattle.std.proofs.Math.Nat.{pow-le-pow_right}
use Rattle.std.proofs.lemmas.Nat.{pow_below}
use Rattle.expr.specs.declared.code.CodeStep.{CodeStep}
use Rattle.stats.specs.Card.{Entries}
use Rattle.stats.proofs.EntrySets.{set_within}
use Rattle.trailcheck.specs.Shapes.{entry_index}
use Rattle.code_costs.specs.Best.{Problem, estimates}
use Rattle.code_costs.specs.Cost.{entry_size, size, step_cost, step_cost_of}
use Rattle.joins.specs.Orders.{Order}
use Rattle.joindp.specs.Following.{may_follow}
use Rattle.joindp.specs.Search.{AreSizes, IsSmall, entry_count, set_of}
use Rattle.joindp.specs.Walks.{Plan}
use Rattle.joindp.proofs.NewSteps.{is_new}
use Rattle.joindp.proofs.OneBit.{lone_bit}

-- the left joined entries are no more than the guards
pub fewer_of : {X Y : Type 0} {n : ℕ} (f : X → Y) (xs : List X) → n ≤ length xs → n ≤ length (map f xs)
fewer_of f xs h = let l = length-map xs f in omega (arith, l, h)

-- at most 12 entries have at most 4096 sets
pub few_sets : (p : Problem) → entry_count p ≤ 12 → 2 ^ entry_count p ≤ 4096
few_sets p h = pow-le-pow_right (omega arith) h

module _ (p : Problem) (few : entry_count p ≤ 12) where
  -- the size of a set of one entry
  pub lone_size : (i bit : ℕ) → i < 64 → bit ≡ 2 ^ i → size (estimates p) (set_of bit) ≡ entry_size (estimates p) i
  lone_size i bit small e = ap (λ m. size (estimates p) (set_of m)) e ∙ ap (λ (s : Entries). size (estimates p) s) (fun_ext (λ k. lone_bit i k small))

  pub bit_within : (entries : Entries) (s : CodeStep) → may_follow p.setting entries s ≡ true → 2 ^ entry_index s < 2 ^ entry_count p
  bit_within entries s may = pow_below (entry_index s) (entry_count p) (is_new p.setting entries s may).below

  pub cost_is : (sizes : List ℕ) → AreSizes p sizes → (set bit : ℕ) (order : Order) (s : CodeStep) → set < 2 ^ entry_count p → may_follow p.setting (set_of set) s ≡ true → bit ≡ 2 ^ entry_index s
      → step_cost_of (estimates p) (slice_index_or sizes set 0) (slice_index_or sizes bit 0) order s ≡ step_cost (estimates p) (set_of set) order s
  cost_is sizes sized set bit order s within may e =
      let new = is_new p.setting (set_of set) s may in
      let b : bit < 2 ^ entry_count p = subst (λ m. m < 2 ^ entry_count p) (sym e) (bit_within (set_of set) s may) in
      ap₂ (λ x y. step_cost_of (estimates p) x y order s) (sized.1 set within).0 ((sized.1 bit b).0 ∙ lone_size (entry_index s) bit (omega (arith, new.below)) e)

  pub set_after : (set : ℕ) (s : CodeStep) → set < 2 ^ entry_count p → may_follow p.setting (set_of set) s ≡ true → set + 2 ^ entry_index s < 2 ^ entry_count p
  set_after set s within may = let new = is_new p.setting (set_of set) s may in set_within (entry_count p) set (entry_index s) within new.below new.new

-- a plan stays small under a greater number of sums
pub smaller : (m n : ℕ) (plan : Option Plan) → m ≤ n → IsSmall m plan → IsSmall n plan
smaller m n None h small = tt
smaller m n (Some q) h small = omega arith
