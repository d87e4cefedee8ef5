-- The best code: the least by cost, and then by its numbers.
use Rattle.std.specs.Prelude.{◌≡◌, ℕ, true, List, length, Option}
use Rattle.std.specs.declared.cmp.Ordering.{Ordering}
use Rattle.std.specs.declared.cmp.Ordering.TheVariants.{Less}
use Rattle.std.specs.Ordering.{nat_cmp, ordering_then}
use Rattle.expr.specs.declared.bound.ColumnId.{ColumnId}
use Rattle.expr.specs.Codes.{Code, code_cmp}
use Rattle.stats.specs.Statistics.{Stats}
use Rattle.trailcheck.specs.Admissible.{is_admissible}
use Rattle.trailcheck.specs.Settings.{Setting}
use Rattle.code_costs.specs.Cost.{Estimates, cost}

-- what the codes of a plan are made from, the statistics of each entry, and the column by which the rows are wanted in order
pub record Problem : Type 0 where
  pub setting : Setting
  pub statistics : List Stats
  pub wanted : Option ColumnId

-- costs are estimated from these alone
abbrev pub estimates : Problem → Estimates
estimates p = record { statistics = p.statistics; conditions = p.setting.conditions; lefts = p.setting.lefts; wanted = p.wanted }

-- the order of plans: by cost, then by code
abbrev pub plan_cmp : (cost : ℕ) → Code → (cost : ℕ) → Code → Ordering
plan_cmp c code d other = ordering_then (nat_cmp c d) (code_cmp code other)

-- no code that a plan may have comes before it
abbrev pub IsLeast : Problem → (cost : ℕ) → Code → Type 0
IsLeast p c code = (other : Code) → is_admissible p.setting other ≡ true → plan_cmp (cost (estimates p) other) other c code ≡ Less → ⊥

-- ---- laws

-- guards play no part in which codes a plan may have, nor in what they cost
abbrev pub GuardsPlayNoPart : Type 0
GuardsPlayNoPart =
    (p q : Problem) (code : Code) → length p.setting.frame ≡ length q.setting.frame → p.setting.indexed ≡ q.setting.indexed → p.setting.conditions ≡ q.setting.conditions → p.setting.lefts ≡ q.setting.lefts → p.statistics ≡ q.statistics → p.wanted ≡ q.wanted
    → (is_admissible p.setting code ≡ is_admissible q.setting code) × (cost (estimates p) code ≡ cost (estimates q) code)
