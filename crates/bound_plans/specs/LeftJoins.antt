-- The left joins of a plan against those of its query: the left entries are the last ones.
use Rattle.std.specs.Prelude.{◌≡◌, ℕ, suc, ◌-◌, ◌==◌, nat_le, nat_lt, Bool, true, false, ◌&&◌, if◌then◌else◌, List, [], ◌∷◌, length, map}
use Rattle.std.specs.List.{list_all}
use Rattle.expr.specs.Bound.{BoundExpr}
use Rattle.expr.specs.Codes as codes
use Rattle.expr.specs.declared.code.CodeStep.{CodeStep}
use Rattle.scope.specs.Entry.{Entry}
use Rattle.plan_texts.specs.declared.plan.PlanStep.{PlanStep}
use Rattle.plan_texts.specs.Plans.{OnCondition, Plan, PlanCode, Empty, Steps}
use Rattle.bound_plans.specs.Filters.{are_filters, is_filter}
use Rattle.bound_plans.specs.Named.{named}

-- so many entries come before the left ones
abbrev pub inner_count : (entries : List Entry) → (lefts : List BoundExpr) → ℕ
inner_count entries lefts = length entries - length lefts

-- ---- words of a code

-- a step of a left entry has the word, and one of an inner entry has not
abbrev pub is_marked : (inner : ℕ) → PlanStep → Bool
is_marked inner s = if s.is_left then nat_lt inner s.step.entry else nat_le s.step.entry inner

abbrev pub are_marked : (inner : ℕ) → PlanCode → Bool
are_marked inner Empty = true
are_marked inner (Steps steps) = list_all (is_marked inner) steps

-- the code without the words
abbrev pub plain_code : PlanCode → codes.Code
plain_code Empty = codes.Empty
plain_code (Steps steps) = codes.Steps (map (λ s. s.step) steps)

-- the step, with the word where its entry is a left one
abbrev pub marked_step : (inner : ℕ) → CodeStep → PlanStep
marked_step inner s = record { step = s; is_left = nat_lt inner s.entry }

-- the code with the words
abbrev pub marked_code : (inner : ℕ) → codes.Code → PlanCode
marked_code inner codes.Empty = Empty
marked_code inner (codes.Steps steps) = Steps (map (marked_step inner) steps)

-- ---- ONs

-- they are of the entries from a number on
abbrev pub are_numbered : ℕ → List OnCondition → Bool
are_numbered number [] = true
are_numbered number (o ∷ os) = (o.entry == number) && are_numbered (suc number) os

module _ (entries : List Entry) where
  -- their columns found, they are the conditions, in the same order
  abbrev pub are_conditions : List OnCondition → List BoundExpr → Bool
  are_conditions [] [] = true
  are_conditions (o ∷ os) (c ∷ cs) = is_filter entries o.condition c && are_conditions os cs
  are_conditions _ _ = false

  -- they are the ONs of the left entries, in their order
  abbrev pub are_ons : List OnCondition → (lefts : List BoundExpr) → Bool
  are_ons os lefts = are_numbered (suc (inner_count entries lefts)) os && are_conditions os lefts

  -- the ONs of the entries from a number on, as a plan has them
  abbrev pub named_ons_from : ℕ → List BoundExpr → List OnCondition
  named_ons_from number [] = []
  named_ons_from number (c ∷ cs) = record { entry = number; condition = named entries c } ∷ named_ons_from (suc number) cs

  -- the ONs of the left entries, as a plan has them
  abbrev pub named_ons : (lefts : List BoundExpr) → List OnCondition
  named_ons lefts = named_ons_from (suc (inner_count entries lefts)) lefts

  -- ---- the plan

  -- its filters are the conditions, and its ONs and words those of the left entries
  abbrev pub is_of_query : (conditions lefts : List BoundExpr) → Plan → Bool
  is_of_query conditions lefts p = are_filters entries p.filters conditions && (are_ons p.ons lefts && are_marked (inner_count entries lefts) p.code)

-- a code with the words has them where it is to have them, and without them it is the code
abbrev pub MarksAreRight : Type 0
MarksAreRight = (inner : ℕ) (code : codes.Code) → (are_marked inner (marked_code inner code) ≡ true) × (plain_code (marked_code inner code) ≡ code)
