-- The views of the Rust types of plans as spec data.
use Rattle.std.specs.Prelude.{ℕ, List, [], ◌∷◌, map, Option, Some, None}
use denote.Ref.{Bor}
use Rattle.row_ast.specs.View.{expr_of}
use Rattle.algebra.specs.View.{step_of}
use Rattle.plan_texts.specs.declared.draft.Draft as drafts
use Rattle.plan_texts.specs.declared.draft.Draft.TheVariants as draft
use Rattle.plan_texts.specs.declared.line.Line as lines
use Rattle.plan_texts.specs.declared.line.Line.TheVariants as line
use Rattle.plan_texts.specs.declared.plan.OnCondition as conditions
use Rattle.plan_texts.specs.declared.plan.Plan as plans
use Rattle.plan_texts.specs.declared.plan.PlanCode as codes
use Rattle.plan_texts.specs.declared.plan.PlanCode.TheVariants as code
use Rattle.plan_texts.specs.declared.plan.PlanEntry as entries
use Rattle.plan_texts.specs.Plans.{OnCondition, Plan, PlanCode, PlanEntry, Empty, Steps}
use Rattle.plan_texts.specs.Reading.{Line, CostLine, FilterLine, OnLine, EmptyLine, FirstLine, JoinLine, SortLine, TrailLine, StepLine, Draft, Begun, Costed, Conditioned, Coded, Sorted, Whole}

-- an entry of FROM
abbrev pub plan_entry_of : {A : Type 0} → entries.PlanEntry A → PlanEntry
plan_entry_of e = record { alias = e.alias; columns = e.columns }

-- the ON of an entry
abbrev pub on_of : {A : Type 0} → conditions.OnCondition A → OnCondition
on_of o = record { entry = o.entry; condition = expr_of o.condition }

-- the code of a plan
abbrev pub plan_code_of : {A : Type 0} → codes.PlanCode A → PlanCode
plan_code_of code.Empty = Empty
plan_code_of (code.Steps steps) = Steps steps

-- a plan
abbrev pub plan_of : {A : Type 0} → plans.Plan A → Plan
plan_of p = record { cost = p.cost; filters = map expr_of p.filters; ons = map on_of p.ons; code = plan_code_of p.code; sort = p.sort; trail = map step_of p.trail }

-- a line
abbrev pub line_of : {A : Type 0} → lines.Line A → Line
line_of (line.Cost n) = CostLine n
line_of (line.Filter number e) = FilterLine number (expr_of e.value)
line_of (line.On entry e) = OnLine (record { entry = entry; condition = expr_of e.value })
line_of line.Empty = EmptyLine
line_of (line.First s) = FirstLine s
line_of (line.Join s) = JoinLine s
line_of (line.Sort c) = SortLine c
line_of line.Trail = TrailLine
line_of (line.Step s) = StepLine (step_of s)

-- the lines so far
abbrev pub draft_of : {A : Type 0} → drafts.Draft A → Draft
draft_of draft.Begun = Begun
draft_of (draft.Costed n es) = Costed n (map expr_of es)
draft_of (draft.Conditioned n es os) = Conditioned n (map expr_of es) (map on_of os)
draft_of (draft.Coded n es os c) = Coded n (map expr_of es) (map on_of os) (plan_code_of c)
draft_of (draft.Sorted n es os c sort) = Sorted n (map expr_of es) (map on_of os) (plan_code_of c) sort
draft_of (draft.Whole p) = Whole (plan_of p)

-- ---- texts

-- the bytes of texts
abbrev pub texts_of : List (Bor (List ℕ)) → List (List ℕ)
texts_of texts = map (λ t. t.now) texts

-- the bytes of two texts
abbrev pub pair_of : Bor (List ℕ) × Bor (List ℕ) → List ℕ × List ℕ
pair_of p = (p.0.now, p.1.now)

-- two texts, where there are no others
abbrev pub two_of : List (List ℕ) → Option (List ℕ × List ℕ)
two_of (a ∷ b ∷ []) = Some (a, b)
two_of _ = None
