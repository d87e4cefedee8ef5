-- The text of a plan.
use Rattle.std.specs.Prelude.{ℕ, Bool, zero, suc, if◌then◌else◌, List, [], ◌∷◌, ◌++◌, map, flat_map, Option, Some, None, codes}
use Rattle.std.specs.Fmt.{decimal}
use Rattle.std.specs.List.{slice_get}
use Rattle.value.specs.Names.{Name}
use Rattle.row_ast.specs.Ast.{Expr}
use Rattle.expr.specs.declared.code.Access.{Access}
use Rattle.expr.specs.declared.code.Access.TheVariants.{Full, Index, Range}
use Rattle.expr.specs.declared.code.CodeStep.{CodeStep}
use Rattle.expr.specs.declared.code.Method.{Method}
use Rattle.expr.specs.declared.code.Method.TheVariants.{Nested, Hash, Merge}
use Rattle.row_terms.specs.declared.path.Branch.{Branch}
use Rattle.row_terms.specs.declared.path.Branch.TheVariants.{First, Second}
use Rattle.algebra.specs.Steps.{Step}
use Rattle.expr_texts.specs.ExprTexts.{expr_text}
use Rattle.plan_texts.specs.declared.plan.PlanStep.{PlanStep}
use Rattle.plan_texts.specs.declared.plan.SortColumn.{SortColumn}
use Rattle.plan_texts.specs.Plans.{PlanEntry, OnCondition, PlanCode, Empty, Steps, Plan}

-- ---- names by number; the empty text where there is none

-- the item of that number, from 1
abbrev pub item_at : {X : Type 0} → List X → ℕ → Option X
item_at xs zero = None
item_at xs (suc index) = slice_get xs index

-- the name, if there is one
abbrev pub or_nothing : Option Name → Name
or_nothing None = []
or_nothing (Some name) = name

-- the alias of an entry
abbrev pub alias_of : Option PlanEntry → Name
alias_of None = []
alias_of (Some e) = e.alias

-- the name of the entry's column of that number
abbrev pub column_of : Option PlanEntry → ℕ → Name
column_of None column = []
column_of (Some e) column = or_nothing (item_at e.columns column)

-- ---- lines

-- lines, each with its LF
abbrev pub text_of_lines : List (List ℕ) → List ℕ
text_of_lines lines = flat_map (λ l. l ++ codes "\n") lines

-- a line for each filter, numbered from a number on
abbrev pub filter_lines : ℕ → List Expr → List (List ℕ)
filter_lines number [] = []
filter_lines number (e ∷ es) = (codes "filter " ++ decimal number ++ codes " " ++ expr_text e) ∷ filter_lines (suc number) es

-- ---- methods of joins

-- the method of a join, and its conjunct
abbrev pub method_text : Method → List ℕ
method_text Nested = codes "nested "
method_text (Hash conjunct) = codes "hash " ++ decimal conjunct ++ codes " "
method_text (Merge conjunct) = codes "merge " ++ decimal conjunct ++ codes " "

-- the word before a left join
abbrev pub left_word : Bool → List ℕ
left_word is_left = if is_left then codes "left " else []

-- ---- steps of a trail

-- the digit of a branch
abbrev pub branch_digit : Branch → ℕ
branch_digit First = 48
branch_digit Second = 49

-- a dot for the root, else a digit for each branch
abbrev pub path_text : List Branch → List ℕ
path_text [] = codes "."
path_text (b ∷ bs) = map branch_digit (b ∷ bs)

-- an argument after a space
abbrev pub argument_text : ℕ → List ℕ
argument_text n = codes " " ++ decimal n

-- the rule, a minus where it is taken in reverse, the path and the arguments
abbrev pub step_text : Step → List ℕ
step_text s = decimal s.rule ++ (if s.is_reverse then codes "-" else []) ++ codes " " ++ path_text s.path ++ flat_map argument_text s.arguments

module _ (entries : List PlanEntry) where
  -- the alias of the entry of that number
  abbrev pub alias : ℕ → Name
  alias entry = alias_of (item_at entries entry)

  -- the name of a column of the entry of that number
  abbrev pub column_name : ℕ → ℕ → Name
  column_name entry column = column_of (item_at entries entry) column

  -- ---- left joins

  -- the ON of an entry
  abbrev pub on_text : OnCondition → List ℕ
  on_text o = codes "on " ++ alias o.entry ++ codes " " ++ expr_text o.condition

  -- ---- the code

  -- the access to an entry
  abbrev pub access_text : ℕ → Access → List ℕ
  access_text entry Full = codes "full"
  access_text entry (Index column) = codes "index " ++ column_name entry column
  access_text entry (Range column bound) = codes "index " ++ column_name entry column ++ codes " by " ++ decimal bound

  -- the entry of a step and the access to it
  abbrev pub scan_text : CodeStep → List ℕ
  scan_text s = alias s.entry ++ codes " " ++ access_text s.entry s.access

  -- a step after the first
  abbrev pub join_text : PlanStep → List ℕ
  join_text j = left_word j.is_left ++ (method_text j.step.method ++ scan_text j.step)

  -- a line for each step of the code
  abbrev pub code_lines : PlanCode → List (List ℕ)
  code_lines Empty = codes "empty" ∷ []
  code_lines (Steps []) = []
  code_lines (Steps (first ∷ joins)) = (codes "first " ++ scan_text first.step) ∷ map join_text joins

  -- the line of a last sort, if there is one
  abbrev pub sort_lines : Option SortColumn → List (List ℕ)
  sort_lines None = []
  sort_lines (Some c) = (codes "sort " ++ alias c.entry ++ codes "." ++ column_name c.entry c.column) ∷ []

  -- ---- the plan

  -- the lines of a plan
  abbrev pub plan_lines : Plan → List (List ℕ)
  plan_lines p = (codes "cost " ++ decimal p.cost) ∷ (filter_lines 1 p.filters ++ (map on_text p.ons ++ (code_lines p.code ++ (sort_lines p.sort ++ (codes "trail" ∷ map step_text p.trail)))))

  -- the text of a plan: its lines, each with an LF
  abbrev pub plan_text : Plan → List ℕ
  plan_text p = text_of_lines (plan_lines p)
