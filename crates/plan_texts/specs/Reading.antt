-- The reading of a plan's text: the plan, or the number of the first unreadable line.
use Rattle.std.specs.Prelude.{◌≡◌, ℕ, zero, suc, ◌+◌, ◌<◌, ◌≤◌, ◌^◌, ◌==◌, nat_lt, Bool, true, false, ◌&&◌, ◌||◌, if◌then◌else◌, List, [], ◌∷◌, ◌++◌, length, map, flat_map, Option, Some, None, option_and_then, option_map, is_some, Result, Ok, Err, codes}
use Rattle.std.specs.List.{slice_split, list_all}
use denote.Ref.{Bor}
use Rattle.std.specs.Fmt.{decimal}
use Rattle.std.specs.Str.{bytes_eq, is_utf8, IsUtf8}
use Rattle.std.specs.Str.Parse.{digits_value}
use Rattle.value.specs.Names.{Name}
use Rattle.value.specs.Numbers.{number_at, number_below}
use Rattle.row_ast.specs.Ast.{ColumnRef, Expr}
use Rattle.expr.specs.declared.code.Access.{Access}
use Rattle.expr.specs.declared.code.Access.TheVariants.{Full, Index, Range}
use Rattle.expr.specs.declared.code.CodeStep.{CodeStep}
use Rattle.expr.specs.declared.code.Method.{Method}
use Rattle.expr.specs.declared.code.Method.TheVariants.{Nested, Hash, Merge}
use Rattle.row_terms.specs.declared.path.Branch.{Branch}
use Rattle.row_terms.specs.declared.path.Branch.TheVariants.{First, Second}
use Rattle.algebra.specs.Steps.{Step}
use Rattle.expr_texts.specs.Trees.{without_offsets}
use Rattle.expr_texts.specs.Filters.{expr_at, filter_levels, IsName, IsWritten, levels}
use Rattle.expr_texts.specs.ExprTexts.{expr_text}
use Rattle.plan_texts.specs.declared.plan.PlanStep.{PlanStep}
use Rattle.plan_texts.specs.declared.plan.SortColumn.{SortColumn}
use Rattle.plan_texts.specs.PlanTexts.{alias, column_name, scan_text, join_text, code_lines, sort_lines, step_text, plan_text}
use Rattle.plan_texts.specs.Lines.{lines_of}
use Rattle.plan_texts.specs.Columns.{all_columns}
use Rattle.plan_texts.specs.Plans.{PlanEntry, OnCondition, PlanCode, Empty, Steps, Plan}

-- ---- names

-- the number of a name, of names that are numbered from a number on
abbrev pub numbered_from : ℕ → List Name → Name → Option ℕ
numbered_from number [] name = None
numbered_from number (n ∷ ns) name = if bytes_eq name n then Some number else numbered_from (suc number) ns name

-- the number of a name, from 1
abbrev pub number_of : List Name → Name → Option ℕ
number_of names name = numbered_from 1 names name

-- ---- lines

-- a line of a plan
pub data Line : Type 0 where
  CostLine : (cost : ℕ) → Line
  FilterLine : (number : ℕ) → (filter : Expr) → Line
  OnLine : OnCondition → Line
  EmptyLine : Line
  FirstLine : CodeStep → Line
  JoinLine : PlanStep → Line
  SortLine : SortColumn → Line
  TrailLine : Line
  StepLine : Step → Line

-- the parts of a line between its spaces
abbrev pub parts : List ℕ → List (List ℕ)
parts line = slice_split (λ b. b == 32) line

-- the parts after a space, if there is one
abbrev pub further_parts : Option (Bor (List ℕ)) → List (List ℕ)
further_parts None = []
further_parts (Some rest) = parts rest.now

-- the part is this word
abbrev pub is_word : List ℕ → List ℕ → Bool
is_word word part = bytes_eq part word

-- the bytes before the first space, and those after it
abbrev pub cut : List ℕ → Option (List ℕ × List ℕ)
cut [] = None
cut (b ∷ bs) = if b == 32 then Some ([], bs) else option_map (λ p. (b ∷ p.0, p.1)) (cut bs)

-- 0 or 1
abbrev pub is_branch : ℕ → Bool
is_branch b = (b == 48) || (b == 49)

-- the branch of a digit
abbrev pub branch_of : ℕ → Branch
branch_of b = if b == 49 then Second else First

-- the branches of digits
abbrev pub branches_of : List ℕ → List Branch
branches_of bs = map branch_of bs

-- the path of a step
abbrev pub path_at : List ℕ → Option (List Branch)
path_at [] = None
path_at (b ∷ bs) = if bytes_eq (b ∷ bs) (codes ".") then Some [] else if list_all is_branch (b ∷ bs) then Some (branches_of (b ∷ bs)) else None

-- at most two arguments
abbrev pub arguments_at : List (List ℕ) → Option (List ℕ)
arguments_at [] = Some []
arguments_at (a ∷ []) = option_map (λ n. n ∷ []) (number_at a)
arguments_at (a ∷ b ∷ []) = option_and_then (λ m. option_map (λ n. m ∷ n ∷ []) (number_at b)) (number_at a)
arguments_at _ = None

-- a minus is last
abbrev pub last_minus : List ℕ → Bool
last_minus [] = false
last_minus (b ∷ []) = b == 45
last_minus (b ∷ c ∷ bs) = last_minus (c ∷ bs)

-- the bytes without the last
abbrev pub but_last : List ℕ → List ℕ
but_last [] = []
but_last (b ∷ []) = []
but_last (b ∷ c ∷ bs) = b ∷ but_last (c ∷ bs)

-- the number of a rule, and true where a minus after it reverses the rule
abbrev pub rule_at : List ℕ → Option (ℕ × Bool)
rule_at part = if last_minus part then option_map (λ n. (n, true)) (number_at (but_last part)) else option_map (λ n. (n, false)) (number_at part)

-- a step of the trail
abbrev pub step_at : List (List ℕ) → Option Step
step_at (rule ∷ path ∷ arguments) =
    option_and_then (λ r. option_and_then (λ p. option_map (λ ns. record { rule = r.0; is_reverse = r.1; path = p; arguments = ns }) (arguments_at arguments)) (path_at path)) (rule_at rule)
step_at _ = None

-- the cost of the plan
abbrev pub cost_at : List (List ℕ) → Option Line
cost_at (n ∷ []) = option_map CostLine (number_below (2 ^ 128) n)
cost_at _ = None

-- all rows are read
abbrev pub is_full : Access → Bool
is_full Full = true
is_full (Index column) = false
is_full (Range column bound) = false

-- the line of a join that is no left join
abbrev pub inner_line : CodeStep → Line
inner_line s = JoinLine (record { step = s; is_left = false })

-- the line of a left join, of an entry of which all rows are read
abbrev pub left_line : CodeStep → Option Line
left_line s = if is_full s.access then Some (JoinLine (record { step = s; is_left = true })) else None

-- the columns of the entry at an index
abbrev pub columns_from : List PlanEntry → ℕ → List Name
columns_from [] index = []
columns_from (e ∷ es) zero = e.columns
columns_from (e ∷ es) (suc index) = columns_from es index

module _ (entries : List PlanEntry) where
  -- the number of the entry with the alias
  abbrev pub entry_at : Name → Option ℕ
  entry_at alias = number_of (map (λ (e : PlanEntry). e.alias) entries) alias

  -- the columns of the entry of that number
  abbrev pub columns_at : ℕ → List Name
  columns_at zero = []
  columns_at (suc index) = columns_from entries index

  -- the number of the entry's column of that name
  abbrev pub column_at : ℕ → Name → Option ℕ
  column_at entry name = number_of (columns_at entry) name

  -- an alias of an entry, and a column of its table
  abbrev pub is_found : ColumnRef → Bool
  is_found c = is_some (option_and_then (λ alias. option_and_then (λ i. column_at i c.name) (entry_at alias)) c.table)

  -- the line of a filter whose columns are found
  abbrev pub filter_line : ℕ → Expr → Option Line
  filter_line number e = if all_columns is_found e then Some (FilterLine number e) else None

  -- the line of a filter, by its number and the text of the expression
  abbrev pub filter_at : Option (List ℕ × List ℕ) → Option Line
  filter_at None = None
  filter_at (Some p) = option_and_then (λ n. option_and_then (filter_line n) (expr_at p.1)) (number_at p.0)

  -- the line of an entry's ON whose columns are found
  abbrev pub on_line : ℕ → Expr → Option Line
  on_line entry e = if all_columns is_found e then Some (OnLine (record { entry = entry; condition = e })) else None

  -- the line of an ON, by the alias of the entry and the text of the expression
  abbrev pub on_at : Option (List ℕ × List ℕ) → Option Line
  on_at None = None
  on_at (Some p) = option_and_then (λ i. option_and_then (on_line i) (expr_at p.1)) (entry_at p.0)

  -- the access to an entry
  abbrev pub access_at : ℕ → List (List ℕ) → Option Access
  access_at entry (word ∷ []) = if is_word (codes "full") word then Some Full else None
  access_at entry (word ∷ name ∷ []) = if is_word (codes "index") word then option_map (λ c. Index c) (column_at entry name) else None
  access_at entry (word ∷ name ∷ by_ ∷ bound ∷ []) =
      if is_word (codes "index") word && is_word (codes "by") by_ then option_and_then (λ c. option_map (λ k. Range c k) (number_at bound)) (column_at entry name) else None
  access_at entry _ = None

  -- a step with a method, by its alias and access
  abbrev pub scan_at : Method → List (List ℕ) → Option CodeStep
  scan_at method [] = None
  scan_at method (alias ∷ access) = option_and_then (λ i. option_map (λ a. record { entry = i; access = a; method = method }) (access_at i access)) (entry_at alias)

  -- a step with a method by a conjunct
  abbrev pub by_conjunct : (ℕ → Method) → List (List ℕ) → Option CodeStep
  by_conjunct method [] = None
  by_conjunct method (conjunct ∷ scan) = option_and_then (λ k. scan_at (method k) scan) (number_at conjunct)

  -- the step of a left join: nested, or by a hash table
  abbrev pub left_step : List (List ℕ) → Option CodeStep
  left_step [] = None
  left_step (word ∷ more) = if is_word (codes "nested") word then scan_at Nested more else if is_word (codes "hash") word then by_conjunct Hash more else None

  -- alias.column
  abbrev pub sort_column_at : List (List ℕ) → Option SortColumn
  sort_column_at (alias ∷ name ∷ []) = option_and_then (λ i. option_map (λ c. record { entry = i; column = c }) (column_at i name)) (entry_at alias)
  sort_column_at _ = None

  -- the last sort
  abbrev pub sort_at : List (List ℕ) → Option Line
  sort_at (name ∷ []) = option_map SortLine (sort_column_at (slice_split (λ b. b == 46) name))
  sort_at _ = None

  -- a line that has no expression, by its parts
  abbrev pub other_line : List (List ℕ) → Option Line
  other_line [] = None
  other_line (word ∷ more) =
      if is_word (codes "cost") word then cost_at more
      else if is_word (codes "first") word then option_map FirstLine (scan_at Nested more)
      else if is_word (codes "nested") word then option_map inner_line (scan_at Nested more)
      else if is_word (codes "hash") word then option_map inner_line (by_conjunct Hash more)
      else if is_word (codes "merge") word then option_map inner_line (by_conjunct Merge more)
      else if is_word (codes "left") word then option_and_then left_line (left_step more)
      else if is_word (codes "sort") word then sort_at more
      else option_map StepLine (step_at (word ∷ more))

  -- a line by its first word and the rest, and by its parts
  abbrev pub after_word : Option (List ℕ × List ℕ) → List (List ℕ) → Option Line
  after_word None ps = other_line ps
  after_word (Some p) ps = if is_word (codes "filter") p.0 then filter_at (cut p.1) else if is_word (codes "on") p.0 then on_at (cut p.1) else other_line ps

  -- the content of a line
  abbrev pub content_at : List ℕ → Option Line
  content_at line =
      if bytes_eq line (codes "empty") then Some EmptyLine
      else if bytes_eq line (codes "trail") then Some TrailLine
      else after_word (cut line) (parts line)

  -- the content of a line in UTF-8
  abbrev pub line_at : List ℕ → Option Line
  line_at line = if is_utf8 line then content_at line else None

-- ---- the plan

-- the lines so far: none, a cost and filters, then ONs, then a code, then a last sort, or a plan with some of its trail
pub data Draft : Type 0 where
  Begun : Draft
  Costed : (cost : ℕ) → (filters : List Expr) → Draft
  Conditioned : (cost : ℕ) → (filters : List Expr) → (ons : List OnCondition) → Draft
  Coded : (cost : ℕ) → (filters : List Expr) → (ons : List OnCondition) → (code : PlanCode) → Draft
  Sorted : (cost : ℕ) → (filters : List Expr) → (ons : List OnCondition) → (code : PlanCode) → (sort : SortColumn) → Draft
  Whole : Plan → Draft

-- the first step of a code, which is no join
abbrev pub first_step : CodeStep → PlanStep
first_step s = record { step = s; is_left = false }

-- filters and ONs with one more ON, or with the beginning of a code
abbrev pub after_filters : ℕ → List Expr → List OnCondition → Line → Option Draft
after_filters n es os (OnLine o) = Some (Conditioned n es (os ++ o ∷ []))
after_filters n es os EmptyLine = Some (Coded n es os Empty)
after_filters n es os (FirstLine first) = Some (Coded n es os (Steps (first_step first ∷ [])))
after_filters n es os _ = None

-- the code with one more step, where it has steps
abbrev pub with_step : PlanCode → PlanStep → Option PlanCode
with_step Empty s = None
with_step (Steps steps) s = Some (Steps (steps ++ s ∷ []))

-- the draft with one more line, where the line may stand there
abbrev pub with_line : Draft → Line → Option Draft
with_line Begun (CostLine n) = Some (Costed n [])
with_line (Costed n es) (FilterLine number e) = if number == length es + 1 then Some (Costed n (es ++ e ∷ [])) else None
with_line (Costed n es) l = after_filters n es [] l
with_line (Conditioned n es os) l = after_filters n es os l
with_line (Coded n es os code) (JoinLine j) = option_map (λ c. Coded n es os c) (with_step code j)
with_line (Coded n es os code) (SortLine c) = Some (Sorted n es os code c)
with_line (Coded n es os code) TrailLine = Some (Whole (record { cost = n; filters = es; ons = os; code = code; sort = None; trail = [] }))
with_line (Sorted n es os code c) TrailLine = Some (Whole (record { cost = n; filters = es; ons = os; code = code; sort = Some c; trail = [] }))
with_line (Whole p) (StepLine s) = Some (Whole (record p { trail = p.trail ++ s ∷ [] }))
with_line _ _ = None

-- a whole plan with nothing after its last line
abbrev pub plan_in : ℕ → Draft → List ℕ → Result Plan ℕ
plan_in next (Whole p) [] = Ok p
plan_in next _ _ = Err next

-- a line that may not stand there is unreadable
abbrev pub or_stops : ℕ → Option Draft → (Draft → Result Plan ℕ) → Result Plan ℕ
or_stops number None go_on = Err number
or_stops number (Some draft) go_on = go_on draft

module _ (entries : List PlanEntry) where
  -- the plan of a draft and further lines, which are numbered from a number on
  abbrev pub read_lines : ℕ → Draft → List (List ℕ) → List ℕ → Result Plan ℕ
  read_lines number draft [] rest = plan_in number draft rest
  read_lines number draft (l ∷ ls) rest = or_stops number (option_and_then (with_line draft) (line_at entries l)) (λ next. read_lines (suc number) next ls rest)

  -- The plan of a text, or the number of the first unreadable line, from 1. A line that is missing is the one after the
  -- last.
  abbrev pub plan_at : List ℕ → Result Plan ℕ
  plan_at text = read_lines 1 Begun (lines_of text).0 (lines_of text).1

-- ---- plans with a text

-- the name has this number alone, and is one of the grammar
abbrev pub IsOne : List Name → ℕ → Name → Type 0
IsOne names number name = (number_of names name ≡ Some number) × IsName name

-- all of a list
abbrev pub AreAll : {X : Type 0} → (X → Type 0) → List X → Type 0
AreAll P [] = Unit {0}
AreAll P (x ∷ xs) = P x × AreAll P xs

-- the step of a left join: all rows are read, and it does not merge
pub record IsLeft (s : CodeStep) : Type 0 where
  pub full : s.access ≡ Full
  pub no_merge : (conjunct : ℕ) → s.method ≡ Merge conjunct → ⊥

-- a step whose numbers are of 64 bits, with at most two arguments
pub record IsStep (s : Step) : Type 0 where
  pub rule : s.rule < 2 ^ 64
  pub arguments : AreAll (λ n. n < 2 ^ 64) s.arguments
  pub few : length s.arguments ≤ 2

module _ (entries : List PlanEntry) where
  -- a filter with a text, its columns found
  pub record IsFilter (e : Expr) : Type 0 where
    pub written : IsWritten e
    pub shallow : levels e ≤ filter_levels
    pub utf8 : IsUtf8 (expr_text e)
    pub found : all_columns (is_found entries) e ≡ true

  -- there is an entry of that number, found by its alias
  abbrev pub HasEntry : ℕ → Type 0
  HasEntry entry = IsOne (map (λ (e : PlanEntry). e.alias) entries) entry (alias entries entry)

  -- the entry has a column of that number, found by its name
  abbrev pub HasColumn : ℕ → ℕ → Type 0
  HasColumn entry column = IsOne (columns_at entries entry) column (column_name entries entry column)

  -- an access with a text
  abbrev pub IsAccess : ℕ → Access → Type 0
  IsAccess entry Full = Unit {0}
  IsAccess entry (Index column) = HasColumn entry column
  IsAccess entry (Range column bound) = HasColumn entry column × (bound < 2 ^ 64)

  -- the entry of a step and the access to it have a text
  abbrev pub IsScan : CodeStep → Type 0
  IsScan s = HasEntry s.entry × IsAccess s.entry s.access

  -- a method with a text
  abbrev pub IsMethod : Method → Type 0
  IsMethod Nested = Unit {0}
  IsMethod (Hash conjunct) = conjunct < 2 ^ 64
  IsMethod (Merge conjunct) = conjunct < 2 ^ 64

  -- a first step
  abbrev pub IsFirst : PlanStep → Type 0
  IsFirst s = (s.is_left ≡ false) × (s.step.method ≡ Nested) × IsScan s.step

  -- a step after the first
  abbrev pub IsJoin : PlanStep → Type 0
  IsJoin j = (j.is_left ≡ true → IsLeft j.step) × IsMethod j.step.method × IsScan j.step

  -- a code with a text: no step is read, or one at least
  abbrev pub IsCode : PlanCode → Type 0
  IsCode Empty = Unit {0}
  IsCode (Steps []) = ⊥
  IsCode (Steps (first ∷ joins)) = IsFirst first × AreAll IsJoin joins

  -- the column of a last sort, if there is one
  abbrev pub IsSort : Option SortColumn → Type 0
  IsSort None = Unit {0}
  IsSort (Some c) = HasEntry c.entry × HasColumn c.entry c.column

  -- a plan of the entries but for its conditions: its numbers are of 64 bits, its cost of 128
  pub record IsSound (p : Plan) : Type 0 where
    pub cost : p.cost < 2 ^ 128
    pub lefts : AreAll (λ o. HasEntry o.entry) p.ons
    pub code : IsCode p.code
    pub sort : IsSort p.sort
    pub trail : AreAll IsStep p.trail

  -- a plan of the entries with a text
  pub record IsPlan (p : Plan) : Type 0 where
    pub sound : IsSound p
    pub filters : AreAll IsFilter p.filters
    pub ons : AreAll (λ o. IsFilter o.condition) p.ons
    pub few : length p.filters < 2 ^ 64

-- the ON without offsets
abbrev pub on_without_offsets : OnCondition → OnCondition
on_without_offsets o = record { entry = o.entry; condition = without_offsets o.condition }

-- the plan, with conditions without offsets
abbrev pub plan_without_offsets : Plan → Plan
plan_without_offsets p = record p { filters = map without_offsets p.filters; ons = map on_without_offsets p.ons }

-- the text of a plan is read as the plan
abbrev pub PlansReadBack : Type 0
PlansReadBack = (entries : List PlanEntry) (p : Plan) → IsPlan entries p → plan_at entries (plan_text entries p) ≡ Ok (plan_without_offsets p)

-- ---- the texts of lines

module _ (entries : List PlanEntry) where
  -- the text of a line; of a filter's and an ON's any text that is read as the expression, whose columns are found
  abbrev pub IsTextOfLine : Line → List ℕ → Type 0
  IsTextOfLine (CostLine n) l = (l ≡ codes "cost " ++ decimal n) × (n < 2 ^ 128)
  IsTextOfLine (FilterLine k e) l = (source : List ℕ) × (l ≡ codes "filter " ++ decimal k ++ codes " " ++ source) × (k < 2 ^ 64) × (expr_at source ≡ Some e) × (all_columns (is_found entries) e ≡ true)
  IsTextOfLine (OnLine o) l = (source : List ℕ) × (l ≡ codes "on " ++ alias entries o.entry ++ codes " " ++ source) × (expr_at source ≡ Some o.condition) × (all_columns (is_found entries) o.condition ≡ true)
  IsTextOfLine EmptyLine l = l ≡ codes "empty"
  IsTextOfLine (FirstLine s) l = (l ≡ codes "first " ++ scan_text entries s) × (s.method ≡ Nested)
  IsTextOfLine (JoinLine j) l = l ≡ join_text entries j
  IsTextOfLine (SortLine c) l = l ≡ codes "sort " ++ alias entries c.entry ++ codes "." ++ column_name entries c.entry c.column
  IsTextOfLine TrailLine l = l ≡ codes "trail"
  IsTextOfLine (StepLine s) l = l ≡ step_text s

-- a line that is read is the text of its content
abbrev pub LinesAreTexts : Type 0
LinesAreTexts = (entries : List PlanEntry) (l : List ℕ) (x : Line) → line_at entries l ≡ Some x → IsTextOfLine entries x l

-- ---- the texts of plans

module _ (entries : List PlanEntry) where
  -- the lines of filters, numbered from a number on
  abbrev pub AreFilters : ℕ → List (List ℕ) → List Expr → Type 0
  AreFilters number [] [] = Unit {0}
  AreFilters number (l ∷ ls) (e ∷ es) = IsTextOfLine entries (FilterLine number e) l × AreFilters (suc number) ls es
  AreFilters number _ _ = ⊥

  -- the lines of ONs
  abbrev pub AreOns : List (List ℕ) → List OnCondition → Type 0
  AreOns [] [] = Unit {0}
  AreOns (l ∷ ls) (o ∷ os) = IsTextOfLine entries (OnLine o) l × AreOns ls os
  AreOns _ _ = ⊥

  -- the text is the plan's, each condition by any text that is read as it
  pub record IsTextOf (p : Plan) (text : List ℕ) : Type 0 where
    pub filters : List (List ℕ)
    pub ons : List (List ℕ)
    pub are_filters : AreFilters 1 filters p.filters
    pub are_ons : AreOns ons p.ons
    pub lines : text ≡ flat_map (λ l. l ++ codes "\n") ((codes "cost " ++ decimal p.cost) ∷ (filters ++ (ons ++ (code_lines entries p.code ++ (sort_lines entries p.sort ++ (codes "trail" ∷ map step_text p.trail))))))

-- a text that is read as a plan is a text of the plan
abbrev pub ReadIsText : Type 0
ReadIsText = (entries : List PlanEntry) (text : List ℕ) (p : Plan) → plan_at entries text ≡ Ok p → IsTextOf entries p text

-- a text in UTF-8 that is one line, before any further text
pub record IsLine (l : List ℕ) : Type 0 where
  pub one : (rest : List ℕ) → lines_of (l ++ 10 ∷ rest) ≡ (l ∷ (lines_of rest).0, (lines_of rest).1)
  pub utf8 : IsUtf8 l

-- each text of a plan is read as the plan, where each of its filters and ONs is one line
abbrev pub TextsAreRead : Type 0
TextsAreRead = (entries : List PlanEntry) (p : Plan) (text : List ℕ) → IsSound entries p → (is : IsTextOf entries p text) → AreAll IsLine is.filters → AreAll IsLine is.ons → plan_at entries text ≡ Ok p
