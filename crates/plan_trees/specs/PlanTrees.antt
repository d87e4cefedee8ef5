-- A plan as a tree: a node a line, its inputs below it and further right, as PostgreSQL's EXPLAIN writes its own.
use Rattle.std.specs.Prelude.{ℕ, Bool, true, false, not, ◌==◌, ◌&&◌, ◌||◌, zero, suc, if◌then◌else◌, List, [], ◌∷◌, ◌++◌, reverse, Option, Some, None, codes}
use Rattle.std.specs.Fmt.{decimal}
use Rattle.std.specs.Str.{bytes_eq}
use Rattle.value.specs.Names.{Name}
use Rattle.row_ast.specs.Ast.{ColumnRef, Expr}
use Rattle.expr.specs.declared.code.Access.{Access}
use Rattle.expr.specs.declared.code.Access.TheVariants.{Full, Index, Range}
use Rattle.expr.specs.declared.code.Method.{Method}
use Rattle.expr.specs.declared.code.Method.TheVariants.{Nested, Hash, Merge}
use Rattle.expr_texts.specs.ExprTexts.{expr_text}
use Rattle.plan_texts.specs.declared.plan.PlanStep.{PlanStep}
use Rattle.plan_texts.specs.declared.plan.SortColumn.{SortColumn}
use Rattle.plan_texts.specs.Columns.{all_columns}
use Rattle.plan_texts.specs.Plans.{PlanEntry, OnCondition, PlanCode, Empty, Steps, Plan}
use Rattle.plan_texts.specs.PlanTexts.{alias, column_name, item_at, or_nothing}

-- a plan, the entries of its query, and the names of their tables
pub record Source : Type 0 where
  pub entries : List PlanEntry
  pub tables : List Name
  pub plan : Plan

-- the scan of a step's entry, or its join to the steps before it, of which the last is first; and how many nodes are above it
pub record Node : Type 0 where
  pub is_scan : Bool
  pub step : PlanStep
  pub before : List PlanStep
  pub depth : ℕ

-- ---- conditions

-- the text of an expression, if there is one
abbrev pub text_if_found : Option Expr → List ℕ
text_if_found None = []
text_if_found (Some e) = expr_text e

-- the text of the filter of that number, from 1
abbrev pub filter_text : List Expr → ℕ → List ℕ
filter_text filters number = text_if_found (item_at filters number)

-- the text of the ON of an entry
abbrev pub on_text : List OnCondition → ℕ → List ℕ
on_text [] entry = []
on_text (o ∷ os) entry = if o.entry == entry then expr_text o.condition else on_text os entry

-- ---- the titles show these filters

-- the filter that an inner join hashes or merges on
abbrev pub method_shows : Method → ℕ → Bool
method_shows Nested number = false
method_shows (Hash conjunct) number = conjunct == number
method_shows (Merge conjunct) number = conjunct == number

-- the filter that bounds the part of an index
abbrev pub access_shows : Access → ℕ → Bool
access_shows Full number = false
access_shows (Index column) number = false
access_shows (Range column bound) number = bound == number

-- the titles of a step show the filter of that number; a left join shows its ON
abbrev pub is_shown : PlanStep → ℕ → Bool
is_shown s number = (not s.is_left && method_shows s.step.method number) || access_shows s.step.access number

-- ---- where a filter is tested

module _ (entries : List PlanEntry) where
  -- an entry of the steps has the alias
  abbrev pub has_alias : List PlanStep → Name → Bool
  has_alias [] name = false
  has_alias (s ∷ ss) name = bytes_eq name (alias entries s.step.entry) || has_alias ss name

  -- the alias before a column, if there is one, is of an entry of the steps
  abbrev pub is_of : List PlanStep → Option Name → Bool
  is_of steps None = true
  is_of steps (Some name) = has_alias steps name

  -- each entry that the expression names is of the steps
  abbrev pub names_only : List PlanStep → Expr → Bool
  names_only steps e = all_columns (λ (c : ColumnRef). is_of steps c.table) e

  -- a filter of which each entry is of these steps is tested at the last of them, or before it
  abbrev pub is_tested_by : List PlanStep → Expr → Bool
  is_tested_by [] e = false
  is_tested_by (s ∷ before) e = names_only (s ∷ before) e

  -- what is tested at a step is tested by its scan: at the first step, or where it is no left join and the filter names its own entry alone
  abbrev pub is_of_scan : PlanStep → List PlanStep → Expr → Bool
  is_of_scan s [] e = true
  is_of_scan s (b ∷ before) e = not s.is_left && names_only (s ∷ []) e

  -- the step is the first after which each entry of the filter was joined
  abbrev pub is_tested_first : Node → Expr → Bool
  is_tested_first n e = names_only (n.step ∷ n.before) e && not (is_tested_by n.before e)

  -- what is tested at the step is tested at the node
  abbrev pub is_of_node : Node → Expr → Bool
  is_of_node n e = if n.is_scan then is_of_scan n.step n.before e else not (is_of_scan n.step n.before e)

  -- the filter of that number is tested at the node, and the titles of its step do not show it
  abbrev pub is_detail : Node → ℕ → Expr → Bool
  is_detail n number e = (is_tested_first n e && is_of_node n e) && not (is_shown n.step number)

-- ---- titles

-- the name of a table, and its alias where that is another
abbrev pub relation_text : (table name : Name) → List ℕ
relation_text table name = if bytes_eq name table then table else table ++ codes " " ++ name

-- the method of a left join
abbrev pub left_title : Method → List ℕ
left_title Nested = codes "Nested Loop Left Join"
left_title (Hash conjunct) = codes "Hash Left Join"
left_title (Merge conjunct) = codes "Merge Left Join"

-- the method of an inner join and its filter
abbrev pub inner_title : List Expr → Method → List ℕ
inner_title filters Nested = codes "Nested Loop"
inner_title filters (Hash conjunct) = codes "Hash Join  " ++ filter_text filters conjunct
inner_title filters (Merge conjunct) = codes "Merge Join  " ++ filter_text filters conjunct

-- the join of a step
abbrev pub join_title : Plan → PlanStep → List ℕ
join_title p s = if s.is_left then left_title s.step.method ++ codes "  " ++ on_text p.ons s.step.entry else inner_title p.filters s.step.method

-- ---- nodes

-- six spaces for each node above
abbrev pub indentation : ℕ → List ℕ
indentation zero = []
indentation (suc depth) = codes "      " ++ indentation depth

-- the text before a title
abbrev pub node_start : ℕ → List ℕ
node_start zero = []
node_start (suc above) = indentation above ++ codes "  ->  "

-- the text after a title: at the root its cost
abbrev pub node_end : (cost : ℕ) → ℕ → List ℕ
node_end cost zero = codes "  (cost=" ++ decimal cost ++ codes ")\n"
node_end cost (suc above) = codes "\n"

-- the word before a filter
abbrev pub filter_word : Node → List ℕ
filter_word n = if n.is_scan || n.step.is_left then codes "Filter: " else codes "Join Filter: "

-- the line of a filter
abbrev pub detail_text : Node → Expr → List ℕ
detail_text n e = indentation n.depth ++ codes "  " ++ filter_word n ++ expr_text e ++ codes "\n"

-- the lines of the filters that are tested at a node, of filters numbered from a number on
abbrev pub details : List PlanEntry → Node → ℕ → List Expr → List ℕ
details entries n number [] = []
details entries n number (e ∷ es) = (if is_detail entries n number e then detail_text n e else []) ++ details entries n (suc number) es

module _ (q : Source) where
  -- the table of an entry, by its name and alias
  abbrev pub relation : ℕ → List ℕ
  relation entry = relation_text (or_nothing (item_at q.tables entry)) (alias q.entries entry)

  -- a column of an entry, in parentheses
  abbrev pub column_text : ℕ → ℕ → List ℕ
  column_text entry column = codes "(" ++ alias q.entries entry ++ codes "." ++ column_name q.entries entry column ++ codes ")"

  -- the scan of an entry
  abbrev pub scan_title : ℕ → Access → List ℕ
  scan_title entry Full = codes "Seq Scan on " ++ relation entry
  scan_title entry (Index column) = codes "Index Scan on " ++ relation entry ++ codes "  " ++ column_text entry column
  scan_title entry (Range column bound) = codes "Index Scan on " ++ relation entry ++ codes "  " ++ filter_text q.plan.filters bound

  abbrev pub title : Node → List ℕ
  title n = if n.is_scan then scan_title n.step.step.entry n.step.step.access else join_title q.plan n.step

  -- a node with its filters
  abbrev pub node_text : Node → List ℕ
  node_text n = node_start n.depth ++ title n ++ node_end q.plan.cost n.depth ++ details q.entries n 1 q.plan.filters

  -- ---- the tree

  -- The tree of steps, of which the last is first: its join above the tree of the steps before it and the scan of its own
  -- entry. Of one step it is the scan.
  abbrev pub steps_text : (depth : ℕ) → List PlanStep → List ℕ
  steps_text depth [] = []
  steps_text depth (s ∷ []) = node_text (record { is_scan = true; step = s; before = []; depth = depth })
  steps_text depth (s ∷ (b ∷ before)) =
      node_text (record { is_scan = false; step = s; before = b ∷ before; depth = depth })
      ++ steps_text (suc depth) (b ∷ before)
      ++ node_text (record { is_scan = true; step = s; before = b ∷ before; depth = suc depth })

  -- the tree of a code
  abbrev pub code_text : (depth : ℕ) → PlanCode → List ℕ
  code_text depth Empty = node_start depth ++ codes "Result" ++ node_end q.plan.cost depth ++ indentation depth ++ codes "  One-Time Filter: false\n"
  code_text depth (Steps steps) = steps_text depth (reverse steps)

  -- the tree of a plan: a last sort above that of its code
  abbrev pub sorted_text : Option SortColumn → List ℕ
  sorted_text None = code_text 0 q.plan.code
  sorted_text (Some c) = codes "Sort  " ++ column_text c.entry c.column ++ node_end q.plan.cost 0 ++ code_text 1 q.plan.code

-- the tree of a plan, by the entries of its query and the names of their tables
abbrev pub tree_text : List PlanEntry → (tables : List Name) → Plan → List ℕ
tree_text entries tables p = sorted_text (record { entries = entries; tables = tables; plan = p }) p.sort
