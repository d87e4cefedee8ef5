-- The tree of the plan by which a role's query is answered.
use Rattle.std.specs.Prelude.{ℕ, List, [], map, Result, Ok, Err}
use Rattle.value.specs.Names.{Name}
use Rattle.scope.specs.Entry.{Entry}
use Rattle.plan_texts.specs.Plans.{Plan}
use Rattle.plan_texts.specs.Reading.{plan_at}
use Rattle.plan_trees.specs.PlanTrees.{tree_text}
use Rattle.bound_plans.specs.Entries.{plan_entries}
use Rattle.resolve.specs.Resolved.{Bound}
use Rattle.replies.specs.Reply.{Reply}
use Rattle.engine.specs.Analysis.{admitted}
use Rattle.engine.specs.Catalog.{Catalog}
use Rattle.engine.specs.Database.{Rows}
use Rattle.engine.specs.Explained.{explained}

-- the names of the tables of entries
abbrev pub table_names : List Entry → List Name
table_names entries = map (λ e. e.table.name) entries

-- the tree of a plan, if there is one
abbrev pub tree_if_read : List Entry → Result Plan ℕ → List ℕ
tree_if_read entries (Ok p) = tree_text (plan_entries entries) (table_names entries) p
tree_if_read entries (Err line) = []

-- the tree of the plan of a text, for a query over the entries
abbrev pub tree_of : List Entry → (text : List ℕ) → List ℕ
tree_of entries text = tree_if_read entries (plan_at (plan_entries entries) text)

-- what explains a text, of which this is the bound query or the refusal, with the tree in place of the plan's text
abbrev pub with_tree : Result Bound Reply → Result (List ℕ) Reply → Result (List ℕ) Reply
with_tree (Ok b) (Ok text) = Ok (tree_of b.entries text)
with_tree _ due = due

-- the tree of the plan of a role's text, or its refusal or denial
abbrev pub explained_tree : Catalog → Rows → Name → (text : List ℕ) → Result (List ℕ) Reply
explained_tree cat rows role text = with_tree (admitted cat role text) (explained cat rows role text)

-- the bytes that explain a text, with the tree in place of the plan's text
abbrev pub tree_or_same : Result Bound Reply → List ℕ → List ℕ
tree_or_same (Ok b) text = tree_of b.entries text
tree_or_same (Err refusal) text = text
