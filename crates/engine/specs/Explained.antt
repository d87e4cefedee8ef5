-- The plan of a role's query, and its text.
use Rattle.std.specs.Prelude.{◌≡◌, ◌<◌, ℕ, List, [], ◌++◌, map, Option, Some, None, option_map, Result, Ok, Err}
use Rattle.value.specs.Names.{Name}
use Rattle.expr.specs.Codes.{Code}
use Rattle.expr.specs.declared.bound.ColumnId.{ColumnId}
use Rattle.scope.specs.Entry.{Entry}
use Rattle.catalog.specs.Catalog.{Catalog}
use Rattle.stats.specs.Statistics.{Stats}
use Rattle.algebra.specs.PlanningList.{planning_list, remaining_lefts}
use Rattle.algebra.specs.Steps.{Step}
use Rattle.planning.specs.Placing.{placing}
use Rattle.planning.specs.Listing.{simplifying}
use Rattle.planning.specs.LeastCode.{Problem, estimates}
use Rattle.planning.specs.Cost.{cost}
use Rattle.planning.specs.Best.{best}
use Rattle.planning.specs.LastSort.{last_sort}
use Rattle.planning.specs.Wanted.{wanted_column}
use Rattle.plan_texts.specs.declared.plan.SortColumn.{SortColumn}
use Rattle.plan_texts.specs.Plans.{Plan}
use Rattle.plan_texts.specs.PlanTexts.{plan_text}
use Rattle.bound_plans.specs.Entries.{plan_entries}
use Rattle.bound_plans.specs.LeftJoins.{inner_count, marked_code, named_ons}
use Rattle.bound_plans.specs.Named.{named}
use Rattle.resolve.specs.Resolved.{Bound}
use Rattle.replies.specs.Reply.{Reply, reply_status}
use Rattle.replies.specs.ReplyText.{reply_text}
use Rattle.store.specs.Database.{Rows}
use Rattle.store.specs.Derived.{column_number}
use Rattle.analysis.specs.Analysis.{admitted}
use Rattle.engine.specs.SeenStatistics.{seen_statistics}
use Rattle.engine.specs.Settings.{setting}

-- ---- the plan

-- what the codes of a query's plans are made from, and what they are weighed by
abbrev pub problem : Catalog → Name → Bound → List Stats → Problem
problem cat role b statistics = record { setting = setting cat role b; statistics = statistics; wanted = wanted_column b.query }

-- the steps by which the checker accepts a code
abbrev pub trail : Catalog → Name → Bound → Code → List Step
trail cat role b code = simplifying b.query ++ placing (setting cat role b) code

-- a column by its numbers, from 1
abbrev pub sort_column : ColumnId → SortColumn
sort_column id = record { entry = column_number id.entry; column = column_number id.column }

-- the plan with that code
abbrev pub text_plan : Catalog → Name → Bound → List Stats → Code → Plan
text_plan cat role b statistics code = record {
  cost = cost (estimates (problem cat role b statistics)) code;
  filters = map (named b.entries) (planning_list b.query);
  ons = named_ons b.entries (remaining_lefts b.query);
  code = marked_code (inner_count b.entries (remaining_lefts b.query)) code;
  sort = option_map sort_column (last_sort (problem cat role b statistics) code);
  trail = trail cat role b code;
}

-- the plan with the best code
abbrev pub best_plan : Catalog → Name → Bound → List Stats → Option Plan
best_plan cat role b statistics = option_map (text_plan cat role b statistics) (best (problem cat role b statistics))

-- its text; there is always a best code
abbrev pub text_if_found : List Entry → Option Plan → List ℕ
text_if_found entries None = []
text_if_found entries (Some p) = plan_text (plan_entries entries) p

abbrev pub best_text : Catalog → Name → Bound → List Stats → List ℕ
best_text cat role b statistics = text_if_found b.entries (best_plan cat role b statistics)

-- ---- what explains a text

abbrev pub explained_query : Catalog → Rows → Name → Result Bound Reply → Result (List ℕ) Reply
explained_query cat rows role (Err refusal) = Err refusal
explained_query cat rows role (Ok b) = Ok (best_text cat role b (seen_statistics cat rows role b))

-- the text of the best plan of a role's text, by the statistics of the rows that it sees; or its refusal or denial
abbrev pub explained : Catalog → Rows → Name → (text : List ℕ) → Result (List ℕ) Reply
explained cat rows role text = explained_query cat rows role (admitted cat role text)

abbrev pub explained_text : Result (List ℕ) Reply → List ℕ
explained_text (Ok text) = text
explained_text (Err refusal) = reply_text refusal

abbrev pub explained_status : Result (List ℕ) Reply → ℕ
explained_status (Ok text) = 0
explained_status (Err refusal) = reply_status refusal

-- these bytes and this status are what explains a text
abbrev pub IsExplanation : (text : List ℕ) → (status : ℕ) → Result (List ℕ) Reply → Type 0
IsExplanation text status due = (text ≡ explained_text due) × (status ≡ explained_status due) × (status < 8)
