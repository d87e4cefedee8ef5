-- What explains a text: it depends on the rows that the role sees alone, and is the text of the best plan.
use Rattle.std.proofs.Common.{◌≡◌, ◌∙◌, ℕ, List, ◌++◌, map, Option, Some, option_map, Result, Ok, Err, refl, sym, subst, ap, ap₂}
use Rattle.value.specs.Names.{Name}
use Rattle.expr.specs.Bound.{BoundExpr}
use Rattle.expr.specs.BoundQuery.{BoundQuery}
use Rattle.expr.specs.Codes.{Code}
use Rattle.scope.specs.Entry.{Entry}
use Rattle.catalog.specs.Catalog.{Catalog}
use Rattle.stats.specs.Statistics.{Stats}
use Rattle.algebra.specs.PlanningList.{planning_list, remaining_lefts}
use Rattle.algebra.specs.Steps.{Step}
use Rattle.planning.specs.Placing.{placing}
use Rattle.planning.specs.Listing.{simplifying}
use Rattle.trailcheck.specs.Settings.{Setting}
use Rattle.planning.specs.LeastCode.{Problem, estimates}
use Rattle.planning.specs.Cost.{cost}
use Rattle.planning.specs.Best.{best}
use Rattle.planning.specs.LastSort.{last_sort}
use Rattle.planning.specs.Plans as planning
use Rattle.planning.specs.Plans.{IsPlan}
use Rattle.planning.specs.Wanted.{wanted_column}
use Rattle.plan_texts.specs.declared.plan.SortColumn.{SortColumn}
use Rattle.plan_texts.specs.Plans.{Plan, PlanEntry}
use Rattle.plan_texts.specs.PlanTexts.{plan_text}
use Rattle.bound_plans.specs.Entries.{plan_entries}
use Rattle.bound_plans.specs.LeftJoins.{inner_count, marked_code, named_ons}
use Rattle.bound_plans.specs.Named.{named}
use Rattle.resolve.specs.Resolved.{Bound}
use Rattle.replies.specs.Reply.{Reply, no_memory}
use Rattle.replies.specs.ReplyText.{reply_text}
use Rattle.replies.proofs.Statuses.{only_no_memory}
use Rattle.analysis.specs.Analysis.{admitted}
use Rattle.report.specs.Restricted as tables
use Rattle.store.specs.Database.{Rows}
use Rattle.engine.specs.Answer.{seen}
use Rattle.engine.specs.Explained.{best_text, explained, explained_query, explained_status, explained_text, text_plan, problem, sort_column, text_if_found}
use Rattle.engine.specs.Hidden.{SeesSame}
use Rattle.engine.specs.Settings.{setting}
use Rattle.engine.proofs.SeenStatistics.{same_statistics}

-- ---- rows that the role does not see, and columns that the text does not name

same_query : (cat : Catalog) (role : Name) (one other : Rows) (r : Result Bound Reply) → ((b : Bound) → r ≡ Ok b → tables.SeesSame b.query (seen cat one role b.entries) (seen cat other role b.entries))
    → explained_query cat one role r ≡ explained_query cat other role r
same_query cat role one other (Err refusal) same = refl
same_query cat role one other (Ok b) same = ap (λ ss. Ok (best_text cat role b ss)) (same_statistics b.query b.entries (seen cat one role b.entries) (seen cat other role b.entries) (same b refl))

pub same_explained : (cat : Catalog) (role : Name) (text : List ℕ) (one other : Rows) → SeesSame cat role text one other → explained cat one role text ≡ explained cat other role text
same_explained cat role text one other same = same_query cat role one other (admitted cat role text) same

-- ---- the text of the best plan

-- a plan with these conditions, and these ONs of the left joined entries
abbrev pub named_with : List Entry → (conditions lefts : List BoundExpr) → Code → (cost : ℕ) → Option SortColumn → List Step → Plan
named_with entries conditions lefts code cost sort steps = record {
  cost = cost;
  filters = map (named entries) conditions;
  ons = named_ons entries lefts;
  code = marked_code (inner_count entries lefts) code;
  sort = sort;
  trail = steps;
}

module _ (cat : Catalog) (role : Name) (b : Bound) (stats : List Stats) (p : planning.Plan) (is : IsPlan p) (query : p.query ≡ b.query) (from : p.problem ≡ problem cat role b stats) where
  abbrev named_plan : (cost : ℕ) → Option SortColumn → List Step → Plan
  named_plan cost sort steps = named_with b.entries (planning_list b.query) (remaining_lefts b.query) p.code cost sort steps

  is_text_plan : named_plan p.cost (option_map sort_column (last_sort p.problem p.code)) p.trail ≡ text_plan cat role b stats p.code
  is_text_plan =
      let c = is.cost ∙ ap (λ x. cost (estimates x) p.code) from in
      let s = ap (λ x. option_map sort_column (last_sort x p.code)) from in
      let t = is.steps ∙ ap₂ (λ q x. simplifying q ++ placing x.setting p.code) query from in
      ap₂ (λ c s. named_plan c s p.trail) c s ∙ ap (named_plan (cost (estimates (problem cat role b stats)) p.code) (option_map sort_column (last_sort (problem cat role b stats) p.code))) t

  -- the text of a plan of the problem is that of the best one
  pub is_best_text : plan_text (plan_entries b.entries) (named_plan p.cost (option_map sort_column (last_sort p.problem p.code)) p.trail) ≡ best_text cat role b stats
  is_best_text =
      let found = subst (λ x. best x ≡ Some p.code) from is.best in
      ap (plan_text (plan_entries b.entries)) is_text_plan ∙ sym (ap (λ o. text_if_found b.entries (option_map (text_plan cat role b stats) o)) found)

  -- the same of entries, conditions and names that are those of the query
  pub written_best : (entries : List Entry) (conditions lefts : List BoundExpr) (names : List PlanEntry) (q : Plan) → entries ≡ b.entries → conditions ≡ planning_list b.query → lefts ≡ remaining_lefts b.query → names ≡ plan_entries b.entries
      → q ≡ named_with entries conditions lefts p.code p.cost (option_map sort_column (last_sort p.problem p.code)) p.trail → plan_text names q ≡ best_text cat role b stats
  written_best entries conditions lefts names q of_entries of_conditions of_lefts of_names is_q =
      ap₂ plan_text of_names
      (is_q ∙ ap₂ (λ es cs. named_with es cs lefts p.code p.cost (option_map sort_column (last_sort p.problem p.code)) p.trail) of_entries of_conditions
      ∙ ap (λ ls. named_with b.entries (planning_list b.query) ls p.code p.cost (option_map sort_column (last_sort p.problem p.code)) p.trail) of_lefts)
      ∙ is_best_text

-- what a plan is made from
pub problem_is : (cat : Catalog) (role : Name) (b : Bound) (stats : List Stats) (at : Setting) (ss : List Stats) (q : BoundQuery) (x : Problem) → x ≡ record { setting = at; statistics = ss; wanted = wanted_column q }
    → at ≡ setting cat role b → ss ≡ stats → q ≡ b.query → x ≡ problem cat role b stats
problem_is cat role b stats at ss q x is of_setting of_statistics of_query =
    is ∙ ap₂ (λ at ss. let y : Problem = record { setting = at; statistics = ss; wanted = wanted_column q } in y) of_setting of_statistics
    ∙ ap (λ q. let y : Problem = record { setting = setting cat role b; statistics = stats; wanted = wanted_column q } in y) of_query

-- ---- where memory runs out

-- the one text with that status is that of the reply
pub only_memory : (due : Result (List ℕ) Reply) → explained_status due ≡ 7 → explained_text due ≡ reply_text no_memory
only_memory (Ok text) e = absurd (cc)
only_memory (Err refusal) e = ap reply_text (only_no_memory refusal e)
