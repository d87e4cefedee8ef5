-- The plan that explains a text is accepted by its audit.
use Rattle.std.proofs.Common.{◌≡◌, ◌<◌, ◌≤◌, ◌+◌, ◌^◌, ℕ, zero, suc, Bool, true, false, not, cond, if◌then◌else◌, List, [], ◌∷◌, map, filter, length, option_map, Some, Result, Ok, Err, slice_index_or, refl, ap, subst, ◌∙◌, arith}
use Rattle.std.specs.List.{All, AllByRecursion, IsDistinct, sum_by}
use Rattle.std.proofs.lemmas.List.Filters.{length-filter_both}
use Rattle.std.proofs.lemmas.List.Sums.{sum_by-cons}
use Rattle.value.specs.Limits.{most_conjuncts}
use Rattle.std.specs.Str.{IsUtf8, bytes_eq}
use Rattle.std.proofs.lemmas.List.{length-map}
use Rattle.std.proofs.lemmas.List.Elements.{recursion_from_All}
use Rattle.std.proofs.lemmas.Option.{slice_get_within}
use Rattle.value.specs.Names.{Name}
use Rattle.value.specs.Restricted.{restricted}
use Rattle.expr.specs.Bound.{BoundExpr, Column, Literal, CurrentUser, Negate, Arithmetic, Comparison, Between, In, IsNull, Not, And, Or, Cast, Case, CountStar, Call, BoundExprs, no_expr, one_expr}
use Rattle.expr.specs.BoundQuery.{BoundQuery}
use Rattle.expr.specs.Codes.{Code}
use Rattle.expr.specs.Columns.{columns}
use Rattle.expr.specs.Conjuncts.{conjuncts_of, left_ons, members, movable_conjuncts}
use Rattle.expr.specs.Movable.{movable}
use Rattle.predicates.specs.Offsets.{without_offset, without_offsets}
use Rattle.predicates.specs.Rebuilt.{all_rebuilt}
use Rattle.expr.specs.NamedColumns.{named_columns}
use Rattle.expr.specs.declared.bound.ColumnId.{ColumnId}
use Rattle.scope.specs.Entry.{Entry}
use Rattle.catalog.specs.Catalog.{Catalog}
use Rattle.catalog_laws.specs.WellFormed.{IsWellFormed}
use Rattle.access.specs.Access.{sees, visible}
use Rattle.access.specs.Guards.{guard}
use Rattle.stats.specs.Statistics.{Stats, Unknown, row_count}
use Rattle.algebra.specs.PlanningList.{planning_list, remaining_lefts}
use Rattle.algebra.proofs.Remaining.{remaining_each}
use Rattle.row_terms.specs.Written.{left_conditions, written}
use Rattle.trailcheck.specs.Admissible.{is_admissible}
use Rattle.trailcheck.specs.Settings.{Setting}
use Rattle.trailcheck.specs.Verdicts.{verdict}
use Rattle.trailcheck.specs.declared.verdict.Reason.TheVariants as reason
use Rattle.trailcheck.specs.declared.verdict.Verdict.TheVariants.{Accepted, Refused}
use Rattle.rewrite.specs.Laws.{PlansAreAccepted}
use Rattle.rewrite.proofs.Accepting.{lefts_among}
use Rattle.planning.specs.Best.{BestIsThere, best}
use Rattle.expr_texts.specs.Filters.{IsName}
use Rattle.plan_texts.specs.Plans.{Plan}
use Rattle.plan_texts.specs.PlanTexts.{plan_text}
use Rattle.plan_texts.specs.Reading.{IsFilter, IsPlan, PlansReadBack, plan_at, plan_without_offsets}
use Rattle.bound_plans.specs.Entries.{plan_entries}
use Rattle.bound_plans.specs.Found.{ColumnsAreFound, IsColumn, NamesBindBack, Unmistakable}
use Rattle.bound_plans.specs.LeftJoins.{MarksAreRight, inner_count, plain_code}
use Rattle.bound_plans.specs.Named.{named}
use Rattle.syntax.specs.Tables.{HaveTables}
use Rattle.resolve.specs.EntryTables.{AreTables}
use Rattle.resolve.specs.Resolved.{Bound}
use Rattle.replies.specs.Reply.{Reply}
use Rattle.report.specs.Restricted.{columns_at}
use Rattle.store.specs.Database.{Rows}
use Rattle.store.specs.Derived.{column_number}
use Rattle.analysis.specs.Analysis.{admitted}
use Rattle.query_laws.specs.Admitted.{IsGranted, NamedAreGranted}
use Rattle.engine.specs.Audits.{Judged, admitted_audit, audit_of, judged}
use Rattle.engine.specs.Answer.{seen}
use Rattle.engine.specs.Explained.{best_text, explained_query, text_plan, problem, text_if_found, trail}
use Rattle.engine.specs.SeenStatistics.{entry_statistics, planned_columns, seen_statistics}
use Rattle.engine.specs.Settings.{setting}
use Rattle.engine.proofs.OfText as of_text
use Rattle.engine.proofs.FewConjuncts.{member_count}
use Rattle.engine.proofs.OfText.{setting_of_query, text_conjuncts, text_entries, text_few, text_lefts, text_members, text_tables}
use Rattle.plan_laws.specs.Names.{AreNames}
use Rattle.audit_laws.specs.ExplainedPlans.{ExplainedAreAccepted, ExplainedArePlans, HaveFewRows}
use Rattle.audit_laws.proofs.EntryNames.{admitted_aliases_differ, column_named, columns_few, entry_named, index_named, small_number, unmistakable}
use Rattle.plan_laws.proofs.SoundPlans.{Facts, filters_each, is_right, ons_each, plan_is, trail_accepted}

-- ---- the plan that explains a text

-- there are more entries than left joined ones
left_joined_few : HaveTables → (cat : Catalog) (role : Name) (text : List ℕ) (b : Bound) → admitted cat role text ≡ Ok b → length (setting cat role b).lefts < length (setting cat role b).frame
left_joined_few have cat role text b is = lefts_among b.query (setting cat role b) (setting_of_query cat role b (text_lefts cat role b (text, is) have))

-- so there is a best code
best_there : BestIsThere → HaveTables → (cat : Catalog) (role : Name) (text : List ℕ) (b : Bound) (counts : List Stats) → admitted cat role text ≡ Ok b
    → (code : Code) × (best (problem cat role b counts) ≡ Some code) × (is_admissible (setting cat role b) code ≡ true)
best_there there have cat role text b counts is = there (problem cat role b counts) (let l = left_joined_few have cat role text b is in omega (arith, l))

pub explained_are_plans : BestIsThere → HaveTables → ExplainedArePlans
explained_are_plans there have cat rows role text b is =
    let counts : List Stats = seen_statistics cat rows role b in
    let it = best_there there have cat role text b counts is in (
      text_plan cat role b counts it.0,
      ap (option_map (text_plan cat role b counts)) it.1,
      ap (explained_query cat rows role) is ∙ ap (λ o. let r : Result (List ℕ) Reply = Ok (text_if_found b.entries (option_map (text_plan cat role b counts) o)) in r) it.1,
    )

-- ---- the counts of rows

-- no more rows are seen than there are
rows_few : (cat : Catalog) (role : Name) (rows : Rows) → HaveFewRows rows → (q : BoundQuery) (n : ℕ) (es : List Entry) (i : ℕ) → row_count (slice_index_or (entry_statistics q n es (seen cat rows role es)) i Unknown) < 2 ^ 64
rows_few cat role rows few q n [] i = omega arith
rows_few cat role rows few q n (e ∷ es) zero =
    let all = rows e.table.name in
    let part = length-filter_both (sees cat role e.table) (λ row. not (sees cat role e.table row)) (λ row. refl) all in
    let same = length-map (visible cat role e.table all) (restricted (columns_at n (planned_columns q))) in
    omega (arith, part, same, few e.table.name)
rows_few cat role rows few q n (e ∷ es) (suc i) = rows_few cat role rows few q (n + 1) es i

-- ---- the columns that are named

granted_column : (cat : Catalog) (role : Name) (entries : List Entry) (id : ColumnId) → IsGranted cat role entries id → IsColumn entries id
granted_column cat role entries id h = record { entry = h.entry; there = h.entry_is; within = slice_get_within h.entry.table.columns id.column h.column h.column_is }

granted_columns : (cat : Catalog) (role : Name) (entries : List Entry) (ids : List ColumnId) → AllByRecursion (IsGranted cat role entries) ids → AllByRecursion (IsColumn entries) ids
granted_columns cat role entries [] h = tt
granted_columns cat role entries (id ∷ ids) h = (granted_column cat role entries id h.0, granted_columns cat role entries ids h.1)

-- ---- the members of the ONs of left joined entries

-- as many without offsets
same_members : (e : BoundExpr) → length (conjuncts_of (without_offsets e)) ≡ length (conjuncts_of e)
same_members (And offset es) = go es
  where
    go : (es : BoundExprs) → length (members (all_rebuilt without_offset es)) ≡ length (members es)
    go no_expr = refl
    go (one_expr e es) = ap suc (go es)
same_members (Column id) = refl
same_members (Literal d) = refl
same_members CurrentUser = refl
same_members (Negate offset e) = refl
same_members (Arithmetic op offset e f) = refl
same_members (Comparison op offset e f) = refl
same_members (Between negated offset e low high) = refl
same_members (In negated offset values e) = refl
same_members (IsNull negated offset e) = refl
same_members (Not offset e) = refl
same_members (Or offset es) = refl
same_members (Cast offset to e) = refl
same_members (Case offset as_ o) = refl
same_members (CountStar offset) = refl
same_members (Call f offset e) = refl

-- each has no more than all
abbrev AreFew : List BoundExpr → Type 0
AreFew ons = AllByRecursion (λ on. length (conjuncts_of on) ≤ most_conjuncts) ons

movable_members : (ons : List BoundExpr) → sum_by member_count ons ≤ most_conjuncts → AreFew (filter movable ons)
movable_members [] h = tt
movable_members (on ∷ ons) h = go (movable on) (movable_members ons (omega (arith, h, all)))
  where
    all : sum_by member_count (on ∷ ons) ≡ member_count on + sum_by member_count ons
    all = sum_by-cons member_count on ons

    go : (b : Bool) → AreFew (filter movable ons) → AreFew (cond b (on ∷ filter movable ons) (filter movable ons))
    go true rest = (omega (arith, h, all), rest)
    go false rest = rest

few_each : (ons : List BoundExpr) → AreFew ons → AllByRecursion (λ on. length (conjuncts_of on) < 2 ^ 64) (map without_offsets ons)
few_each [] h = tt
few_each (on ∷ ons) h = (let few = h.0 in let same = same_members on in omega (arith, few, same), few_each ons h.1)

-- ---- the laws below

pub record Laws : Type 0 where
  pub back : PlansReadBack
  pub bind : NamesBindBack
  pub found : ColumnsAreFound
  pub marks : MarksAreRight
  pub accept : PlansAreAccepted
  pub there : BestIsThere
  pub tables : HaveTables
  pub small : of_text.AreSmall
  pub granted : NamedAreGranted

-- a condition that has a text is a filter with a text, where its columns are found
abbrev pub SaidAreFilters : (List Entry → BoundExpr → Type 0) → Type 0
SaidAreFilters IsSaid = (entries : List Entry) → Unmistakable entries → (e : BoundExpr) → All (IsColumn entries) (columns e) → IsSaid entries e → IsFilter (plan_entries entries) (named entries e)

module _ (laws : Laws) where
  module _ (cat : Catalog) (role : Name) (b : Bound) (text : List ℕ) (is : admitted cat role text ≡ Ok b) (fit : IsWellFormed cat) (names : AreNames cat) (alias_names : All (λ (e : Entry). IsName e.alias) b.entries) where
    abbrev at : Setting
    at = setting cat role b

    tables : AreTables cat b.entries
    tables = text_tables cat role b (text, is)

    differ : IsDistinct bytes_eq (map (λ (e : Entry). e.alias) b.entries)
    differ = admitted_aliases_differ cat role text b is

    facts : Facts b.entries b.query at
    facts = record {
      of_query = setting_of_query cat role b (text_lefts cat role b (text, is) laws.tables);
      few_members =
          remaining_each (λ on. length (conjuncts_of on) < 2 ^ 64) b.query (few_each (filter movable (left_ons b.query)) (movable_members (left_ons b.query) (text_members cat role b (text, is) laws.small)));
      each = length-map b.entries (λ e. guard cat role e.table);
      some = text_entries cat role b (text, is) laws.tables;
      few = text_few cat role b (text, is) laws.small;
      few_conjuncts = text_conjuncts cat role b (text, is) laws.small;
      named = entry_named cat fit names b.entries tables differ alias_names;
      columns = column_named cat fit names b.entries tables differ alias_names;
      few_columns = columns_few cat fit names b.entries tables differ alias_names;
      indexed = index_named cat fit names b.entries tables differ alias_names;
      differ = unmistakable cat fit names b.entries tables differ alias_names;
      query = granted_columns cat role b.entries (named_columns b.query) (recursion_from_All (IsGranted cat role b.entries) (named_columns b.query) (laws.granted cat role text b is));
    }

    module _ (IsSaid : List Entry → BoundExpr → Type 0) (said_filter : SaidAreFilters IsSaid) (said : All (IsSaid b.entries) (planning_list b.query)) (said_lefts : All (IsSaid b.entries) (left_conditions b.query)) (rows : Rows) (few : HaveFewRows rows) where
      abbrev counts : List Stats
      counts = seen_statistics cat rows role b

      module _ (code : Code) (admissible : is_admissible at code ≡ true) where
        abbrev plan : Plan
        plan = text_plan cat role b counts code

        whole : IsPlan (plan_entries b.entries) plan
        whole =
            plan_is b.entries b.query at facts column_number small_number counts (rows_few cat role rows few b.query 0 b.entries) code admissible
            (filters_each b.entries b.query at facts (IsSaid b.entries) (said_filter b.entries facts.differ) (recursion_from_All (IsSaid b.entries) (planning_list b.query) said))
            (ons_each b.entries b.query at facts (IsSaid b.entries) (said_filter b.entries facts.differ) (remaining_each (IsSaid b.entries) b.query (recursion_from_All (IsSaid b.entries) (left_conditions b.query) said_lefts)))

        judged_is : judged at (written (length b.entries) b.query) b.entries (plan_without_offsets plan) ≡ Accepted
        judged_is =
            ap (λ t. if t then verdict at (written (length b.entries) b.query) (trail cat role b code) (plain_code plan.code) else Refused record { line = 0; reason = reason.Code }) (is_right b.entries b.query at facts laws.bind laws.found laws.marks plan code refl refl refl)
            ∙ ap (verdict at (written (length b.entries) b.query) (trail cat role b code)) (laws.marks (inner_count b.entries (remaining_lefts b.query)) code).1
            ∙ trail_accepted b.entries b.query at facts laws.accept code admissible

        audited : audit_of cat role b (plan_at (plan_entries b.entries) (plan_text (plan_entries b.entries) plan)) ≡ Judged Accepted
        audited = ap (audit_of cat role b) (laws.back (plan_entries b.entries) plan whole) ∙ ap Judged judged_is

      -- the text of the best plan is accepted
      best_audited : audit_of cat role b (plan_at (plan_entries b.entries) (best_text cat role b counts)) ≡ Judged Accepted
      best_audited =
          let it = best_there laws.there laws.tables cat role text b counts is in
          ap (λ o. audit_of cat role b (plan_at (plan_entries b.entries) (text_if_found b.entries (option_map (text_plan cat role b counts) o)))) it.1 ∙ audited it.0 it.2

  -- ---- the law

  module _ (IsSaid : List Entry → BoundExpr → Type 0) where
    abbrev AdmittedAreSaid : Type 0
    AdmittedAreSaid = (cat : Catalog) (role : Name) (text : List ℕ) (b : Bound) → IsWellFormed cat → AreNames cat → IsUtf8 text → admitted cat role text ≡ Ok b → All (IsSaid b.entries) (movable_conjuncts b.query)

    abbrev PlanningListsAreSaid : Type 0
    PlanningListsAreSaid = (entries : List Entry) (q : BoundQuery) → All (IsSaid entries) (movable_conjuncts q) → All (IsSaid entries) (left_conditions q) → All (IsSaid entries) (planning_list q)

    abbrev AdmittedLeftsAreSaid : Type 0
    AdmittedLeftsAreSaid = (cat : Catalog) (role : Name) (text : List ℕ) (b : Bound) → IsWellFormed cat → AreNames cat → IsUtf8 text → admitted cat role text ≡ Ok b → All (IsSaid b.entries) (left_conditions b.query)

    abbrev AliasesAreNames : Type 0
    AliasesAreNames = (cat : Catalog) (role : Name) (text : List ℕ) (b : Bound) → IsWellFormed cat → AreNames cat → IsUtf8 text → admitted cat role text ≡ Ok b → All (λ (e : Entry). IsName e.alias) b.entries

    pub explained_accepted : SaidAreFilters IsSaid → AdmittedAreSaid → AdmittedLeftsAreSaid → PlanningListsAreSaid → AliasesAreNames → ExplainedAreAccepted
    explained_accepted said_filter admitted_said admitted_lefts_said planning_said admitted_aliases cat rows role text plan fit names few utf8 explains = go (admitted cat role text) refl explains
      where
        same_text : (s t : List ℕ) → ◌≡◌ {A = Result (List ℕ) Reply} (Ok s) (Ok t) → s ≡ t
        same_text s t e = cc

        go : (r : Result Bound Reply) → admitted cat role text ≡ r → explained_query cat rows role r ≡ Ok plan → admitted_audit cat role plan r ≡ Judged Accepted
        go (Err refusal) is e = absurd (cc)
        go (Ok b) is e =
            let text_is : best_text cat role b (seen_statistics cat rows role b) ≡ plan = same_text (best_text cat role b (seen_statistics cat rows role b)) plan e in
            subst (λ p. audit_of cat role b (plan_at (plan_entries b.entries) p) ≡ Judged Accepted) text_is
            (best_audited cat role b text is fit names (admitted_aliases cat role text b fit names utf8 is) IsSaid said_filter (planning_said b.entries b.query (admitted_said cat role text b fit names utf8 is) (admitted_lefts_said cat role text b fit names utf8 is)) (admitted_lefts_said cat role text b fit names utf8 is) rows few)
