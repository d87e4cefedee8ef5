-- The plan with an admissible code has a text, its filters are the planning list, and the checker accepts its trail.
use Rattle.std.proofs.Common.{◌≡◌, ◌<◌, ◌≤◌, ◌^◌, ℕ, suc, ◌+◌, ◌-◌, true, ◌&&◌, List, [], ◌∷◌, ◌++◌, map, filter, length, Option, Some, None, option_map, refl, sym, ap, ap₂, subst, ◌∙◌, arith}
use Rattle.std.specs.List.{All, AllByRecursion, slice_get}
use Rattle.std.proofs.lemmas.List.{length-map}
use Rattle.std.proofs.lemmas.List.Elements.{All-from_recursion}
use Rattle.std.proofs.lemmas.Option.{slice_get_within}
use Rattle.bags.proofs.Members.{Each}
use Rattle.value.specs.Limits.{most_conjuncts, most_entries}
use Rattle.expr.specs.Bound.{BoundExpr}
use Rattle.expr.specs.BoundQuery.{BoundQuery}
use Rattle.expr.specs.Codes.{Code}
use Rattle.expr.specs.Columns.{columns}
use Rattle.expr.specs.Conjuncts.{conjuncts_of, left_ons, movable_conjuncts}
use Rattle.expr.specs.Movable.{movable}
use Rattle.expr.specs.NamedColumns.{named_columns}
use Rattle.expr.specs.declared.bound.ColumnId.{ColumnId}
use Rattle.plan_laws.proofs.EachColumn.{of_conjuncts, of_lefts}
use Rattle.plan_laws.proofs.Bare.{IsBare, columns_bare}
use Rattle.scope.specs.Entry.{Entry}
use Rattle.stats.specs.Card.{rows_at}
use Rattle.stats.specs.Statistics.{Stats}
use Rattle.algebra.proofs.Remaining.{remaining_each}
use Rattle.algebra.specs.Steps.{Step}
use Rattle.plan_laws.proofs.PlannedEach.{planning_bare, written_bare}
use Rattle.row_terms.specs.Written.{left_conditions, written}
use Rattle.trailcheck.specs.Admissible.{is_admissible, is_indexed}
use Rattle.trailcheck.specs.Settings as settings
use Rattle.trailcheck.specs.Settings.{Setting}
use Rattle.trailcheck.specs.Verdicts.{verdict}
use Rattle.trailcheck.specs.declared.verdict.Verdict.TheVariants.{Accepted}
use Rattle.rewrite.specs.Laws.{IsSettingOf, PlansAreAccepted}
use Rattle.rewrite.specs.Placing.{placing}
use Rattle.rewrite.specs.Listing.{simplifying}
use Rattle.rewrite.proofs.Accepting.{lefts_among}
use Rattle.rewrite.proofs.SimplifiedLength.{planning_length}
use Rattle.rewrite.proofs.SmallSteps.{AreSmall, IsSmall, trail_small}
use Rattle.code_costs.specs.Best.{Problem, estimates}
use Rattle.code_costs.specs.Cost.{cost}
use Rattle.plan_laws.proofs.MostCosts.{cost_small}
use Rattle.planning.specs.LastSort.{last_sort}
use Rattle.planning.specs.Wanted.{wanted_column}
use Rattle.plan_laws.proofs.WantedNamed.{last_is_wanted, wanted_named}
use Rattle.expr_texts.specs.Trees.{without_offsets}
use Rattle.plan_texts.specs.declared.plan.SortColumn.{SortColumn}
use Rattle.plan_texts.specs.Plans.{Plan, PlanEntry}
use Rattle.plan_texts.specs.Reading.{AreAll, HasColumn, HasEntry, IsCode, IsFilter, IsPlan, IsSort, IsSound, IsStep, on_without_offsets, plan_without_offsets}
use Rattle.bound_plans.specs.Entries.{plan_entries}
use Rattle.bound_plans.specs.Filters.{are_filters}
use Rattle.bound_plans.specs.LeftJoins.{MarksAreRight, are_conditions, are_marked, are_ons, inner_count, is_of_query, marked_code, named_ons, named_ons_from}
use Rattle.bound_plans.specs.Found.{AreFound, ColumnsAreFound, IsColumn, NamesBindBack, Unmistakable}
use Rattle.bound_plans.specs.Named.{named}
use Rattle.bound_plans.proofs.Ons.{numbers_are}
use Rattle.plan_laws.proofs.OwnNames.{present}
use Rattle.plan_laws.proofs.ReadBack.{filter_is, filters_are}
use Rattle.plan_laws.proofs.SoundCode.{as_many_steps, code_sound}

-- ---- the trail

arguments_sound : (ns : List ℕ) → Each (λ a. a ≤ most_conjuncts) ns → AreAll (λ n. n < 2 ^ 64) ns
arguments_sound [] h = tt
arguments_sound (n ∷ ns) h = (let l = h.0 in omega (arith, l), arguments_sound ns h.1)

step_sound : (s : Step) → IsSmall s → IsStep s
step_sound s h = record { rule = let l = h.rule in omega (arith, l); arguments = arguments_sound s.arguments h.arguments; few = h.few }

steps_sound : (ss : List Step) → AreSmall ss → AreAll IsStep ss
steps_sound [] h = tt
steps_sound (s ∷ ss) h = (step_sound s h.0, steps_sound ss h.1)

-- ---- what the plans of a query are made from

pub record Facts (entries : List Entry) (q : BoundQuery) (at : Setting) : Type 0 where
  pub of_query : IsSettingOf q at
  pub few_members : AllByRecursion (λ on. length (conjuncts_of on) < 2 ^ 64) at.lefts
  pub each : length at.frame ≡ length entries
  pub some : 0 < length entries
  pub few : length entries ≤ most_entries
  pub few_conjuncts : length (movable_conjuncts q) ≤ most_conjuncts
  pub named : (i : ℕ) (e : Entry) → slice_get entries i ≡ Some e → HasEntry (plan_entries entries) (suc i)
  pub columns : (i : ℕ) (e : Entry) → slice_get entries i ≡ Some e → (j : ℕ) → j < length e.table.columns → HasColumn (plan_entries entries) (suc i) (suc j)
  pub few_columns : (i : ℕ) (e : Entry) → slice_get entries i ≡ Some e → length e.table.columns ≤ 64
  pub indexed : (i : ℕ) (e : Entry) → slice_get entries i ≡ Some e → (column : ℕ) → is_indexed at i column ≡ true → HasColumn (plan_entries entries) (suc i) column
  pub differ : Unmistakable entries
  pub query : AllByRecursion (IsColumn entries) (named_columns q)

module _ (entries : List Entry) (q : BoundQuery) (at : Setting) (facts : Facts entries q at) where
  abbrev pes : List PlanEntry
  pes = plan_entries entries

  few_entries : length at.frame ≤ most_entries
  few_entries = let n = facts.each in let f = facts.few in omega (arith, n, f)

  few_conditions : length at.conditions ≤ most_conjuncts
  few_conditions = subst (λ cs. length cs ≤ most_conjuncts) (sym facts.of_query.conditions) (planning_length q facts.few_conjuncts)

  among : length at.lefts < length at.frame
  among = lefts_among q at facts.of_query

  -- ---- the conditions

  written_lefts_bare : AllByRecursion (IsBare (IsColumn entries)) (left_conditions q)
  written_lefts_bare = written_bare (IsColumn entries) (filter movable (left_ons q)) (of_lefts (IsColumn entries) q facts.query)

  bare : AllByRecursion (IsBare (IsColumn entries)) at.conditions
  bare =
      subst (λ cs. AllByRecursion (IsBare (IsColumn entries)) cs) (sym facts.of_query.conditions)
      (planning_bare (IsColumn entries) q (of_conjuncts (IsColumn entries) q facts.query) written_lefts_bare)

  found_each : ColumnsAreFound → (cs : List BoundExpr) → AllByRecursion (IsBare (IsColumn entries)) cs → AllByRecursion (AreFound entries) cs
  found_each found [] h = tt
  found_each found (c ∷ cs) h = (found entries c facts.differ (All-from_recursion (IsColumn entries) (columns c) (columns_bare (IsColumn entries) c h.0)), found_each found cs h.1)

  lefts_bare : AllByRecursion (IsBare (IsColumn entries)) at.lefts
  lefts_bare = subst (λ cs. AllByRecursion (IsBare (IsColumn entries)) cs) (sym facts.of_query.lefts) (remaining_each (IsBare (IsColumn entries)) q written_lefts_bare)

  -- the entries before the left joined ones
  abbrev pub inner : ℕ
  inner = inner_count entries at.lefts

  as_many_inner : inner_count entries at.lefts ≡ settings.inner_count at
  as_many_inner = ap (λ n. n - length at.lefts) (sym facts.each)

  ons_right : NamesBindBack → ColumnsAreFound → are_ons entries (map on_without_offsets (named_ons entries at.lefts)) at.lefts ≡ true
  ons_right back found = ap₂ ◌&&◌ (numbers_are entries (suc inner) at.lefts) (conditions_are (suc inner) at.lefts (found_each found at.lefts lefts_bare) lefts_bare)
    where
      conditions_are : (number : ℕ) (cs : List BoundExpr) → AllByRecursion (AreFound entries) cs → AllByRecursion (IsBare (IsColumn entries)) cs → are_conditions entries (map on_without_offsets (named_ons_from entries number cs)) cs ≡ true
      conditions_are number [] h k = refl
      conditions_are number (c ∷ cs) h k = ap₂ ◌&&◌ (filter_is entries (IsColumn entries) back c h.0 k.0) (conditions_are (suc number) cs h.1 k.1)

  -- what is read of filters, ONs and words is that of the query
  pub is_right : NamesBindBack → ColumnsAreFound → MarksAreRight → (p : Plan) (code : Code) → p.filters ≡ map (named entries) at.conditions → p.ons ≡ named_ons entries at.lefts → p.code ≡ marked_code inner code → is_of_query entries at.conditions at.lefts (plan_without_offsets p) ≡ true
  is_right back found marks p code of_filters of_ons of_code =
      ap₂ ◌&&◌
      (ap (λ fs. are_filters entries (map without_offsets fs) at.conditions) of_filters ∙ filters_are entries (IsColumn entries) back at.conditions (found_each found at.conditions bare) bare)
      (ap₂ ◌&&◌ (ap (λ os. are_ons entries (map on_without_offsets os) at.lefts) of_ons ∙ ons_right back found) (ap (are_marked inner) of_code ∙ (marks inner code).0))

  -- ---- the verdict

  pub trail_accepted : PlansAreAccepted → (code : Code) → is_admissible at code ≡ true → verdict at (written (length entries) q) (simplifying q ++ placing at code) code ≡ Accepted
  trail_accepted accept code admissible =
      ap (λ n. verdict at (written n q) (simplifying q ++ placing at code) code) (sym facts.each) ∙ accept at q code facts.of_query few_entries facts.few_conjuncts admissible

  -- ---- the plan

  module _ (number : ℕ → ℕ) (small : (n : ℕ) → n < 64 → number n ≡ suc n) where
    abbrev pub numbered : ColumnId → SortColumn
    numbered id = record { entry = number id.entry; column = number id.column }

    sort_sound : (o : Option ColumnId) → ((id : ColumnId) → o ≡ Some id → IsColumn entries id) → IsSort pes (option_map numbered o)
    sort_sound None h = tt
    sort_sound (Some id) h =
        let c = h id refl in
        let within : id.entry < length entries = slice_get_within entries id.entry c.entry c.there in
        let f = facts.few in
        let w = facts.few_columns id.entry c.entry c.there in
        let l = c.within in
        let row : number id.entry ≡ suc id.entry = small id.entry (omega (arith, within, f)) in
        let column : number id.column ≡ suc id.column = small id.column (omega (arith, l, w)) in (
          subst (HasEntry pes) (sym row) (facts.named id.entry c.entry c.there),
          subst (λ i. HasColumn pes i (number id.column)) (sym row) (subst (HasColumn pes (suc id.entry)) (sym column) (facts.columns id.entry c.entry c.there id.column c.within)),
        )

    module _ (counts : List Stats) (few_rows : (i : ℕ) → rows_at counts i < 2 ^ 64) where
      abbrev pub problem_with : Problem
      problem_with = record { setting = at; statistics = counts; wanted = wanted_column q }

      abbrev pub plan_with : Code → Plan
      plan_with code = record {
        cost = cost (estimates problem_with) code;
        filters = map (named entries) at.conditions;
        ons = named_ons entries at.lefts;
        code = marked_code inner code;
        sort = option_map numbered (last_sort problem_with code);
        trail = simplifying q ++ placing at code;
      }

      module _ (code : Code) (admissible : is_admissible at code ≡ true) where
        code_is : IsCode pes (marked_code inner code)
        code_is =
            subst (λ n. IsCode pes (marked_code n code)) (sym as_many_inner)
            (code_sound at pes (let f = few_conditions in omega (arith, f))
            (λ i l. let n = facts.each in let it = present entries i (omega (arith, n, l)) in facts.named i it.0 it.1)
            (λ i column l h. let n = facts.each in let it = present entries i (omega (arith, n, l)) in facts.indexed i it.0 it.1 column h)
            among facts.few_members code admissible)

        ons_named : (i : ℕ) (cs : List BoundExpr) → i + length cs ≤ length entries → AreAll (λ o. HasEntry pes o.entry) (named_ons_from entries (suc i) cs)
        ons_named i [] l = tt
        ons_named i (c ∷ cs) l = ((let it = present entries i (omega (arith, l)) in facts.named i it.0 it.1), ons_named (suc i) cs (omega (arith, l)))

        sound : IsSound pes (plan_with code)
        sound = record {
          cost = cost_small (estimates problem_with) few_rows code (λ ss e. let n = as_many_steps at code admissible ss e in let f = few_entries in omega (arith, n, f));
          lefts = ons_named inner at.lefts (let a = among in let n = facts.each in omega (arith, a, n));
          code = code_is;
          sort = sort_sound (last_sort problem_with code) (λ id e. wanted_named (IsColumn entries) q id (last_is_wanted problem_with code id e) facts.query);
          trail = steps_sound (simplifying q ++ placing at code) (trail_small at q code);
        }

        -- where each condition has a text
        pub plan_is : AreAll (IsFilter pes) (map (named entries) at.conditions) → AreAll (λ o. IsFilter pes o.condition) (named_ons entries at.lefts) → IsPlan pes (plan_with code)
        plan_is filters ons = record { sound = sound; filters = filters; ons = ons; few = let n = length-map at.conditions (named entries) in let f = few_conditions in omega (arith, n, f) }

  module _ (IsSaid : BoundExpr → Type 0) (said_filter : (c : BoundExpr) → All (IsColumn entries) (columns c) → IsSaid c → IsFilter pes (named entries c)) where
    filters_from : (cs : List BoundExpr) → AllByRecursion (IsBare (IsColumn entries)) cs → AllByRecursion IsSaid cs → AreAll (IsFilter pes) (map (named entries) cs)
    filters_from [] h k = tt
    filters_from (c ∷ cs) h k = (said_filter c (All-from_recursion (IsColumn entries) (columns c) (columns_bare (IsColumn entries) c h.0)) k.0, filters_from cs h.1 k.1)

    ons_from : (number : ℕ) (cs : List BoundExpr) → AllByRecursion (IsBare (IsColumn entries)) cs → AllByRecursion IsSaid cs → AreAll (λ o. IsFilter pes o.condition) (named_ons_from entries number cs)
    ons_from number [] h k = tt
    ons_from number (c ∷ cs) h k = (said_filter c (All-from_recursion (IsColumn entries) (columns c) (columns_bare (IsColumn entries) c h.0)) k.0, ons_from (suc number) cs h.1 k.1)

    pub ons_each : AllByRecursion IsSaid at.lefts → AreAll (λ o. IsFilter pes o.condition) (named_ons entries at.lefts)
    ons_each said = ons_from (suc inner) at.lefts lefts_bare said

    pub filters_each : AllByRecursion IsSaid at.conditions → AreAll (IsFilter pes) (map (named entries) at.conditions)
    filters_each said = filters_from at.conditions bare said
