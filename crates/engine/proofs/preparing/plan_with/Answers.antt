use Rattle.std.proofs.Common.{[], ap, ap₂, arith, length, map, subst, sym, ◌∙◌}
use Rattle.std.proofs.lemmas.List.{length-map}
use Rattle.std.proofs.lemmas.Simd.{map-map}
use Rattle.expr.specs.View.{bound_query_of, code_of}
use Rattle.stats.specs.View.{stats_of}
use Rattle.access.specs.Access.{sees, visible}
use Rattle.scope.specs.View.{entry_of}
use Rattle.tuples.specs.Guards.{shows}
use Rattle.tuples.specs.View.{guard_of}
use Rattle.planning.specs.Laws.{IsSettingOf}
use Rattle.trailcheck.specs.View.{setting_of}
use Rattle.planning.specs.LeastCode.{Problem}
use Rattle.planning.specs.Wanted.{wanted_column}
use Rattle.resolve.specs.View.{bound_of}
use Rattle.store.specs.Database.{rows_of}
use Rattle.engine.specs.Plans.{IsPlanFor, Plan}
use Rattle.engine.proofs.Made.{is_made}
use Rattle.engine.proofs.OfText.{setting_of_query, text_conjuncts, text_few, text_lefts, text_tables}
use Rattle.engine.proofs.SeenStatistics.{as_many}
use Rattle.engine.proofs.Steps.{as_long}
use Rattle.engine.proofs.preparing.plan_with.Goals as goal

pub seen_statistics-requires-clause-tables : goal.seen_statistics-requires-clause-tables
seen_statistics-requires-clause-tables g c = text_tables c.args.store.now.catalog c.args.role.now (bound_of c.args.bound.now) c.requires.admitted

pub seen_statistics-requires-clause-shows : goal.seen_statistics-requires-clause-shows
seen_statistics-requires-clause-shows g c = λ row. rw c.as_slice-frame.ensures (rw c.catalog.ensures.catalog at (c.in_ok-setting.ensures.shows row))

-- as many statistics as guards
pub new-requires-clause-each : goal.new-requires-clause-each
new-requires-clause-each g c =
    let b = bound_of c.args.bound.now in
    ap length c.deref-2.ensures.value
    ∙ sym (length-map c.in_ok-each.each.items (λ s. stats_of s.now))
    ∙ ap length (c.in_ok-each.ensures ∙ ap (map (λ s. stats_of s)) c.as_slice.ensures ∙ c.in_ok-statistics.ensures.value)
    ∙ as_many b.query 0 (λ e. visible c.args.store.now.catalog c.args.role.now e.table (rows_of c.args.store.now e.table.name)) b.entries
    ∙ length-map c.args.bound.now.entries (λ e. entry_of e)
    ∙ sym (as_long _ _ _ _ (c.in_ok-setting.ensures.shows []))

pub new-requires-clause-entries : goal.new-requires-clause-entries
new-requires-clause-entries g c =
    let same = as_long _ _ _ _ (c.in_ok-setting.ensures.shows []) in
    let as_many = length-map c.args.bound.now.entries (λ e. entry_of e) in
    let few = text_few c.args.store.now.catalog c.args.role.now (bound_of c.args.bound.now) c.requires.admitted (λ text q is. (c.law_parsing_is_determined.ensures.query.found text q is).2) in
    omega (arith, same, as_many, few)

pub new-requires-clause-conjuncts : goal.new-requires-clause-conjuncts
new-requires-clause-conjuncts g c =
    let few = text_conjuncts c.args.store.now.catalog c.args.role.now (bound_of c.args.bound.now) c.requires.admitted (λ text q is. (c.law_parsing_is_determined.ensures.query.found text q is).2) in
    rw c.deref.ensures few

pub new-requires-clause-setting : goal.new-requires-clause-setting
new-requires-clause-setting g c =
    let b = bound_of c.args.bound.now in
    let known = text_lefts c.args.store.now.catalog c.args.role.now b c.requires.admitted c.law_queries_have_tables.ensures in
    subst (λ q. IsSettingOf q (setting_of c.in_ok-setting.setting)) (ap bound_query_of (sym c.deref.ensures))
    (subst (IsSettingOf b.query) (sym (rw c.catalog.ensures.catalog at c.in_ok-setting.ensures.value)) (setting_of_query c.args.store.now.catalog c.args.role.now b known))

pub new-requires-2 : goal.new-requires-2
new-requires-2 g c =
    let b = bound_of c.args.bound.now in
    let p : Plan = record { setting = setting_of c.in_ok-setting.setting; statistics = map (λ s. stats_of s) c.in_ok-statistics.statistics; cost = c.cost-cost.result; code = code_of c.into_code-code.result } in
    let statistics = ap (map (λ s. stats_of s.now)) c.deref-2.ensures.value ∙ c.in_ok-each.ensures ∙ ap (map (λ s. stats_of s)) c.as_slice.ensures in
    let query = ap bound_query_of c.deref.ensures in
    let problem = c.in_ok-found.ensures.problem ∙ ap₂ (λ ss q. let x : Problem = record { setting = p.setting; statistics = ss; wanted = wanted_column q } in x) statistics query in
    (b.query, is_made c.in_ok-found.found b.query p c.into_code-code.ensures.plan (c.in_ok-found.ensures.query ∙ query) problem (sym c.cost-cost.ensures.cost) (sym c.into_code-code.ensures.code))

pub returns-clause-plan : goal.returns-clause-plan
returns-clause-plan g c =
    let database = c.args.store.now in
    let cat = database.catalog in
    let role = c.args.role.now in
    let b = bound_of c.args.bound.now in
    let frame = c.in_ok-setting.setting.frame in
    let p : Plan = record { setting = setting_of c.in_ok-setting.setting; statistics = map (λ s. stats_of s) c.in_ok-statistics.statistics; cost = c.cost-cost.result; code = code_of c.into_code-code.result } in
    let statistics = ap (map (λ s. stats_of s.now)) c.deref-2.ensures.value ∙ c.in_ok-each.ensures ∙ ap (map (λ s. stats_of s)) c.as_slice.ensures in
    let query = ap bound_query_of c.deref.ensures in
    let problem = c.in_ok-found.ensures.problem ∙ ap₂ (λ ss q. let x : Problem = record { setting = p.setting; statistics = ss; wanted = wanted_column q } in x) statistics query in
    let under = (rw c.catalog.ensures.catalog at c.in_ok-setting.ensures.value) in
    subst (IsPlanFor database role b) (sym c.new-2.ensures) record {
      is_best = is_made c.in_ok-found.found b.query p c.into_code-code.ensures.plan (c.in_ok-found.ensures.query ∙ query) problem (sym c.cost-cost.ensures.cost) (sym c.into_code-code.ensures.code);
      of_setting = under;
      of_statistics = c.in_ok-statistics.ensures.value;
      of_guards = λ row. map-map (λ g. shows role g row) guard_of frame ∙ (rw c.catalog.ensures.catalog at (c.in_ok-setting.ensures.shows row)) ∙ sym (map-map (λ e. sees cat role e.table row) (λ e. entry_of e) c.args.bound.now.entries);
    }
