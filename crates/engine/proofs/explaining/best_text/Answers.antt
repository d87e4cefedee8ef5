use Rattle.std.proofs.Common.{◌≡◌, ◌∙◌, [], ap, length, map, subst, sym, arith}
use Rattle.std.proofs.lemmas.List.{length-map}
use Rattle.std.proofs.lemmas.Result.{IfOk-weaker}
use Rattle.expr.specs.View.{bound_query_of}
use Rattle.scope.specs.View.{entries_of, entry_of}
use Rattle.stats.specs.View.{stats_of}
use Rattle.planning.specs.Laws.{IsSettingOf}
use Rattle.trailcheck.specs.View.{setting_of}
use Rattle.plan_texts.specs.View.{plan_of}
use Rattle.bound_plans.specs.Entries.{plan_entries}
use Rattle.resolve.specs.View.{bound_of}
use Rattle.access.specs.Access.{visible}
use Rattle.store.specs.Database.{rows_of}
use Rattle.engine.specs.Explained.{best_text}
use Rattle.engine.specs.SeenStatistics.{seen_statistics}
use Rattle.engine.proofs.ExplainedTexts.{problem_is, written_best}
use Rattle.engine.proofs.OfText.{setting_of_query}
use Rattle.engine.proofs.SeenStatistics.{as_many}
use Rattle.engine.proofs.Steps.{as_long}
use Rattle.engine.proofs.explaining.best_text.Goals as goal

pub seen_statistics-requires-clause-shows : goal.seen_statistics-requires-clause-shows
seen_statistics-requires-clause-shows g c = λ row. rw c.as_slice-frame.ensures (rw c.catalog.ensures.catalog at (c.in_ok-setting.ensures.shows row))

pub new-requires-clause-each : goal.new-requires-clause-each
new-requires-clause-each g c =
    let b = bound_of c.args.bound.now in
    ap length c.deref-3.ensures.value
    ∙ sym (length-map c.in_ok-each.each.items (λ s. stats_of s.now))
    ∙ ap length (c.in_ok-each.ensures ∙ ap (map (λ s. stats_of s)) c.as_slice.ensures ∙ c.in_ok-statistics.ensures.value)
    ∙ as_many b.query 0 (λ e. visible c.args.store.now.catalog c.args.role.now e.table (rows_of c.args.store.now e.table.name)) b.entries
    ∙ length-map c.args.bound.now.entries (λ e. entry_of e)
    ∙ sym (as_long _ _ _ _ (c.in_ok-setting.ensures.shows []))

pub new-requires-clause-entries : goal.new-requires-clause-entries
new-requires-clause-entries g c =
    let same = as_long _ _ _ _ (c.in_ok-setting.ensures.shows []) in
    let as_many = length-map c.args.bound.now.entries (λ e. entry_of e) in
    let few = c.requires.few in
    omega (arith, same, as_many, few)

pub new-requires-clause-setting : goal.new-requires-clause-setting
new-requires-clause-setting g c =
    let b = bound_of c.args.bound.now in
    subst (λ q. IsSettingOf q (setting_of c.in_ok-setting.setting)) (ap bound_query_of (sym c.deref-2.ensures))
    (subst (IsSettingOf b.query) (sym (rw c.catalog.ensures.catalog at c.in_ok-setting.ensures.value)) (setting_of_query c.args.store.now.catalog c.args.role.now b c.requires.lefts))

pub returns-clause-text : goal.returns-clause-text
returns-clause-text g c =
    let database = c.args.store.now in
    let cat = database.catalog in
    let role = c.args.role.now in
    let b = bound_of c.args.bound.now in
    let stats = seen_statistics cat (rows_of database) role b in
    let found = c.in_ok-found.found in
    let set = (rw c.catalog.ensures.catalog at c.in_ok-setting.ensures.value) in
    let statistics = ap (map (λ s. stats_of s.now)) c.deref-3.ensures.value ∙ c.in_ok-each.ensures ∙ ap (map (λ s. stats_of s)) c.as_slice.ensures ∙ c.in_ok-statistics.ensures.value in
    let query = ap bound_query_of c.deref-2.ensures in
    let from = problem_is cat role b stats (setting_of c.in_ok-setting.setting) (map (λ s. stats_of s.now) c.deref-3.result.now) (bound_query_of c.deref-2.result.now) found.problem c.in_ok-found.ensures.problem set statistics query in
    let names = ap (λ es. plan_entries (entries_of es)) c.as_slice-entries.ensures in
    IfOk-weaker c.write_trail.result _ (λ v. v.items ≡ best_text cat role b stats)
    (λ v h. h ∙ written_best cat role b stats found c.in_ok-plan.ensures.plan (c.in_ok-found.ensures.query ∙ query) from (entries_of c.as_slice-entries.result.now) c.as_slice-conditions.result.now c.as_slice-lefts.result.now (plan_entries (entries_of c.as_slice-entries.result.now)) (plan_of c.in_ok-plan.plan)
    (ap entries_of c.as_slice-entries.ensures) (c.as_slice-conditions.ensures ∙ ap (λ s. s.conditions) set) (c.as_slice-lefts.ensures ∙ ap (λ s. s.lefts) set) names c.in_ok-plan.ensures.value)
    c.write_trail.ensures
