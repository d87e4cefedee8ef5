use Rattle.std.proofs.Common.{◌≡◌, [], filter, is_some, length, sym, ap, ap₂, subst, ◌∙◌, arith}
use Rattle.std.specs.Prelude.{Some}
use Rattle.expr.specs.View.{bound_query_of}
use Rattle.catalog.specs.Catalog.{table_named}
use Rattle.scope.specs.View.{entry_of}
use Rattle.stats.specs.Statistics.{seen_stats}
use Rattle.stats.specs.View.{stats_of}
use Rattle.report.specs.Restricted.{columns_at}
use Rattle.resolve.specs.View.{bound_of}
use Rattle.store.specs.Database.{contents_named, rows_held, rows_of}
use Rattle.tuples.specs.Guards.{shows}
use Rattle.tuples.specs.View.{guard_of}
use Rattle.engine.specs.SeenStatistics.{planned_columns}
use Rattle.engine.proofs.SeenStatistics.{next_seen, of_contents, shown_at, shows_at, table_at}
use Rattle.engine.proofs.SeenTables.{are_known, still_seen}
use Rattle.engine.proofs.Steps.{as_long}
use Rattle.engine.proofs.seen_statistics.seen_statistics.Goals as goal

pub contents_of-rows-requires : goal.contents_of-rows-requires
contents_of-rows-requires g c =
    let lt = rw c.as_slice-entries.ensures at c.loop-number-test.true in
    let e = c.index-entries-number.result in
    let is = rw c.as_slice-entries.ensures at c.index-entries-number.is in
    let named = table_at (λ e. entry_of e) c.args.store.now.catalog c.args.bound.now.entries c.loop-number.number e c.requires.tables lt is in
    rw c.name-name.ensures (ap is_some named)

pub offset_bounds-frame-number : goal.offset_bounds-frame-number
offset_bounds-frame-number g c =
    let lt = rw c.as_slice-entries.ensures at c.loop-number-test.true in
    let long = as_long _ _ _ _ (c.requires.shows []) in
    omega (arith, lt, long)

pub bounds-frame-number : goal.bounds-frame-number
bounds-frame-number g c =
    let lt = rw c.as_slice-entries.ensures at c.loop-number-test.true in
    let long = as_long _ _ _ _ (c.requires.shows []) in
    omega (arith, lt, long)

pub guarded_statistics-requires : goal.guarded_statistics-requires
guarded_statistics-requires g c =
    let lt = rw c.as_slice-entries.ensures at c.loop-number-test.true in
    let e = c.index-entries-number.result in
    let is = rw c.as_slice-entries.ensures at c.index-entries-number.is in
    let named = table_at (λ e. entry_of e) c.args.store.now.catalog c.args.bound.now.entries c.loop-number.number e c.requires.tables lt is in
    let store = c.args.store.now in
    let role = c.args.role.now in
    let name = c.name-name.result.now in
    let guard = c.index-frame-number.result in
    let named_so = ap (λ n. table_named n store.catalog) c.name-name.ensures ∙ named in
    let are = sym (ap rows_held c.contents_of-rows.ensures) in
    let shown = shows_at (λ e. entry_of e) guard_of store.catalog role c.args.bound.now.entries c.args.frame.now c.requires.shows c.loop-number.number guard e lt c.index-frame-number.is is in
    are_known store role name (entry_of e).table (guard_of guard) c.contents_of-rows.result.now.rows named_so are shown c.loop-number.seen c.loop-number.invariant.known

pub returns-in_err-one-clause-seen : goal.returns-in_err-one-clause-seen
returns-in_err-one-clause-seen g c =
    let lt = rw c.as_slice-entries.ensures at c.loop-number-test.true in
    let e = c.index-entries-number.result in
    let is = rw c.as_slice-entries.ensures at c.index-entries-number.is in
    let named = table_at (λ e. entry_of e) c.args.store.now.catalog c.args.bound.now.entries c.loop-number.number e c.requires.tables lt is in
    let store = c.args.store.now in
    let role = c.args.role.now in
    let name = c.name-name.result.now in
    let guard = c.index-frame-number.result in
    let named_so = ap (λ n. table_named n store.catalog) c.name-name.ensures ∙ named in
    let are = sym (ap rows_held c.contents_of-rows.ensures) in
    let shown = shows_at (λ e. entry_of e) guard_of store.catalog role c.args.bound.now.entries c.args.frame.now c.requires.shows c.loop-number.number guard e lt c.index-frame-number.is is in
    still_seen store role name (entry_of e).table (guard_of guard) c.contents_of-rows.result.now.rows named_so are shown c.loop-number.seen c.guarded_statistics.new.seen c.loop-number.invariant.known c.guarded_statistics.ensures.kept

pub returns-in_err-push-clause-seen : goal.returns-in_err-push-clause-seen
returns-in_err-push-clause-seen g c =
    let lt = rw c.as_slice-entries.ensures at c.loop-number-test.true in
    let e = c.index-entries-number.result in
    let is = rw c.as_slice-entries.ensures at c.index-entries-number.is in
    let named = table_at (λ e. entry_of e) c.args.store.now.catalog c.args.bound.now.entries c.loop-number.number e c.requires.tables lt is in
    let store = c.args.store.now in
    let role = c.args.role.now in
    let name = c.name-name.result.now in
    let guard = c.index-frame-number.result in
    let named_so = ap (λ n. table_named n store.catalog) c.name-name.ensures ∙ named in
    let are = sym (ap rows_held c.contents_of-rows.ensures) in
    let shown = shows_at (λ e. entry_of e) guard_of store.catalog role c.args.bound.now.entries c.args.frame.now c.requires.shows c.loop-number.number guard e lt c.index-frame-number.is is in
    still_seen store role name (entry_of e).table (guard_of guard) c.contents_of-rows.result.now.rows named_so are shown c.loop-number.seen c.guarded_statistics.new.seen c.loop-number.invariant.known c.guarded_statistics.ensures.kept

pub loop-number-preserved : goal.loop-number-preserved
loop-number-preserved g c =
    let lt = rw c.as_slice-entries.ensures at c.loop-number-test.true in
    let e = c.index-entries-number.result in
    let is = rw c.as_slice-entries.ensures at c.index-entries-number.is in
    let named = table_at (λ e. entry_of e) c.args.store.now.catalog c.args.bound.now.entries c.loop-number.number e c.requires.tables lt is in
    let store = c.args.store.now in
    let role = c.args.role.now in
    let name = c.name-name.result.now in
    let guard = c.index-frame-number.result in
    let named_so = ap (λ n. table_named n store.catalog) c.name-name.ensures ∙ named in
    let are = sym (ap rows_held c.contents_of-rows.ensures) in
    let shown = shows_at (λ e. entry_of e) guard_of store.catalog role c.args.bound.now.entries c.args.frame.now c.requires.shows c.loop-number.number guard e lt c.index-frame-number.is is in
    let t = (entry_of e).table in
    let n = c.loop-number.number in
    let entries = c.args.bound.now.entries in
    let q = (bound_of c.args.bound.now).query in
    let contents = c.contents_of-rows.result.now in
    let (many, rows) = of_contents store t.name t c.catalog-catalog.ensures.agree named contents (subst (λ n. contents_named store.tables n ≡ Some contents) c.name-name.ensures c.contents_of-rows.ensures) in
    let columns = c.as_slice-kept.ensures ∙ c.in_ok-columns.ensures ∙ ap (columns_at n) (c.as_slice-ids.ensures ∙ c.in_ok-planned.ensures ∙ ap planned_columns (ap bound_query_of c.deref.ensures)) in
    let seen = shown_at (λ e. entry_of e) guard_of store.catalog role entries c.args.frame.now c.requires.shows n guard e lt c.index-frame-number.is is (rows_of store t.name) in
    record {
      all =
          next_seen (λ e. entry_of e) (λ s. stats_of s) store.catalog (rows_of store) role q c.loop-number.all entries n e c.in_ok-one.one c.push.new.self lt is c.in_ok-push.ensures.ok
          (c.in_ok-one.ensures.value
          ∙ ap₂ (λ cs n. seen_stats cs n (filter (shows role (guard_of guard)) contents.rows)) columns many
          ∙ ap (seen_stats (columns_at n (planned_columns q)) (length t.columns)) (ap (filter (shows role (guard_of guard))) rows ∙ seen))
          c.loop-number.invariant.all;
      known = still_seen store role name (entry_of e).table (guard_of guard) c.contents_of-rows.result.now.rows named_so are shown c.loop-number.seen c.guarded_statistics.new.seen c.loop-number.invariant.known c.guarded_statistics.ensures.kept;
    }
