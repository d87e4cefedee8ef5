use Rattle.std.proofs.Common.{refl, ap, ◌∙◌, map, ◌∷◌, [], ◌++◌, arith}
use Rattle.memory.proofs.Each.{after_nothing}
use Rattle.resolve.specs.Entries.{entry_in, entries_in}
use Rattle.resolve.proofs.Behind.{all_after, next_after, over_after}
use Rattle.scope.specs.View.{entry_of}
use Rattle.resolve.specs.View.{joined_table_of}
use Rattle.scope.specs.declared.entry.Entry.{Entry}
use Rattle.memory.proofs.Lists.{pushed}
use Rattle.scope.proofs.Found.{failed, walk_opened, walk_next, walk_over}
use Rattle.resolve.proofs.from.entries_in.Goals as goal

pub returns-in-Err : goal.returns-in-Err
returns-in-Err g c =
    failed (λ (e : Entry g.row.A.Denot). entry_of e) (λ entries. map (λ (e : Entry g.row.A.Denot). entry_of e) entries) c.in-Err.failure _ _ _
    (walk_opened (entry_in c.args.catalog.now) (λ known e. known ++ e ∷ []) (all_after c.args.catalog.now) (λ j. joined_table_of j) c.args.tables.now c.loop-joined.joined-index (map (λ e. entry_of e) c.loop-joined.entries) _ c.loop-joined.invariant (next_after c.args.catalog.now) c.joined-item.result c.loop-joined-test.true c.joined-item.is)
    (rw c.as_slice.ensures at c.in-Err.ensures)

pub loop-joined-preserved : goal.loop-joined-preserved
loop-joined-preserved g c =
    walk_next (entry_in c.args.catalog.now) (λ known e. known ++ e ∷ []) (all_after c.args.catalog.now) (λ j. joined_table_of j) c.args.tables.now c.loop-joined.joined-index (map (λ e. entry_of e) c.loop-joined.entries) _ c.loop-joined.invariant (next_after c.args.catalog.now) c.joined-item.result c.loop-joined-test.true c.joined-item.is
    (entry_of c.in-Ok.entry) (rw c.as_slice.ensures at c.in-Ok.ensures) _ (pushed (λ e. entry_of e) _ _ c.in-Ok.entry _ c.in_ok-push-in-Ok.ensures.ok refl)

pub loop-joined-init : goal.loop-joined-init
loop-joined-init g c =
    ap (λ entries. all_after c.args.catalog.now (map (λ e. entry_of e) entries) (map (λ j. joined_table_of j) c.args.tables.now)) c.new-entries.ensures ∙ after_nothing (entries_in c.args.catalog.now [] (map (λ j. joined_table_of j) c.args.tables.now))

pub returns : goal.returns
returns g c =
    walk_over (entry_in c.args.catalog.now) (λ known e. known ++ e ∷ []) (all_after c.args.catalog.now) (λ j. joined_table_of j) c.args.tables.now c.loop-joined.joined-index (map (λ e. entry_of e) c.loop-joined.entries) _ c.loop-joined.invariant (over_after c.args.catalog.now) (omega (arith, c.loop-joined-test.false))
