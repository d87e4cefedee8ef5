use Rattle.std.proofs.Common.{sym, ap, ◌∙◌, map, ◌∷◌, [], ◌++◌, arith, List}
use Rattle.memory.specs.declared.failure.Failure.TheVariants.{Error}
use Rattle.row_ast.specs.View.{column_ref_of}
use Rattle.expr.specs.declared.bound.ColumnId.{ColumnId}
use Rattle.scope.specs.View.{entry_of}
use Rattle.scope.specs.Lookup.{find_column}
use Rattle.memory.specs.Results.{on_each}
use Rattle.memory.proofs.Each.{after_nothing}
use Rattle.scope.proofs.Found.{each_after, each_next, each_over, failed, walk_opened, walk_next, walk_over}
use Rattle.resolve.proofs.queries.bind_columns.Goals as goal

pub returns-in-Err : goal.returns-in-Err
returns-in-Err g c =
    failed (λ (id : ColumnId). id) (λ (ids : List ColumnId). ids) (Error c.in-Err.fault) _ _ _
    (walk_opened (λ known x. find_column (map (λ e. entry_of e) c.args.entries.now) c.args.scope x) (λ known id. known ++ id ∷ []) (each_after (find_column (map (λ e. entry_of e) c.args.entries.now) c.args.scope)) (λ x. column_ref_of x) c.args.columns.now c.loop-column.column-index c.loop-column.ids _ c.loop-column.invariant (each_next (find_column (map (λ e. entry_of e) c.args.entries.now) c.args.scope)) c.column-item.result c.loop-column-test.true c.column-item.is)
    (sym c.in-Err.ensures)

pub loop-column-preserved : goal.loop-column-preserved
loop-column-preserved g c =
    walk_next (λ known x. find_column (map (λ e. entry_of e) c.args.entries.now) c.args.scope x) (λ known id. known ++ id ∷ []) (each_after (find_column (map (λ e. entry_of e) c.args.entries.now) c.args.scope)) (λ x. column_ref_of x) c.args.columns.now c.loop-column.column-index c.loop-column.ids _ c.loop-column.invariant (each_next (find_column (map (λ e. entry_of e) c.args.entries.now) c.args.scope)) c.column-item.result c.loop-column-test.true c.column-item.is
    c.in-Ok.id (sym c.in-Ok.ensures) _ c.in_ok-push-in-Ok.ensures.ok

pub loop-column-init : goal.loop-column-init
loop-column-init g c =
    ap (λ ids. each_after (find_column (map (λ e. entry_of e) c.args.entries.now) c.args.scope) ids (map (λ x. column_ref_of x) c.args.columns.now)) c.new-ids.ensures ∙ after_nothing (on_each (find_column (map (λ e. entry_of e) c.args.entries.now) c.args.scope) (map (λ x. column_ref_of x) c.args.columns.now))

pub returns : goal.returns
returns g c =
    walk_over (λ known x. find_column (map (λ e. entry_of e) c.args.entries.now) c.args.scope x) (λ known id. known ++ id ∷ []) (each_after (find_column (map (λ e. entry_of e) c.args.entries.now) c.args.scope)) (λ x. column_ref_of x) c.args.columns.now c.loop-column.column-index c.loop-column.ids _ c.loop-column.invariant (each_over (find_column (map (λ e. entry_of e) c.args.entries.now) c.args.scope)) (omega (arith, c.loop-column-test.false))
