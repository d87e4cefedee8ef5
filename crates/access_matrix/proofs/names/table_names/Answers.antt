use Rattle.std.proofs.Common.{◌∙◌, Some, ap, sym}
use Rattle.std.specs.Prelude.{option_map}
use Rattle.row_objects.specs.View.{table_of}
use Rattle.access_matrix.proofs.Loops.{named_next}
use Rattle.access_matrix.proofs.names.table_names.Goals as goal

pub loop-index-preserved : goal.loop-index-preserved
loop-index-preserved g c =
    named_next (λ n. n.now) (λ t. t.name) c.args.catalog.now.tables c.loop-index.index c.loop-index.names _ _ c.loop-index.invariant
    c.name.result (option_map (λ t. t.name) (option_map (λ t. table_of t) c.table_at.result))
    (ap (λ o. option_map (λ t. t.name) (option_map (λ t. table_of t) o)) c.unwrap.ensures ∙ ap (λ n. Some n) (sym c.name.ensures))
    (ap (λ o. option_map (λ t. t.name) o) c.table_at.ensures) c.in_ok-push.ensures.ok
