use Rattle.std.proofs.Common.{map}
use Rattle.access_matrix.specs.Sights.{pair_of}
use Rattle.access_matrix.proofs.Reported.{change_row_is, row_done, row_is}
use Rattle.access_matrix.proofs.comparing.push_row.Goals as goal

pub returns : goal.returns
returns g c = λ old new more less.
    row_is c.finish_row.result _ _ _ _
    (change_row_is old new (pair_of c.args.pair) c.args.gained.now.rows c.args.lost.now.rows (map (λ n. n.now) c.args.gained.now.columns) (map (λ n. n.now) c.args.lost.now.columns) more.rows less.rows more.columns less.columns)
    (row_done c.finish_row.result _ _ _ _ _ _ _ _ _ _ _ _ _ _ c.requires c.in_ok-push_text.ensures c.in_ok-push_text-2.ensures c.in_ok-push_count.ensures c.in_ok-push_count-2.ensures
    (rw c.as_slice.ensures at c.in_ok-push_names.ensures) (rw c.as_slice-2.ensures at c.in_ok-push_names-2.ensures) c.finish_row.ensures.ok)
