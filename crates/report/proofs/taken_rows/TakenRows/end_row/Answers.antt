use Rattle.std.proofs.Common.{refl}
use Rattle.memory.proofs.Cases.{on_ok}
use Rattle.report.specs.Answering.{all_given}
use Rattle.report.proofs.Taking.{fault_more, row_more}
use Rattle.report.proofs.taken_rows.TakenRows.end_row.Goals as goal

pub returns-in-Ok : goal.returns-in-Ok
returns-in-Ok g c = λ due fates h.
    on_ok c.keep_row.result _ _ (λ rows. row_more _ _ c.args.self.now _ fates due c.args.self.now.rows.unfinished (rw c.in-Ok.is at h.next) h.fault rows refl)
    ((rw c.as_slice.ensures at c.keep_row.ensures) (all_given fates) h.rows)

pub returns-in-Err : goal.returns-in-Err
returns-in-Err g c = λ due fates h.
    on_ok c.add.result _ _ (λ adds. fault_more _ _ c.args.self.now _ fates due c.in-Err.failure (rw c.in-Err.is at h.next) h.rows h.fault adds c.forget_row.ensures) c.add.ensures.added
