use Rattle.std.proofs.Common.{subst, sym}
use Rattle.memory.specs.Gives.{Gives}
use Rattle.answer_rows.specs.Growing.{Growing}
use Rattle.eval.specs.Meaning.{◌>>=◌}
use Rattle.tuples.specs.View.{world_of}
use Rattle.report.specs.Answer.{in_order, rows_of}
use Rattle.report.proofs.gathered.Gathered.end.Goals as goal

pub returns-in-Groups : goal.returns-in-Groups
returns-in-Groups g c = λ kept h.
    let w = world_of c.args.world.now in
    let holds = rw c.in-Groups.is at h in
    subst (λ b. Gives (λ (rows : Growing). rows.rows) c.rows_of_groups.result (rows_of w.role w.query b kept >>= in_order w.role w.query)) (sym holds.0) (c.rows_of_groups.ensures kept holds.1)
