use Rattle.std.proofs.Common.{length, ap, ◌∙◌}
use Rattle.std.proofs.lemmas.Result.{IfOk-weaker}
use Rattle.tuples.specs.Guards.{shows}
use Rattle.tuples.specs.View.{guard_of}
use Rattle.stats.specs.Marked.{marked}
use Rattle.stats.specs.Statistics.{seen_stats}
use Rattle.stats.proofs.Marked.{marked_by}
use Rattle.stats.proofs.statistics.Stats.of_seen.Goals as goal

pub statistics-requires : goal.statistics-requires
statistics-requires g c = record { stats = c.new.ensures.stats (shows c.args.role.now (guard_of c.args.guard.now)) c.args.table.now.rows c.in_ok-seen.ensures }

pub returns : goal.returns
returns g c =
    let table = c.args.table.now in
    let seen : _ = ap (λ m. marked m table.rows) c.new.ensures.marks ∙ marked_by (shows c.args.role.now (guard_of c.args.guard.now)) table.rows c.in_ok-seen.seen c.in_ok-seen.ensures in
    IfOk-weaker c.statistics.result _ _ (λ s is. is ∙ ap (seen_stats c.args.columns.now (length table.columns)) seen) c.statistics.ensures.value
