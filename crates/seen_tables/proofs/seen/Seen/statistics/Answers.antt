use Rattle.std.proofs.Common.{length, ap, subst, inl, inr, ◌∙◌}
use Rattle.tuples.specs.GuardView.{guard_of}
use Rattle.tuples.specs.Guards.{shows}
use Rattle.stats.specs.Statistics.{seen_stats}
use Rattle.stats.proofs.Marked.{marked_by}
use Rattle.seen_tables.specs.Known.{IsSeen}
use Rattle.seen_tables.proofs.Known.{still_seen}
use Rattle.seen_tables.proofs.seen.Seen.statistics.Goals as goal

pub returns-in_err-keep-clause-kept : goal.returns-in_err-keep-clause-kept
returns-in_err-keep-clause-kept g c = λ x there.
    let of = c.args.of.now in
    let made = still_seen of.role.now of.name.now (guard_of of.guard.now) of.rows.now.rows c.in_ok-one.one c.statistics.new.self c.in_ok-one.ensures.seen c.statistics.ensures.role c.statistics.ensures.table c.statistics.ensures.marks c.statistics.ensures.stats in
    elim (c.keep.ensures x there) [
      | inl old ↦ inl (c.taken_out.ensures.others x old)
      | inr same ↦ inr (subst (IsSeen of.role.now of.name.now (guard_of of.guard.now) of.rows.now.rows) same made)
    ]

pub returns-clause-value : goal.returns-clause-value
returns-clause-value g c =
    let of = c.args.of.now in
    c.in_ok-statistics.ensures.value
    ∙ ap (seen_stats c.args.columns.now (length of.rows.now.columns)) (marked_by (shows of.role.now (guard_of of.guard.now)) of.rows.now.rows c.in_ok-one.one.statistics.marks c.in_ok-one.ensures.seen.of_rows)

pub returns-clause-kept : goal.returns-clause-kept
returns-clause-kept g c = λ x there.
    let of = c.args.of.now in
    let made = still_seen of.role.now of.name.now (guard_of of.guard.now) of.rows.now.rows c.in_ok-one.one c.statistics.new.self c.in_ok-one.ensures.seen c.statistics.ensures.role c.statistics.ensures.table c.statistics.ensures.marks c.statistics.ensures.stats in
    elim (c.keep.ensures x there) [
      | inl old ↦ inl (c.taken_out.ensures.others x old)
      | inr same ↦ inr (subst (IsSeen of.role.now of.name.now (guard_of of.guard.now) of.rows.now.rows) same made)
    ]
