use Rattle.std.proofs.Common.{◌∙◌, ap, map, sym, arith}
use Rattle.stats.specs.Card.{times}
use Rattle.stats.specs.View.{members, stats_of}
use Rattle.stats.proofs.Estimates.{rows_first, rows_of_member, rows_of_other, rows_over}
use Rattle.stats.proofs.sizes.all_rows.Goals as goal
use Rattle.stats.proofs.sizes.all_rows.Goals.{then-contains, else-contains}

pub returns-clause-value : goal.returns-clause-value
returns-clause-value g c = sym (rows_over (λ s. stats_of s.now) c.args.statistics.now (members c.args.entries) c.loop-entry.rows c.loop-entry.entry c.loop-entry-test.false) ∙ c.loop-entry.invariant.rest

pub loop-entry-preserved : goal.loop-entry-preserved
loop-entry-preserved g c =
    elim c.if-contains.branch [
      | then-contains w ↦ record {
        rest =
            rows_of_member (λ s. stats_of s.now) c.args.statistics.now (members c.args.entries) c.loop-entry.rows c.loop-entry.entry c.index-statistics-entry.result c.loop-entry-test.true c.index-statistics-entry.is c.if-contains.rows
            (sym w.if-contains.true ∙ c.contains.ensures) (w.rows-is ∙ w.times-rows.ensures.value ∙ ap (times c.loop-entry.rows) w.rows.ensures)
            ∙ c.loop-entry.invariant.rest;
        least = omega arith;
        most = omega arith;
      }
      | else-contains w ↦ record {
        rest =
            rows_of_other (λ s. stats_of s.now) c.args.statistics.now (members c.args.entries) c.loop-entry.rows c.loop-entry.entry c.index-statistics-entry.result c.loop-entry-test.true c.index-statistics-entry.is c.if-contains.rows
            (sym w.if-contains.false ∙ c.contains.ensures) w.rows-is
            ∙ c.loop-entry.invariant.rest;
        least = omega arith;
        most = omega arith;
      }
    ]

pub loop-entry-init : goal.loop-entry-init
loop-entry-init g c = record {
  rest = rows_first (map (λ s. stats_of s.now) c.args.statistics.now) (members c.args.entries);
  least = omega arith;
  most = omega arith;
}
