use Rattle.std.proofs.Common.{◌≡◌, ℕ, All, List, length, sym, ap, subst, ◌∙◌, arith}
use Rattle.std.proofs.lemmas.List.{length-map}
use Rattle.stats.specs.declared.statistics.ColumnStats.{ColumnStats}
use Rattle.stats.specs.Marked.{count_marks, marked}
use Rattle.stats.specs.Statistics.{stats_of_values, values_in}
use Rattle.stats.proofs.Marked.{marked_by, marks_counted}
use Rattle.stats.proofs.marked_stats.MarkedStats.new.Goals as goal

pub returns-clause-stats : goal.returns-clause-stats
returns-clause-stats g c = λ test rows is. record {
  long = ap length is ∙ length-map rows test;
  count = c.count_marks-rows.ensures ∙ ap count_marks is ∙ marks_counted test rows ∙ ap length (sym (marked_by test rows c.args.marks is));
  right = subst (λ (cs : List (ℕ × ColumnStats)). All (λ x. x.1 ≡ stats_of_values (values_in (marked c.args.marks rows) x.0)) cs) (sym c.new.ensures) (λ k d lt. absurd (omega (arith, lt)));
}
