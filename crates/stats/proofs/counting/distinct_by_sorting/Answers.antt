use Rattle.std.proofs.Common.{ap, ◌∙◌}
use Rattle.std.specs.Ordering.{int_cmp}
use Rattle.std.proofs.lemmas.Cmp.{int_cmp_total}
use Rattle.std.proofs.lemmas.Map.Lookups.{exact_signed}
use Rattle.bags.proofs.Order.{sorted_is-sorted_by}
use Rattle.stats.specs.Runs.{runs}
use Rattle.stats.proofs.Distinct.{runs_sorted}
use Rattle.stats.proofs.counting.distinct_by_sorting.Goals as goal

pub returns : goal.returns
returns g c =
    c.count_runs.ensures
    ∙ ap (runs int_cmp) (c.deref.ensures.value ∙ sorted_is-sorted_by int_cmp int_cmp_total exact_signed c.args.numbers.now.items c.sort_unstable.new.self.items c.sort_unstable.ensures.permutation c.sort_unstable.ensures.sorted)
    ∙ runs_sorted int_cmp int_cmp_total c.args.numbers.now.items
