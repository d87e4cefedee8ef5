use Rattle.std.proofs.Common.{◌≡◌, ◌-◌, ◌*◌, ◌%◌, ◌^◌, ◌≤◌, ◌==◌, length, nat_lt, sym, ap, ◌∙◌, arith}
use Rattle.std.specs.Int.{bit_at}
use Rattle.stats.specs.View.{stats_of}
use Rattle.stats.proofs.EntrySets.{bits_of_all}
use Rattle.trailcheck.specs.Settings.{inner_count}
use Rattle.trailcheck.specs.TuplesView.{guard_of}
use Rattle.trailcheck.specs.View.{setting_of}
use Rattle.code_costs.proofs.Costs.{ones_of_few}
use Rattle.code_costs.proofs.Few.{few_of, first_of}
use Rattle.code_costs.proofs.costing.inner_entries.Goals as goal

pub returns : goal.returns
returns g c =
    let p = c.args.problem.now in
    let n = inner_count (setting_of p.setting.now) in
    let few : n ≤ 12 = few_of _ guard_of p.setting.now.frame p.few in
    λ i.
    ap (λ k. bit_at (1 * 2 ^ k % 2 ^ 64 - 1) i == 1) c.inner_count.ensures.count
    ∙ ap (λ bits. bit_at bits i == 1) (ones_of_few n few)
    ∙ bits_of_all n i
    ∙ ap (nat_lt i) (sym (first_of _ (λ s. stats_of s.now) guard_of p.statistics.now p.setting.now.frame p.each))
