use Rattle.std.proofs.Common.{◌≡◌, ◌∙◌, ◌+◌, ◌*◌, ◌^◌, ◌≤◌, length, ap, map, sym, subst, arith}
use Rattle.stats.specs.View.{selections_of, stats_of}
use Rattle.trailcheck.specs.TuplesView.{guard_of}
use Rattle.code_costs.specs.Best.{estimates}
use Rattle.code_costs.specs.View.{problem_of}
use Rattle.code_costs.proofs.Lefts.{size_is}
use Rattle.code_costs.proofs.Few.{few_all, first_of}
use Rattle.code_costs.proofs.costing.whole_size.Goals as goal

pub size_with_lefts-requires-clause-entries : goal.size_with_lefts-requires-clause-entries
size_with_lefts-requires-clause-entries g c =
    let problem = c.args.problem.now in
    subst (λ n. c.inner_count.result + n ≤ 12) (ap (λ ons. length ons) (sym c.as_slice-2.ensures)) (few_all guard_of problem.setting.now.frame c.inner_count.result (length problem.setting.now.lefts) c.inner_count.ensures.count problem.among problem.few)

pub returns-clause-value : goal.returns-clause-value
returns-clause-value g c =
    let problem = c.args.problem.now in
    let first = first_of _ (λ s. stats_of s.now) guard_of problem.statistics.now problem.setting.now.frame problem.each in
    c.size_with_lefts.ensures.value ∙ size_is (estimates (problem_of problem)) (selections_of c.as_slice.result.now) c.inner_size.result c.inner_count.result c.as_slice-2.result.now (ap (λ ss. selections_of ss) c.as_slice.ensures ∙ problem.prepared) c.inner_size.ensures.value (c.inner_count.ensures.count ∙ sym first) c.as_slice-2.ensures
