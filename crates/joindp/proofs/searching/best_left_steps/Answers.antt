use Rattle.std.proofs.Common.{◌≡◌, ◌∙◌, ◌+◌, ◌*◌, ◌^◌, ◌≤◌, length, ap, map, sym, subst, arith}
use Rattle.stats.specs.View.{selections_of, stats_of}
use Rattle.trailcheck.specs.TuplesView.{guard_of}
use Rattle.code_costs.specs.Best.{estimates}
use Rattle.code_costs.specs.View.{problem_of}
use Rattle.code_costs.proofs.Lefts.{best_left, may_be_left}
use Rattle.code_costs.proofs.Few.{few_all, first_of}
use Rattle.joindp.proofs.searching.best_left_steps.Goals as goal

pub best_tail-requires-clause-entries : goal.best_tail-requires-clause-entries
best_tail-requires-clause-entries g c =
    let problem = c.args.problem.now in
    subst (λ n. c.inner_count.result + n ≤ 12) (ap (λ ons. length ons) (sym c.as_slice-2.ensures)) (few_all guard_of problem.setting.now.frame c.inner_count.result (length problem.setting.now.lefts) c.inner_count.ensures.count problem.among problem.few)

pub returns-clause-admissible : goal.returns-clause-admissible
returns-clause-admissible g c =
    let problem = c.args.problem.now in
    let first = first_of _ (λ s. stats_of s.now) guard_of problem.statistics.now problem.setting.now.frame problem.each in
    may_be_left (estimates (problem_of problem)) (selections_of c.as_slice.result.now) c.inner_size.result c.inner_count.result c.as_slice-2.result.now (ap (λ ss. selections_of ss) c.as_slice.ensures ∙ problem.prepared) c.inner_size.ensures.value (c.inner_count.ensures.count ∙ sym first) c.as_slice-2.ensures _ c.inner_count.ensures.count c.in_ok-tail.tail c.in_ok-tail.ensures.admissible

pub returns-clause-least : goal.returns-clause-least
returns-clause-least g c =
    let problem = c.args.problem.now in
    let first = first_of _ (λ s. stats_of s.now) guard_of problem.statistics.now problem.setting.now.frame problem.each in
    best_left (estimates (problem_of problem)) (selections_of c.as_slice.result.now) c.inner_size.result c.inner_count.result c.as_slice-2.result.now (ap (λ ss. selections_of ss) c.as_slice.ensures ∙ problem.prepared) c.inner_size.ensures.value (c.inner_count.ensures.count ∙ sym first) c.as_slice-2.ensures _ c.inner_count.ensures.count c.in_ok-tail.tail c.in_ok-tail.ensures.least
