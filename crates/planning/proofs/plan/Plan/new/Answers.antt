use Rattle.std.proofs.Common.{◌≡◌, ◌≤◌, ◌∙◌, true, ap, length, map, refl, subst, sym, arith}
use Rattle.std.proofs.lemmas.List.{length-map}
use Rattle.expr.specs.View.{bound_query_of, code_of}
use Rattle.stats.specs.View.{stats_of}
use Rattle.trailcheck.specs.TuplesView.{guard_of}
use Rattle.trailcheck.specs.Admissible.{is_admissible}
use Rattle.trailcheck.specs.View.{setting_of}
use Rattle.value.specs.Limits.{most_entries}
use Rattle.code_costs.specs.Best.{IsLeast, Problem, estimates}
use Rattle.code_costs.specs.Cost as joindp
use Rattle.planning.specs.Wanted.{wanted_column}
use Rattle.rewrite.proofs.Accepting.{lefts_among}
use Rattle.planning.proofs.plan.Plan.new.Goals as goal

pub new-requires-clause-among : goal.new-requires-clause-among
new-requires-clause-among g c =
    let at = setting_of c.args.setting.now in
    let less = lefts_among (bound_query_of c.args.query.now) at c.requires.setting in
    let same = length-map c.args.setting.now.frame (λ x. guard_of x) in
    omega (arith, less, same)

pub invariant_of-result : goal.invariant_of-result
invariant_of-result g c =
    let q = bound_query_of c.args.query.now in
    let at = setting_of c.args.setting.now in
    let code = code_of c.in_ok-code.code in
    let cost = c.in_ok-code.cost in
    let found = c.in_ok-code.ensures in
    let same = c.in_ok-problem.ensures ∙ ap (λ w. let p : Problem = record { setting = at; statistics = map (λ s. stats_of s.now) c.args.statistics.now; wanted = w } in p) c.wanted_column.ensures in
    let problem : Problem = record { setting = at; statistics = map (λ s. stats_of s.now) c.args.statistics.now; wanted = wanted_column q } in
    let admissible = subst (λ (p : Problem). is_admissible p.setting code ≡ true) same found.admissible in
    let known = subst (λ (p : Problem). cost ≡ joindp.cost (estimates p) code) same found.cost in
    let least = subst (λ (p : Problem). IsLeast p cost code) same found.least in
    let few : length at.frame ≤ most_entries = subst (λ n. n ≤ most_entries) (sym (length-map c.args.setting.now.frame (λ x. guard_of x))) c.requires.entries in
    let laws = c.law_plans_are_accepted.ensures in
    record {
      admissible = admissible;
      cost = known;
      best = c.law_least_is_best.ensures problem code admissible (subst (λ n. IsLeast problem n code) known least);
      steps = refl;
      accepted = laws.accepted at q code c.requires.setting few c.requires.conjuncts admissible;
      short = laws.short at q code c.requires.setting few c.requires.conjuncts admissible;
    }
