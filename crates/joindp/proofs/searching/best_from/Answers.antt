use Rattle.std.proofs.Common.{◌∙◌, sym, arith}
use Rattle.std.proofs.lemmas.Bool.{both_ways}
use Rattle.joindp.specs.Search.{is_live, plan_of, set_of}
use Rattle.code_costs.specs.View.{problem_of}
use Rattle.joindp.proofs.Rows.{best_when_whole}
use Rattle.joindp.proofs.Sized.{smaller}
use Rattle.joindp.proofs.searching.best_from.Goals as goal

pub returns-then-set-inputs : goal.returns-then-set-inputs
returns-then-set-inputs g c =
    let p = problem_of c.args.inputs.now.problem.now in
    let n = c.args.inputs.now.sized.0 in
    let best = best_when_whole p c.args.set c.args.order (plan_of c.at_end.result) (omega (arith, n, c.if-set-inputs.true)) c.at_end.ensures.value in
    λ fits. (λ live. (best, smaller 1 _ (plan_of c.at_end.result) (omega (arith, n, c.if-set-inputs.true)) c.at_end.ensures.small), λ dead. absurd (both_ways (is_live p (set_of c.args.set) c.args.order) dead (sym c.is_live.ensures ∙ c.if-not-is_live.false)))
