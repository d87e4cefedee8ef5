use Rattle.std.proofs.Common.{◌∙◌, ◌++◌, ◌∷◌, [], ap, ap₂, sym, length-append, take, arith}
use Rattle.std.proofs.Math.Numerals.{add-one}
use Rattle.std.proofs.Math.Seq.{take-suc}
use Rattle.std.proofs.lemmas.List.{map-append}
use Rattle.joindp.specs.Candidates.{IsCandidate}
use Rattle.joindp.specs.Search.{set_of}
use Rattle.code_costs.specs.View.{problem_of}
use Rattle.joindp.proofs.Asked.{own_step}
use Rattle.code_costs.proofs.Few.{no_step}
use Rattle.joindp.proofs.Improved.{each_few}
use Rattle.joindp.proofs.Rows.{one_more}
use Rattle.joindp.proofs.candidates.candidates.Goals as goal

pub candidate_of-requires-clause-allowed : goal.candidate_of-requires-clause-allowed
candidate_of-requires-clause-allowed g c =
    each_few (problem_of c.args.inputs.now.problem.now) (set_of c.args.set) c.as_slice-step-items.result.now c.loop-step.step-index (c.as_slice-step-items.ensures ∙ c.in_ok-steps.ensures) c.loop-step-test.true

pub loop-step-preserved : goal.loop-step-preserved
loop-step-preserved g c =
    let items = c.as_slice-step-items.result.now in
    let i = c.loop-step.step-index in
    let new = c.candidate_of.result in
    rw c.in_ok-push.ensures.items (record {
      long = let l = length-append c.loop-step.candidates.items (new ∷ []) in omega (arith, l, c.loop-step.invariant.long);
      steps =
          map-append own_step c.loop-step.candidates.items (new ∷ [])
          ∙ ap₂ (λ l s. l ++ s ∷ []) c.loop-step.invariant.steps c.candidate_of.ensures.step
          ∙ sym (ap (λ n. take n items) (add-one i) ∙ take-suc items i no_step c.loop-step-test.true);
      each = one_more (λ k x. IsCandidate (problem_of c.args.inputs.now.problem.now) c.args.inputs.now.orders.now c.args.set x) c.loop-step.candidates.items new i c.loop-step.invariant.long c.loop-step.invariant.each c.candidate_of.ensures.candidate;
    })
