use Rattle.std.proofs.Common.{◌≡◌, ◌∙◌, ◌^◌, ◌≤◌, [], ◌∷◌, length-append, ap, arith}
use Rattle.code_costs.specs.Best.{estimates}
use Rattle.code_costs.specs.Cost.{size}
use Rattle.joindp.specs.Search.{entry_count, set_of}
use Rattle.code_costs.specs.View.{problem_of}
use Rattle.joindp.proofs.Rows.{one_more}
use Rattle.joindp.proofs.searching.sizes.Goals as goal

pub loop-bits-preserved : goal.loop-bits-preserved
loop-bits-preserved g c =
    rw c.in_ok-push.ensures.ok (record {
      long = let l = length-append c.loop-bits.sizes (c.size.result ∷ []) in omega (arith, l, c.loop-bits.invariant.long);
      each = one_more (λ set x. (x ≡ size (estimates (problem_of c.args.problem.now)) (set_of set)) × (x ≤ 2 ^ 40)) c.loop-bits.sizes c.size.result c.loop-bits.bits c.loop-bits.invariant.long c.loop-bits.invariant.each
          (c.size.ensures.value, c.size.ensures.small);
    })

pub returns : goal.returns
returns g c =
    let n = c.inner_count.ensures.count in
    let count : c.loop-bits.bits ≡ 2 ^ entry_count (problem_of c.args.problem.now) = let b = c.bit_of-count.ensures ∙ ap (λ k. 2 ^ k) n in omega (arith, b, c.loop-bits-test.false) in
    (c.loop-bits.invariant.long ∙ count, λ set within. c.loop-bits.invariant.each set 0 (omega (arith, within, count)))
