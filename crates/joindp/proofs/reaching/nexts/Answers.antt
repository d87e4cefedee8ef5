use Rattle.std.proofs.Common.{◌≡◌, ◌∙◌, ◌^◌, ◌&&◌, ℕ, [], ◌∷◌, true, nat_lt, ap, subst, sym, length-append, arith}
use Rattle.joindp.specs.Following.{may_be_next}
use Rattle.joindp.specs.Search.{entry_count, is_reached, set_of}
use Rattle.code_costs.specs.View.{problem_of}
use Rattle.joindp.proofs.Reached.{reached_pushed}
use Rattle.joindp.proofs.Rows.{one_more}
use Rattle.joindp.proofs.reaching.nexts.Goals as goal

pub loop-set-preserved : goal.loop-set-preserved
loop-set-preserved g c =
    let p = problem_of c.args.problem.now in
    let old = c.loop-set.nexts in
    let x = c.next_bits-next.result in
    rw c.in_ok-push.ensures.ok (record {
      long = let l = length-append old (x ∷ []) in omega (arith, l, c.loop-set.invariant.long);
      each = λ t d within reached. one_more (λ k b. is_reached (entry_count p) old k ≡ true → (i : ℕ) → set_of b i ≡ nat_lt i (entry_count p) && may_be_next p.setting (set_of k) i) old x c.loop-set.set c.loop-set.invariant.long c.loop-set.invariant.each
          (subst (λ ys. is_reached (entry_count p) ys c.loop-set.set ≡ true → (i : ℕ) → set_of x i ≡ nat_lt i (entry_count p) && may_be_next p.setting (set_of c.loop-set.set) i) c.as_slice.ensures c.next_bits-next.ensures) t d within
          (sym (reached_pushed (entry_count p) old x t (omega (arith, within, c.loop-set.invariant.long))) ∙ reached);
    })

pub returns : goal.returns
returns g c =
    let n = c.inner_count.ensures.count in
    let count : c.loop-set.set ≡ 2 ^ entry_count (problem_of c.args.problem.now) = let b = c.bit_of-sets.ensures ∙ ap (λ k. 2 ^ k) n in omega (arith, b, c.loop-set-test.false) in
    (c.loop-set.invariant.long ∙ count, λ set within. c.loop-set.invariant.each set 0 (omega (arith, within, count)))
