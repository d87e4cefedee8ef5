use Rattle.std.proofs.Common.{◌≡◌, ◌∙◌, ℕ, List, ◌++◌, length, map, replicate, reverse, sym, ap, ap₂}
use Rattle.std.proofs.lemmas.List.{length-map}
use Rattle.std.proofs.lemmas.Result.{on_ok_weaker}
use Rattle.expr.specs.Bound.{BoundExpr}
use Rattle.tuples.specs.View.{guard_of}
use Rattle.row_terms.specs.declared.path.Branch.{Branch}
use Rattle.row_terms.specs.declared.path.Branch.TheVariants.{First}
use Rattle.row_terms.specs.Terms.{Term}
use Rattle.algebra.specs.Steps.{Step}
use Rattle.algebra.specs.View.{step_of}
use Rattle.trailcheck.specs.Settings.{Setting}
use Rattle.trailcheck.specs.Shapes.{entry_index}
use Rattle.trailcheck.specs.View.{setting_of}
use Rattle.rewrite.specs.Placing.{all_opened, arranging, settling_all}
use Rattle.rewrite.specs.Trails.{below_path}
use Rattle.rewrite.proofs.Added.{placing_added}
use Rattle.rewrite.proofs.placing.push_placing.Goals as goal

same_way : (at : Setting) (old : List Step) {p q : List Branch} {l m is js : List ℕ} → p ≡ q → l ≡ m → is ≡ js → old ++ below_path p (arranging at l is) ≡ old ++ below_path q (arranging at m js)
same_way at old a b c = ap₂ (λ r ss. old ++ below_path r ss) a (ap₂ (arranging at) b c)

same_places : (old : List Step) {m n : ℕ} {es fs : List BoundExpr} {x y : Term} → m ≡ n → es ≡ fs → x ≡ y → old ++ settling_all m es x ≡ old ++ settling_all n fs y
same_places old {m} {fs} {y} a b c = ap₂ (λ es x. old ++ settling_all m es x) b c ∙ ap (λ n. old ++ settling_all n fs y) a

pub returns : goal.returns
returns g c =
    let at = setting_of c.args.setting.now in
    let old = map step_of c.args.trail.now in
    let mid = map step_of c.push_arranging.new.trail in
    let count : c.len-count.result ≡ length at.frame = c.len-count.ensures ∙ sym (length-map c.args.setting.now.frame guard_of) in
    let lefts = c.in_ok-lefts.ensures ∙ ap (λ ss. reverse (map entry_index ss)) c.left_steps.ensures in
    let inner = c.in_ok-inner.ensures ∙ ap (λ ss. reverse (map entry_index ss)) c.inner_steps.ensures in
    on_ok_weaker c.settle_all.result
    (λ n. placing_added at c.args.steps.now c.in_ok-path.path old mid (map step_of c.settle_all.new.trail) (c.in_ok-path.ensures ∙ ap (λ k. replicate k First) c.len.ensures)
    (c.in_ok-push_arranging.ensures ∙ same_way at old c.as_slice.ensures (c.as_slice-2.ensures ∙ lefts) (c.as_slice-3.ensures ∙ inner))
    (n ∙ same_places mid count c.as_slice-5.ensures (c.in_ok-term.ensures ∙ ap (all_opened at) (c.as_slice-4.ensures ∙ inner))))
    c.settle_all.ensures
