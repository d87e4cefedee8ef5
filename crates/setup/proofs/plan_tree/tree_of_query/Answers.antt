use Rattle.std.proofs.Common.{◌≡◌, ◌∙◌, sym, subst, ap, ap₂}
use Rattle.std.specs.Result.{IfOk}
use Rattle.std.proofs.lemmas.Result.{IfOk-weaker}
use Rattle.scope.specs.View.{entries_of}
use Rattle.engine.specs.AnalysisView.{admitted_of}
use Rattle.setup.specs.PlanTree.{tree_of, tree_or_same}
use Rattle.setup.proofs.plan_tree.tree_of_query.Goals as goal

pub returns-in-Ok : goal.returns-in-Ok
returns-in-Ok g c =
    let admitted = (rw c.catalog.ensures.catalog at c.in_ok-bound.ensures) in
    subst (λ r. IfOk c.tree_of.result (λ bytes. bytes.items ≡ tree_or_same r c.args.explained.items)) (sym (sym admitted ∙ ap admitted_of c.in-Ok.is))
    (IfOk-weaker c.tree_of.result _ _ (λ bytes h. h ∙ ap₂ tree_of (ap entries_of c.as_slice.ensures) c.deref.ensures.value) c.tree_of.ensures)

pub returns-in-Err : goal.returns-in-Err
returns-in-Err g c =
    let admitted = (rw c.catalog.ensures.catalog at c.in_ok-bound.ensures) in
    sym (ap (λ r. tree_or_same r c.args.explained.items) (sym admitted ∙ ap admitted_of c.in-Err.is))
