use Rattle.std.proofs.Common.{◌≡◌, ◌∙◌, sym, subst, ap}
use Rattle.std.specs.Result.{IfOk}
use Rattle.memory.specs.Results.{and_then}
use Rattle.engine.specs.Analysis.{admitted_query}
use Rattle.engine.specs.AnalysisView.{read_of}
use Rattle.setup.specs.PlanTree.{tree_or_same}
use Rattle.setup.proofs.plan_tree.tree_of_text.Goals as goal

pub returns-in-Ok : goal.returns-in-Ok
returns-in-Ok g c =
    let cat = c.args.store.now.catalog in
    let role = c.args.role.now in
    let read = (rw c.catalog.ensures.catalog at c.in_ok-query.ensures.read) in
    subst (λ r. IfOk c.tree_of_query-tree.result (λ bytes. bytes.items ≡ tree_or_same (and_then r (admitted_query cat role)) c.args.explained.items)) (sym (sym read ∙ ap read_of c.in-Ok.is)) c.tree_of_query-tree.ensures

pub returns : goal.returns
returns g c =
    let cat = c.args.store.now.catalog in
    let role = c.args.role.now in
    let read = (rw c.catalog.ensures.catalog at c.in_ok-query.ensures.read) in
    sym (ap (λ r. tree_or_same (and_then r (admitted_query cat role)) c.args.explained.items) (sym read ∙ ap read_of c.in-Err.is))
