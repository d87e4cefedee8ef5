use Rattle.std.proofs.Common.{◌≡◌, ◌++◌, ◌∙◌, sym, ap, arith}
use Rattle.engine.specs.Analysis.{admitted}
use Rattle.engine.specs.Database.{rows_of}
use Rattle.engine.specs.Explained.{explained, explained_text}
use Rattle.setup.specs.PlanTree.{tree_or_same}
use Rattle.setup.proofs.PlanTree.{tree_status, tree_text}
use Rattle.setup.proofs.plan_tree.explained_tree.Goals as goal

pub returns : goal.returns
returns g c =
    let cat = c.args.store.now.catalog in
    let rows = rows_of c.args.store.now in
    let role = c.args.role.now in
    let text = c.args.text.now in
    let due = explained cat rows role text in
    let sent = c.explain-status.ensures.sent.answered (λ bad. omega arith) (λ bad. omega arith) in
    let bytes = sent.1 ∙ ap (λ xs. xs ++ explained_text due) c.new.ensures.items in
    (c.in_ok-tree.ensures ∙ ap (tree_or_same (admitted cat role text)) bytes ∙ sym (tree_text cat rows role text), sent.0 ∙ sym (tree_status cat rows role text), omega arith)
