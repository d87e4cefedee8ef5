use Rattle.std.proofs.Common.{◌≡◌, ◌++◌, ◌∙◌, ◌+◌, ◌≤◌, suc, length, sym, ap, arith}
use Rattle.std.proofs.lemmas.List.{append-nil}
use Rattle.std.proofs.lemmas.Result.{on_ok_weaker}
use Rattle.plan_trees.specs.PlanTrees.{steps_text}
use Rattle.plan_trees.specs.View.{source_of}
use Rattle.plan_trees.proofs.Trees.{none_there, steps_more, steps_one}
use Rattle.plan_trees.proofs.Written.{three}
use Rattle.plan_trees.proofs.writing.+push_steps.Goals as goal

pub returns-in-empty : goal.returns-in-empty
returns-in-empty g t c =
    let q = source_of c.args.source.now in
    sym (append-nil c.args.out.now.items) ∙ ap (λ ss. c.args.out.now.items ++ steps_text q c.args.depth ss) (sym (none_there c.args.steps.now c.in-empty.len_below))

pub returns-in-len1 : goal.returns-in-len1
returns-in-len1 g t c =
    let q = source_of c.args.source.now in
    let one : length c.args.steps.now ≡ 1 = omega arith in
    on_ok_weaker c.push_node.result (λ h. h ∙ ap (λ text. c.args.out.now.items ++ text) (sym (steps_one q c.args.depth _ c.args.steps.now one))) c.push_node.ensures

pub returns-in_ok-push_steps-in-len1-up : goal.returns-in_ok-push_steps-in-len1-up
returns-in_ok-push_steps-in-len1-up g t c =
    let q = source_of c.args.source.now in
    let two : 2 ≤ length c.args.steps.now = omega arith in
    let next : c.args.depth + 1 ≡ suc c.args.depth = omega arith in
    on_ok_weaker c.push_node-in-len1-up-2.result
    (λ h. three c.args.out.now.items c.push_node-in-len1-up.new.out.items c.push_steps.new.out.items _ _ _ _ c.in_ok-push_node-in-len1-up.ensures c.in_ok-push_steps-in-len1-up.ensures h
    ∙ ap (λ text. c.args.out.now.items ++ text) (sym (steps_more q c.args.depth _ c.args.steps.now (c.args.depth + 1) two next)))
    c.push_node-in-len1-up-2.ensures
