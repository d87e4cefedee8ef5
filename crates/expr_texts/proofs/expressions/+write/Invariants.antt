use Rattle.std.proofs.Common.{◌≡◌, ◌≤◌, ◌++◌, drop}
use Rattle.row_ast.specs.View.{expr_of, exprs, arms}
use Rattle.row_ast.specs.Weights.{weight, all_weight, arms_weight}
use Rattle.expr_texts.specs.ExprTexts.{further_text, arms_text}
use Rattle.expr_texts.proofs.expressions.+write.Given as goal

abbrev pub decreases-push_expr : goal.decreases-push_expr
decreases-push_expr g l = weight (expr_of l.expression.now)

abbrev pub decreases-push_members : goal.decreases-push_members
decreases-push_members g l = all_weight (exprs l.members.now)

abbrev pub decreases-push_further : goal.decreases-push_further
decreases-push_further g l = all_weight (exprs l.members.now)

abbrev pub decreases-push_arms : goal.decreases-push_arms
decreases-push_arms g l = arms_weight (arms l.arms.now)

abbrev pub invariant-push_further-loop-member : goal.invariant-push_further-loop-member
invariant-push_further-loop-member g l = record {
  rest : l.out.items ++ further_text l.word (exprs (drop l.member-index l.members)) ≡ l.fn.out.items ++ further_text l.word (exprs l.members);
  lighter : all_weight (exprs (drop l.member-index l.members)) ≤ all_weight (exprs l.members);
}

abbrev pub invariant-push_arms-loop-next : goal.invariant-push_arms-loop-next
invariant-push_arms-loop-next g l = record {
  rest : l.out.items ++ arms_text (arms (drop l.next-index l.arms)) ≡ l.fn.out.items ++ arms_text (arms l.arms);
  lighter : arms_weight (arms (drop l.next-index l.arms)) ≤ arms_weight (arms l.arms);
}
