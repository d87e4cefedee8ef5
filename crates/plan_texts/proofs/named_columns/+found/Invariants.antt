use Rattle.std.proofs.Common.{◌≡◌, ◌&&◌, ◌≤◌, drop, map}
use Rattle.row_ast.specs.View.{expr_of, exprs, arms as arms_of}
use Rattle.row_ast.specs.Weights.{weight, all_weight, arms_weight}
use Rattle.plan_texts.specs.Columns.{members_columns, arms_columns}
use Rattle.plan_texts.specs.Reading.{is_found}
use Rattle.plan_texts.specs.View.{plan_entry_of}
use Rattle.plan_texts.proofs.named_columns.+found.Given as goal

abbrev pub decreases-columns_found : goal.decreases-columns_found
decreases-columns_found g l = weight (expr_of l.expression.now)

abbrev pub decreases-members_found : goal.decreases-members_found
decreases-members_found g l = all_weight (exprs l.members.now)

abbrev pub decreases-arms_found : goal.decreases-arms_found
decreases-arms_found g l = arms_weight (arms_of l.arms.now)

abbrev pub invariant-members_found-loop-member : goal.invariant-members_found-loop-member
invariant-members_found-loop-member g l = record {
  rest : (l.known && members_columns (is_found (map plan_entry_of l.entries)) (exprs (drop l.member-index l.members))) ≡ members_columns (is_found (map plan_entry_of l.entries)) (exprs l.members);
  lighter : all_weight (exprs (drop l.member-index l.members)) ≤ all_weight (exprs l.members);
}

abbrev pub invariant-arms_found-loop-arm : goal.invariant-arms_found-loop-arm
invariant-arms_found-loop-arm g l = record {
  rest : (l.known && arms_columns (is_found (map plan_entry_of l.entries)) (arms_of (drop l.arm-index l.arms))) ≡ arms_columns (is_found (map plan_entry_of l.entries)) (arms_of l.arms);
  lighter : arms_weight (arms_of (drop l.arm-index l.arms)) ≤ arms_weight (arms_of l.arms);
}
