use Rattle.std.proofs.Common.{◌≡◌, ◌∷◌, ◌&&◌, ◌≤◌, drop, map}
use Rattle.row_ast.specs.View.{expr_of, exprs, arms as arms_of}
use Rattle.row_ast.specs.Weights.{weight, all_weight, arms_weight}
use Rattle.plan_texts.specs.Columns.{members_columns, arms_columns}
use Rattle.row_ast.specs.Ast.{ColumnRef}
use Rattle.plan_texts.specs.View.{plan_entry_of}
use Rattle.plan_trees.specs.PlanTrees.{is_of}
use Rattle.plan_trees.proofs.named_entries.+named.Given as goal

abbrev pub decreases-names_only : goal.decreases-names_only
decreases-names_only g l = weight (expr_of l.expression.now)

abbrev pub decreases-members_named : goal.decreases-members_named
decreases-members_named g l = all_weight (exprs l.members.now)

abbrev pub decreases-arms_named : goal.decreases-arms_named
decreases-arms_named g l = arms_weight (arms_of l.arms.now)

abbrev pub invariant-members_named-loop-member : goal.invariant-members_named-loop-member
invariant-members_named-loop-member g l = record {
  rest : (l.known && members_columns (λ (x : ColumnRef). is_of (map plan_entry_of l.entries) (l.step ∷ l.before) x.table) (exprs (drop l.member-index l.members))) ≡ members_columns (λ (x : ColumnRef). is_of (map plan_entry_of l.entries) (l.step ∷ l.before) x.table) (exprs l.members);
  lighter : all_weight (exprs (drop l.member-index l.members)) ≤ all_weight (exprs l.members);
}

abbrev pub invariant-arms_named-loop-arm : goal.invariant-arms_named-loop-arm
invariant-arms_named-loop-arm g l = record {
  rest : (l.known && arms_columns (λ (x : ColumnRef). is_of (map plan_entry_of l.entries) (l.step ∷ l.before) x.table) (arms_of (drop l.arm-index l.arms))) ≡ arms_columns (λ (x : ColumnRef). is_of (map plan_entry_of l.entries) (l.step ∷ l.before) x.table) (arms_of l.arms);
  lighter : arms_weight (arms_of (drop l.arm-index l.arms)) ≤ arms_weight (arms_of l.arms);
}
