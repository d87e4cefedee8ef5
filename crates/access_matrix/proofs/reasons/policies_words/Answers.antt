use Rattle.std.proofs.Common.{◌∙◌, sym}
use Rattle.std.specs.Prelude.{string_bytes}
use Rattle.row_objects.specs.View.{policy_of}
use Rattle.access.specs.Access.{applies}
use Rattle.access_matrix.proofs.Joined.{none_written, policies_over, policy_left, policy_next, same_ok, some_written}
use Rattle.access_matrix.proofs.reasons.policies_words.Goals.{then-applies+in_ok-push_next, else-applies}
use Rattle.access_matrix.proofs.reasons.policies_words.Goals as goal

pub loop-policy-preserved : goal.loop-policy-preserved
loop-policy-preserved g c = elim c.if-applies.branch [
  | then-applies+in_ok-push_next w ↦ rw w.words-is
      (policy_next (applies c.args.catalog.now c.args.role.now) (λ p. policy_of p) c.args.policies.now c.loop-policy.policy-index (string_bytes c.loop-policy.words) _ c.loop-policy.invariant
      c.policy-item.result c.loop-policy-test.true c.policy-item.is w.if-applies.ensures _ w.in_ok-push_next.ensures)
  | else-applies w ↦ rw w.words-is
      (policy_left (applies c.args.catalog.now c.args.role.now) (λ p. policy_of p) c.args.policies.now c.loop-policy.policy-index (string_bytes c.loop-policy.words) _ c.loop-policy.invariant
      c.policy-item.result c.loop-policy-test.true c.policy-item.is w.if-applies.ensures)
]

pub returns-then-is_empty : goal.returns-then-is_empty
returns-then-is_empty g c =
    same_ok (λ s. string_bytes s) c.from_str.result _ _
    (none_written (string_bytes c.loop-policy.words) (sym (rw c.as_str.ensures.value at c.if-is_empty.ensures))
    ∙ policies_over (applies c.args.catalog.now c.args.role.now) (λ p. policy_of p) c.args.policies.now c.loop-policy.policy-index (string_bytes c.loop-policy.words) _ c.loop-policy.invariant c.loop-policy-test.false)
    c.from_str.ensures.ok

pub returns : goal.returns
returns g c =
    some_written (string_bytes c.loop-policy.words) (sym (rw c.as_str.ensures.value at c.if-is_empty.ensures))
    ∙ policies_over (applies c.args.catalog.now c.args.role.now) (λ p. policy_of p) c.args.policies.now c.loop-policy.policy-index (string_bytes c.loop-policy.words) _ c.loop-policy.invariant c.loop-policy-test.false
