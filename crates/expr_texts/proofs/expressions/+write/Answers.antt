use Rattle.std.proofs.Common.{◌+◌, ◌++◌, drop, codes, ap, sym, ◌∙◌, arith}
use Rattle.std.proofs.lemmas.List.{append-nil}
use Rattle.std.proofs.lemmas.Result.{on_ok_weaker}
use Rattle.row_ast.specs.Ast as ast
use Rattle.row_ast.specs.View.{expr_of, exprs, arms}
use Rattle.row_ast.specs.Weights.{weight}
use Rattle.row_ast.proofs.Operands.{comparison_is}
use Rattle.expr_texts.specs.ExprTexts.{expr_text, members_text, further_text, arms_text}
use Rattle.row_ast.proofs.Walks.{and_is, or_is, case_none, case_other, case_lighter, exprs_over, exprs_step, exprs_still, arms_over, arms_step, arms_still}
use Rattle.expr_texts.proofs.Written.{enclosed, compared, cased, with_else, member_next, arm_next, no_some}
use Rattle.expr_texts.proofs.expressions.+write.Goals.{push_expr-in-Some+in_ok-push_str-in-Case-2+in_ok-push_expr-in-Case, push_expr-in_default}
use Rattle.expr_texts.proofs.expressions.+write.Goals as goal

pub push_arms-loop-next-preserved : goal.push_arms-loop-next-preserved
push_arms-loop-next-preserved g t c =
    let step = arms_step c.args.arms.now c.loop-next.next-index c.next-item.result c.loop-next-test.true c.next-item.is in
    record {
      rest = arm_next c.loop-next.out.items c.push_str.new.out.items c.push_expr.new.out.items c.push_str-in-loop-next.new.out.items c.push_expr-in-loop-next.new.out.items _ (expr_of c.next-item.result.when) (expr_of c.next-item.result.result) (arms (drop (c.loop-next.next-index + 1) c.args.arms.now)) c.in_ok-push_str.ensures c.in_ok-push_expr.ensures c.in_ok-push_str-2.ensures c.in_ok-push_expr-2.ensures (ap (λ as_. c.loop-next.out.items ++ arms_text as_) (sym step) ∙ c.loop-next.invariant.rest);
      lighter = arms_still c.args.arms.now c.loop-next.next-index c.next-item.result c.loop-next-test.true c.next-item.is c.loop-next.invariant.lighter;
    }

pub push_arms-returns : goal.push_arms-returns
push_arms-returns g t c =
    sym (append-nil c.loop-next.out.items) ∙ ap (λ as_. c.loop-next.out.items ++ arms_text as_) (sym (arms_over c.args.arms.now c.loop-next.next-index (omega (arith, c.loop-next-test.false)))) ∙ c.loop-next.invariant.rest

pub push_further-loop-member-preserved : goal.push_further-loop-member-preserved
push_further-loop-member-preserved g t c =
    let step = exprs_step c.args.members.now c.loop-member.member-index c.member-item.result c.loop-member-test.true c.member-item.is in
    record {
      rest = member_next c.loop-member.out.items c.push_str.new.out.items c.push_expr.new.out.items _ c.args.word.now (expr_of c.member-item.result) (exprs (drop (c.loop-member.member-index + 1) c.args.members.now)) c.in_ok-push_str.ensures c.in_ok-push_expr.ensures (ap (λ es. c.loop-member.out.items ++ further_text c.args.word.now es) (sym step) ∙ c.loop-member.invariant.rest);
      lighter = exprs_still c.args.members.now c.loop-member.member-index c.member-item.result c.loop-member-test.true c.member-item.is c.loop-member.invariant.lighter;
    }

pub push_further-returns : goal.push_further-returns
push_further-returns g t c =
    sym (append-nil c.loop-member.out.items) ∙ ap (λ es. c.loop-member.out.items ++ further_text c.args.word.now es) (sym (exprs_over c.args.members.now c.loop-member.member-index (omega (arith, c.loop-member-test.false)))) ∙ c.loop-member.invariant.rest

-- ---- measures

pub push_expr-push_members-requires : goal.push_expr-push_members-requires
push_expr-push_members-requires g t c κs within =
    let w = ap weight (and_is c.args.expression.now c.in-And.offset c.in-And.members c.deref-in-And.result.now c.deref-in-And.ensures.value c.in-And.is) in (omega (arith, c.decreases, w), within)

pub push_expr-push_members-requires-in-Or : goal.push_expr-push_members-requires-in-Or
push_expr-push_members-requires-in-Or g t c κs within =
    let w = ap weight (or_is c.args.expression.now c.in-Or.offset c.in-Or.members c.deref-in-Or.result.now c.deref-in-Or.ensures.value c.in-Or.is) in (omega (arith, c.decreases, w), within)

pub push_expr-push_arms-requires : goal.push_expr-push_arms-requires
push_expr-push_arms-requires g t c κs within =
    let w = case_lighter c.args.expression.now c.in-Case.offset c.in-Case.arms c.deref-in-Case.result.now c.deref-in-Case.ensures.value c.in-Case.otherwise c.in-Case.is in (omega (arith, c.decreases, w), within)

-- ---- nodes

pub push_expr-returns-in_ok-push_expr-in-Comparison-2 : goal.push_expr-returns-in_ok-push_expr-in-Comparison-2
push_expr-returns-in_ok-push_expr-in-Comparison-2 g t c =
    let view =
    comparison_is c.args.expression.now c.in-Comparison.offset c.in-Comparison.left c.in-Comparison.right c.deref.result.now c.deref.ensures c.deref-in-Comparison.result.now c.deref-in-Comparison.ensures c.in-Comparison.operator
    c.in-Comparison.is in
    on_ok_weaker c.push_str-in-Comparison-2.result
    (λ last. compared _ _ _ _ _ _ c.in-Comparison.operator c.in-Comparison.offset (expr_of c.deref.result.now) (expr_of c.deref-in-Comparison.result.now) c.in_ok-push_str-in-Comparison.ensures c.in_ok-push_expr-in-Comparison.ensures c.in_ok-push_sign-in-Comparison.ensures c.in_ok-push_expr-in-Comparison-2.ensures last
    ∙ ap (λ e. c.args.out.now.items ++ expr_text e) (sym view))
    c.push_str-in-Comparison-2.ensures

pub push_expr-returns-in_ok-push_members-in-And : goal.push_expr-returns-in_ok-push_members-in-And
push_expr-returns-in_ok-push_members-in-And g t c =
    let view = and_is c.args.expression.now c.in-And.offset c.in-And.members c.deref-in-And.result.now c.deref-in-And.ensures.value c.in-And.is in
    on_ok_weaker c.push_str-in-And-2.result
    (λ last. enclosed _ _ _ _ (members_text (codes " AND ") (exprs c.deref-in-And.result.now)) c.in_ok-push_str-in-And.ensures c.in_ok-push_members-in-And.ensures last ∙ ap (λ e. c.args.out.now.items ++ expr_text e) (sym view))
    c.push_str-in-And-2.ensures

pub push_expr-returns-in_ok-push_members-in-Or : goal.push_expr-returns-in_ok-push_members-in-Or
push_expr-returns-in_ok-push_members-in-Or g t c =
    let view = or_is c.args.expression.now c.in-Or.offset c.in-Or.members c.deref-in-Or.result.now c.deref-in-Or.ensures.value c.in-Or.is in
    on_ok_weaker c.push_str-in-Or-2.result
    (λ last. enclosed _ _ _ _ (members_text (codes " OR ") (exprs c.deref-in-Or.result.now)) c.in_ok-push_str-in-Or.ensures c.in_ok-push_members-in-Or.ensures last ∙ ap (λ e. c.args.out.now.items ++ expr_text e) (sym view))
    c.push_str-in-Or-2.ensures

pub push_expr-returns-after-otherwise : goal.push_expr-returns-after-otherwise
push_expr-returns-after-otherwise g t c = elim c.match-otherwise.branch [
  | push_expr-in-Some+in_ok-push_str-in-Case-2+in_ok-push_expr-in-Case w ↦
      (let view = case_other c.args.expression.now c.in-Case.offset c.in-Case.arms c.deref-in-Case.result.now c.deref-in-Case.ensures.value c.in-Case.otherwise c.in-Case.is w.in-Some.value w.in-Some.is w.deref-in-Some.result.now w.deref-in-Some.ensures in
      let else_ = ap (λ v. v.items) w.out-is ∙ with_else _ _ _ (expr_of w.deref-in-Some.result.now) w.in_ok-push_str-in-Case-2.ensures w.in_ok-push_expr-in-Case.ensures in
      on_ok_weaker c.push_str-in-Case-2.result
      (λ last. cased _ _ _ _ _ c.in-Case.offset (arms c.deref-in-Case.result.now) (ast.Value (expr_of w.deref-in-Some.result.now)) c.in_ok-push_str-in-Case.ensures c.in_ok-push_arms-in-Case.ensures else_ last
      ∙ ap (λ e. c.args.out.now.items ++ expr_text e) (sym view))
      c.push_str-in-Case-2.ensures)
  | push_expr-in_default w ↦
      (let view = case_none c.args.expression.now c.in-Case.offset c.in-Case.arms c.deref-in-Case.result.now c.deref-in-Case.ensures.value c.in-Case.otherwise c.in-Case.is (no_some c.in-Case.otherwise w.in_default.not-Some) in
      let else_ = ap (λ v. v.items) w.out-is ∙ sym (append-nil c.push_arms.new.out.items) in
      on_ok_weaker c.push_str-in-Case-2.result
      (λ last. cased _ _ _ _ _ c.in-Case.offset (arms c.deref-in-Case.result.now) ast.Nothing c.in_ok-push_str-in-Case.ensures c.in_ok-push_arms-in-Case.ensures else_ last ∙ ap (λ e. c.args.out.now.items ++ expr_text e) (sym view))
      c.push_str-in-Case-2.ensures)
]
