use Rattle.std.proofs.Common.{◌≡◌, ◌∷◌, ◌+◌, suc, ◌++◌, [], drop, drop-cons, map, refl, sym, ap, ◌∙◌, arith}
use Rattle.std.proofs.Math.ListN.{drop_of_length-le}
use Rattle.std.proofs.lemmas.List.{append-nil}
use Rattle.row_ast.specs.View.{expr_of}
use Rattle.plan_texts.specs.PlanTexts.{filter_lines, text_of_lines}
use Rattle.plan_texts.proofs.Written.{filter_next}
use Rattle.plan_texts.proofs.writing.push_filters.Goals as goal

pub loop-index-preserved : goal.loop-index-preserved
loop-index-preserved g c =
    let i = c.loop-index.index in
    let e = c.index-filters-index.result in
    let n : i + 1 ≡ suc i = omega arith in
    let split : drop i c.args.filters.now ≡ e ∷ drop (i + 1) c.args.filters.now = rw (n, drop-cons c.args.filters.now i e c.loop-index-test.true, ← c.index-filters-index.is) refl in
    filter_next c.loop-index.out.items c.push_str.new.out.items c.push_number.new.out.items c.push_str-in-loop-index.new.out.items c.push_expr.new.out.items c.push_str-in-loop-index-2.new.out.items _ (i + 1) (expr_of e) (map expr_of (drop (i + 1) c.args.filters.now))
    c.in_ok-push_str.ensures c.in_ok-push_number.ensures c.in_ok-push_str-2.ensures c.in_ok-push_expr.ensures c.in_ok-push_str-3.ensures
    (ap (λ fs. c.loop-index.out.items ++ text_of_lines (filter_lines (i + 1) (map expr_of fs))) (sym split) ∙ c.loop-index.invariant)

pub returns : goal.returns
returns g c =
    let over : drop c.loop-index.index c.args.filters.now ≡ [] = drop_of_length-le c.args.filters.now (omega (arith, c.loop-index-test.false)) in
    sym (append-nil c.loop-index.out.items) ∙ ap (λ fs. c.loop-index.out.items ++ text_of_lines (filter_lines (c.loop-index.index + 1) (map expr_of fs))) (sym over) ∙ c.loop-index.invariant
