use Rattle.std.proofs.Common.{◌++◌, codes, map, sym, ap, ◌∙◌}
use Rattle.std.proofs.lemmas.Result.{on_ok_weaker}
use Rattle.row_ast.specs.View.{expr_of}
use Rattle.plan_trees.specs.PlanTrees.{column_text, filter_text, relation, scan_title}
use Rattle.plan_trees.specs.View.{source_of}
use Rattle.plan_trees.proofs.Written.{two, four}
use Rattle.plan_trees.proofs.titles.push_scan_title.Goals as goal

pub returns-in_ok-push_str-in-Full : goal.returns-in_ok-push_str-in-Full
returns-in_ok-push_str-in-Full g c =
    let o = c.args.out.now.items in
    let q = source_of c.args.source.now in
    on_ok_weaker c.push_relation.result
    (λ h. two o c.push_str.new.out.items _ (codes "Seq Scan on ") (relation q c.args.entry) c.in_ok-push_str-in-Full.ensures h ∙ ap (λ a. o ++ scan_title q c.args.entry a) (sym c.in-Full.is))
    c.push_relation.ensures

pub returns-in_ok-push_str-in-Index-2 : goal.returns-in_ok-push_str-in-Index-2
returns-in_ok-push_str-in-Index-2 g c =
    let o = c.args.out.now.items in
    let q = source_of c.args.source.now in
    on_ok_weaker c.push_column.result
    (λ h. four o c.push_str-in-Index.new.out.items c.push_relation-in-Index.new.out.items c.push_str-in-Index-2.new.out.items _ (codes "Index Scan on ") (relation q c.args.entry) (codes "  ") (column_text q c.args.entry c.in-Index.column)
    c.in_ok-push_str-in-Index.ensures c.in_ok-push_relation-in-Index.ensures c.in_ok-push_str-in-Index-2.ensures h
    ∙ ap (λ a. o ++ scan_title q c.args.entry a) (sym c.in-Index.is))
    c.push_column.ensures

pub returns-in_ok-push_str-in-Range-2 : goal.returns-in_ok-push_str-in-Range-2
returns-in_ok-push_str-in-Range-2 g c =
    let o = c.args.out.now.items in
    let q = source_of c.args.source.now in
    on_ok_weaker c.push_filter.result
    (λ h. four o c.push_str-in-Range.new.out.items c.push_relation-in-Range.new.out.items c.push_str-in-Range-2.new.out.items _ (codes "Index Scan on ") (relation q c.args.entry) (codes "  ") (filter_text q.plan.filters c.in-Range.bound)
    c.in_ok-push_str-in-Range.ensures c.in_ok-push_relation-in-Range.ensures c.in_ok-push_str-in-Range-2.ensures
    (h ∙ ap (λ es. c.push_str-in-Range-2.new.out.items ++ filter_text (map expr_of es) c.in-Range.bound) c.as_slice.ensures)
    ∙ ap (λ a. o ++ scan_title q c.args.entry a) (sym c.in-Range.is))
    c.push_filter.ensures
