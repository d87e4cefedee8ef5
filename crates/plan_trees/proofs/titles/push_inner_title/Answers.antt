use Rattle.std.proofs.Common.{◌++◌, codes, map, sym, ap, ◌∙◌}
use Rattle.std.proofs.lemmas.Result.{on_ok_weaker}
use Rattle.row_ast.specs.View.{expr_of}
use Rattle.plan_trees.specs.PlanTrees.{filter_text, inner_title}
use Rattle.plan_trees.proofs.Written.{two}
use Rattle.plan_trees.proofs.titles.push_inner_title.Goals as goal

pub returns-in-Nested : goal.returns-in-Nested
returns-in-Nested g c = on_ok_weaker c.push_str.result (λ h. h ∙ ap (λ m. c.args.out.now.items ++ inner_title (map expr_of c.args.filters.now) m) (sym c.in-Nested.is)) c.push_str.ensures

pub returns-in_ok-push_str-in-Hash : goal.returns-in_ok-push_str-in-Hash
returns-in_ok-push_str-in-Hash g c =
    let fs = map expr_of c.args.filters.now in
    on_ok_weaker c.push_filter.result
    (λ h. two c.args.out.now.items c.push_str-in-Hash.new.out.items _ (codes "Hash Join  ") (filter_text fs c.in-Hash.conjunct) c.in_ok-push_str-in-Hash.ensures h ∙ ap (λ m. c.args.out.now.items ++ inner_title fs m) (sym c.in-Hash.is))
    c.push_filter.ensures

pub returns-in_ok-push_str-in-Merge : goal.returns-in_ok-push_str-in-Merge
returns-in_ok-push_str-in-Merge g c =
    let fs = map expr_of c.args.filters.now in
    on_ok_weaker c.push_filter-in-Merge.result
    (λ h. two c.args.out.now.items c.push_str-in-Merge.new.out.items _ (codes "Merge Join  ") (filter_text fs c.in-Merge.conjunct) c.in_ok-push_str-in-Merge.ensures h ∙ ap (λ m. c.args.out.now.items ++ inner_title fs m) (sym c.in-Merge.is))
    c.push_filter-in-Merge.ensures
