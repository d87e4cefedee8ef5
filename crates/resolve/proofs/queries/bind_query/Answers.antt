use Rattle.std.proofs.Common.{subst, sym, ap, ◌∙◌, length, map, Ok, Err, Result, Box, List, Option}
use Rattle.std.specs.Prelude.{option_map}
use Rattle.std.proofs.lemmas.List.{length-map}
use Rattle.memory.specs.Gives.{Gives}
use Rattle.memory.specs.Results.{on_each}
use Rattle.memory.specs.declared.failure.Failure.TheVariants as failure
use Rattle.memory.specs.declared.text.Items.{Items}
use Rattle.row_ast.specs.View.{left_join_of, query_of}
use Rattle.expr.specs.View.{bound_expr_of, bound_item_of, bound_query_of}
use Rattle.expr.specs.declared.bound.ColumnId.{ColumnId}
use Rattle.expr.specs.declared.bound.BoundExpr.{BoundExpr}
use Rattle.scope.specs.declared.error.BindError.{BindError}
use Rattle.scope.specs.Lookup.{find_column}
use Rattle.scope.specs.View.{entry_of}
use Rattle.expr.specs.BoundQuery as spec
use Rattle.typing.specs.Clauses.{is_grouped}
use Rattle.resolve.specs.BoundQueries.{bound_query, bound_select, bound_ons, bound_condition}
use Rattle.expr.specs.declared.query.BoundQuery.{BoundQuery}
use Rattle.expr.specs.declared.query.BoundItem.{BoundItem}
use Rattle.resolve.proofs.Whole.{query_is, items_failed, ons_failed, filter_failed, columns_failed, having_failed, all_given}
use Rattle.memory.proofs.Cases.{exits}
use Rattle.resolve.proofs.queries.bind_query.Goals as goal

pub returns-in-Err : goal.returns-in-Err
returns-in-Err g c =
    subst (Gives (λ (b : Box (BoundQuery g.row.A.Denot) g.row.A.Denot). bound_query_of b.value) (Err c.in-Err.failure)) (query_is (map (λ e. entry_of e) c.args.entries.now) (query_of c.args.query.now) c.everywhere-scope.result c.everywhere-scope.ensures)
    (columns_failed (is_grouped (map (λ e. entry_of e) c.args.entries.now) (query_of c.args.query.now)) (length (query_of c.args.query.now).lefts) (query_of c.args.query.now).limit (bound_select (map (λ e. entry_of e) c.args.entries.now) c.everywhere-scope.result (query_of c.args.query.now).select) (bound_ons (map (λ e. entry_of e) c.args.entries.now) 0 (map (λ e. entry_of e) c.args.entries.now)) (bound_condition (map (λ e. entry_of e) c.args.entries.now) c.everywhere-scope.result (query_of c.args.query.now).filter) (on_each (find_column (map (λ e. entry_of e) c.args.entries.now) c.everywhere-scope.result) (query_of c.args.query.now).group_by) (bound_condition (map (λ e. entry_of e) c.args.entries.now) c.everywhere-scope.result (query_of c.args.query.now).having) _ _ _ c.in_ok-items.ensures c.in_ok-ons.ensures c.in_ok-filter.ensures
    (λ (ids : List ColumnId). ids) (λ (b : Box (BoundQuery g.row.A.Denot) g.row.A.Denot). bound_query_of b.value) c.in-Err.failure (rw c.as_slice.ensures at c.in-Err.ensures))

pub returns-in-Err-bind_optional : goal.returns-in-Err-bind_optional
returns-in-Err-bind_optional g c =
    subst (Gives (λ (b : Box (BoundQuery g.row.A.Denot) g.row.A.Denot). bound_query_of b.value) (Err c.in-Err-bind_optional.failure)) (query_is (map (λ e. entry_of e) c.args.entries.now) (query_of c.args.query.now) c.everywhere-scope.result c.everywhere-scope.ensures)
    (having_failed (is_grouped (map (λ e. entry_of e) c.args.entries.now) (query_of c.args.query.now)) (length (query_of c.args.query.now).lefts) (query_of c.args.query.now).limit (bound_select (map (λ e. entry_of e) c.args.entries.now) c.everywhere-scope.result (query_of c.args.query.now).select) (bound_ons (map (λ e. entry_of e) c.args.entries.now) 0 (map (λ e. entry_of e) c.args.entries.now)) (bound_condition (map (λ e. entry_of e) c.args.entries.now) c.everywhere-scope.result (query_of c.args.query.now).filter) (on_each (find_column (map (λ e. entry_of e) c.args.entries.now) c.everywhere-scope.result) (query_of c.args.query.now).group_by) (bound_condition (map (λ e. entry_of e) c.args.entries.now) c.everywhere-scope.result (query_of c.args.query.now).having) _ _ _ c.in_ok-items.ensures c.in_ok-ons.ensures c.in_ok-filter.ensures _ (rw c.as_slice.ensures at c.in-Ok.ensures)
    (λ (o : Option (Box (BoundExpr g.row.A.Denot) g.row.A.Denot)). option_map (λ b. bound_expr_of b.value) o) (λ (b : Box (BoundQuery g.row.A.Denot) g.row.A.Denot). bound_query_of b.value) c.in-Err-bind_optional.failure c.in-Err-bind_optional.ensures)

pub returns : goal.returns
returns g c =
    sym (query_is (map (λ e. entry_of e) c.args.entries.now) (query_of c.args.query.now) c.everywhere-scope.result c.everywhere-scope.ensures)
    ∙ all_given (is_grouped (map (λ e. entry_of e) c.args.entries.now) (query_of c.args.query.now)) (length (query_of c.args.query.now).lefts) (query_of c.args.query.now).limit (bound_select (map (λ e. entry_of e) c.args.entries.now) c.everywhere-scope.result (query_of c.args.query.now).select) (bound_ons (map (λ e. entry_of e) c.args.entries.now) 0 (map (λ e. entry_of e) c.args.entries.now)) (bound_condition (map (λ e. entry_of e) c.args.entries.now) c.everywhere-scope.result (query_of c.args.query.now).filter) (on_each (find_column (map (λ e. entry_of e) c.args.entries.now) c.everywhere-scope.result) (query_of c.args.query.now).group_by) (bound_condition (map (λ e. entry_of e) c.args.entries.now) c.everywhere-scope.result (query_of c.args.query.now).having) _ _ _ c.in_ok-items.ensures c.in_ok-ons.ensures c.in_ok-filter.ensures _ (rw c.as_slice.ensures at c.in-Ok.ensures) _ c.in-Ok-bind_optional.ensures _ c.is_grouped.ensures _ (c.len.ensures ∙ sym (length-map c.args.query.now.lefts (λ l. left_join_of l))) _ c.new.ensures
    ∙ ap (λ x. let r : Result spec.BoundQuery BindError = Ok (bound_query_of x) in r) (sym c.in_ok-boxed.ensures)

pub returns-in_err-items : goal.returns-in_err-items
returns-in_err-items g c =
    exits (λ (b : Box (BoundQuery g.row.A.Denot) g.row.A.Denot). bound_query_of b.value) c.from_residual.result c.in_err-items.field-0.0 (bound_query (map (λ e. entry_of e) c.args.entries.now) (query_of c.args.query.now)) c.from_residual.ensures.1
    (subst (Gives (λ (b : Box (BoundQuery g.row.A.Denot) g.row.A.Denot). bound_query_of b.value) (Err c.in_err-items.field-0.0)) (query_is (map (λ e. entry_of e) c.args.entries.now) (query_of c.args.query.now) c.everywhere-scope.result c.everywhere-scope.ensures)
    (items_failed (is_grouped (map (λ e. entry_of e) c.args.entries.now) (query_of c.args.query.now)) (length (query_of c.args.query.now).lefts) (query_of c.args.query.now).limit (bound_select (map (λ e. entry_of e) c.args.entries.now) c.everywhere-scope.result (query_of c.args.query.now).select) (bound_ons (map (λ e. entry_of e) c.args.entries.now) 0 (map (λ e. entry_of e) c.args.entries.now)) (bound_condition (map (λ e. entry_of e) c.args.entries.now) c.everywhere-scope.result (query_of c.args.query.now).filter) (on_each (find_column (map (λ e. entry_of e) c.args.entries.now) c.everywhere-scope.result) (query_of c.args.query.now).group_by) (bound_condition (map (λ e. entry_of e) c.args.entries.now) c.everywhere-scope.result (query_of c.args.query.now).having) (λ (l : Items (BoundItem g.row.A.Denot) g.row.A.Denot). map (λ i. bound_item_of i) l) (λ (b : Box (BoundQuery g.row.A.Denot) g.row.A.Denot). bound_query_of b.value) c.in_err-items.field-0.0 c.in_err-items.ensures))

pub returns-in_err-ons : goal.returns-in_err-ons
returns-in_err-ons g c =
    exits (λ (b : Box (BoundQuery g.row.A.Denot) g.row.A.Denot). bound_query_of b.value) c.from_residual-in_err-ons.result c.in_err-ons.field-0.0 (bound_query (map (λ e. entry_of e) c.args.entries.now) (query_of c.args.query.now)) c.from_residual-in_err-ons.ensures.1
    (subst (Gives (λ (b : Box (BoundQuery g.row.A.Denot) g.row.A.Denot). bound_query_of b.value) (Err c.in_err-ons.field-0.0)) (query_is (map (λ e. entry_of e) c.args.entries.now) (query_of c.args.query.now) c.everywhere-scope.result c.everywhere-scope.ensures)
    (ons_failed (is_grouped (map (λ e. entry_of e) c.args.entries.now) (query_of c.args.query.now)) (length (query_of c.args.query.now).lefts) (query_of c.args.query.now).limit (bound_select (map (λ e. entry_of e) c.args.entries.now) c.everywhere-scope.result (query_of c.args.query.now).select) (bound_ons (map (λ e. entry_of e) c.args.entries.now) 0 (map (λ e. entry_of e) c.args.entries.now)) (bound_condition (map (λ e. entry_of e) c.args.entries.now) c.everywhere-scope.result (query_of c.args.query.now).filter) (on_each (find_column (map (λ e. entry_of e) c.args.entries.now) c.everywhere-scope.result) (query_of c.args.query.now).group_by) (bound_condition (map (λ e. entry_of e) c.args.entries.now) c.everywhere-scope.result (query_of c.args.query.now).having) _ c.in_ok-items.ensures (λ (l : Items (Option (Box (BoundExpr g.row.A.Denot) g.row.A.Denot)) g.row.A.Denot). map (λ o. option_map (λ b. bound_expr_of b.value) o) l) (λ (b : Box (BoundQuery g.row.A.Denot) g.row.A.Denot). bound_query_of b.value) c.in_err-ons.field-0.0 c.in_err-ons.ensures))

pub returns-in_err-filter : goal.returns-in_err-filter
returns-in_err-filter g c =
    exits (λ (b : Box (BoundQuery g.row.A.Denot) g.row.A.Denot). bound_query_of b.value) c.from_residual-in_err-filter.result c.in_err-filter.field-0.0 (bound_query (map (λ e. entry_of e) c.args.entries.now) (query_of c.args.query.now)) c.from_residual-in_err-filter.ensures.1
    (subst (Gives (λ (b : Box (BoundQuery g.row.A.Denot) g.row.A.Denot). bound_query_of b.value) (Err c.in_err-filter.field-0.0)) (query_is (map (λ e. entry_of e) c.args.entries.now) (query_of c.args.query.now) c.everywhere-scope.result c.everywhere-scope.ensures)
    (filter_failed (is_grouped (map (λ e. entry_of e) c.args.entries.now) (query_of c.args.query.now)) (length (query_of c.args.query.now).lefts) (query_of c.args.query.now).limit (bound_select (map (λ e. entry_of e) c.args.entries.now) c.everywhere-scope.result (query_of c.args.query.now).select) (bound_ons (map (λ e. entry_of e) c.args.entries.now) 0 (map (λ e. entry_of e) c.args.entries.now)) (bound_condition (map (λ e. entry_of e) c.args.entries.now) c.everywhere-scope.result (query_of c.args.query.now).filter) (on_each (find_column (map (λ e. entry_of e) c.args.entries.now) c.everywhere-scope.result) (query_of c.args.query.now).group_by) (bound_condition (map (λ e. entry_of e) c.args.entries.now) c.everywhere-scope.result (query_of c.args.query.now).having) _ c.in_ok-items.ensures _ c.in_ok-ons.ensures (λ (o : Option (Box (BoundExpr g.row.A.Denot) g.row.A.Denot)). option_map (λ b. bound_expr_of b.value) o) (λ (b : Box (BoundQuery g.row.A.Denot) g.row.A.Denot). bound_query_of b.value) c.in_err-filter.field-0.0 c.in_err-filter.ensures))

pub returns-in_err-boxed : goal.returns-in_err-boxed
returns-in_err-boxed g c = exits (λ (b : Box (BoundQuery g.row.A.Denot) g.row.A.Denot). bound_query_of b.value) c.from_residual-in_err-boxed.result failure.OutOfMemory _ c.from_residual-in_err-boxed.ensures.1 tt
