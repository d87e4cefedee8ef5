use Rattle.std.proofs.Common.{◌≡◌, ◌∙◌, List, Result, Ok, map, refl, sym, ap}
use Rattle.memory.specs.declared.text.Items.{Items}
use Rattle.row_ast.specs.Ast as ast
use Rattle.row_ast.specs.View.{query_of, sort_key_of}
use Rattle.scope.specs.declared.error.BindError.{BindError}
use Rattle.expr.specs.declared.query.OutputKey.{OutputKey}
use Rattle.expr.specs.BoundQuery.{BoundItem, BoundQuery}
use Rattle.scope.specs.Entry.{Entry}
use Rattle.memory.specs.Results.{and_then, on_each}
use Rattle.expr.specs.View.{bound_item_of, bound_query_of}
use Rattle.scope.specs.View.{entry_of}
use Rattle.scope.proofs.Found.{failed}
use Rattle.resolve.specs.OrderBy.{output_key}
use Rattle.resolve.specs.Resolved.{Bound, ordered, with_order}
use Rattle.resolve.specs.View.{bound_of}
use Rattle.resolve.specs.declared.resolved.Bound as declared
use Rattle.resolve.proofs.resolved.ordered.Goals as goal

-- the query with its keys
abbrev given_keys : List Entry → BoundQuery → List OutputKey → Result Bound BindError
given_keys es b keys = Ok record { entries = es; query = with_order b keys }

module _ (es : List Entry) (q : ast.Query) (b : BoundQuery) (items : List BoundItem) (order : List ast.SortKey) (i : items ≡ b.items) (o : order ≡ q.order_by) where
  same_keys : on_each (output_key b.items) q.order_by ≡ on_each (output_key items) order
  same_keys = ap (λ l. on_each (output_key l) q.order_by) (sym i) ∙ ap (λ l. on_each (output_key items) l) (sym o)

  continued : and_then (on_each (output_key items) order) (given_keys es b) ≡ ordered es q b
  continued = ap (λ r. and_then r (given_keys es b)) (sym same_keys)

  with_keys : (keys : List OutputKey) (query : BoundQuery) → on_each (output_key items) order ≡ Ok keys → query ≡ with_order b keys → ordered es q b ≡ Ok (record { entries = es; query = query })
  with_keys keys query found e = rw (same_keys ∙ found, e) refl

pub returns-in-Ok : goal.returns-in-Ok
returns-in-Ok g c =
    with_keys (map (λ e. entry_of e) c.args.entries) (query_of c.args.query.now) (bound_query_of c.args.bound.value) (map (λ i. bound_item_of i) c.as_slice.result.now) (map (λ k. sort_key_of k) c.as_slice-2.result.now)
    (ap (λ l. map (λ i. bound_item_of i) l) (c.as_slice.ensures ∙ ap (λ b. b.items) c.deref.ensures)) (ap (λ l. map (λ k. sort_key_of k) l) c.as_slice-2.ensures) c.in-Ok.keys (bound_query_of c.with_order.result.value) c.in-Ok.ensures c.with_order.ensures

pub returns : goal.returns
returns g c =
    failed (λ (keys : Items OutputKey g.row.A.Denot). keys) (λ (b : declared.Bound g.row.A.Denot). bound_of b) c.in-Err.failure (on_each (output_key (map (λ i. bound_item_of i) c.as_slice.result.now)) (map (λ k. sort_key_of k) c.as_slice-2.result.now))
    (given_keys (map (λ e. entry_of e) c.args.entries) (bound_query_of c.args.bound.value)) (ordered (map (λ e. entry_of e) c.args.entries) (query_of c.args.query.now) (bound_query_of c.args.bound.value))
    (continued (map (λ e. entry_of e) c.args.entries) (query_of c.args.query.now) (bound_query_of c.args.bound.value) (map (λ i. bound_item_of i) c.as_slice.result.now) (map (λ k. sort_key_of k) c.as_slice-2.result.now)
    (ap (λ l. map (λ i. bound_item_of i) l) (c.as_slice.ensures ∙ ap (λ b. b.items) c.deref.ensures)) (ap (λ l. map (λ k. sort_key_of k) l) c.as_slice-2.ensures))
    c.in-Err.ensures
