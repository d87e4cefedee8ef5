use Rattle.std.proofs.Common.{refl, map, Box}
use Rattle.row_ast.specs.View.{query_of}
use Rattle.expr.specs.View.{bound_query_of}
use Rattle.scope.specs.View.{entry_of}
use Rattle.expr.specs.declared.query.BoundQuery.{BoundQuery}
use Rattle.scope.proofs.Found.{failed}
use Rattle.resolve.specs.BoundQueries.{bound_query}
use Rattle.resolve.specs.Resolved.{checked}
use Rattle.resolve.specs.View.{bound_of}
use Rattle.resolve.specs.declared.resolved.Bound.{Bound}
use Rattle.resolve.proofs.resolved.bind_checked.Goals as goal

pub returns : goal.returns
returns g c =
    failed (λ (b : Box (BoundQuery g.row.A.Denot) g.row.A.Denot). bound_query_of b.value) (λ (b : Bound g.row.A.Denot). bound_of b) c.in-Err.failure
    (bound_query (map (λ e. entry_of e) c.args.entries) (query_of c.args.query.now)) (checked (map (λ e. entry_of e) c.args.entries) (query_of c.args.query.now)) _ refl (rw c.as_slice.ensures at c.in-Err.ensures)
