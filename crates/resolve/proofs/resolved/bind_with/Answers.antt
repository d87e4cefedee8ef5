use Rattle.std.proofs.Common.{refl, map}
use Rattle.row_ast.specs.View.{query_of}
use Rattle.scope.specs.View.{entry_of}
use Rattle.scope.proofs.Found.{failed, given}
use Rattle.resolve.specs.Resolved.{bound_checked, lefts_checked}
use Rattle.resolve.specs.View.{bound_of}
use Rattle.resolve.specs.declared.resolved.Bound.{Bound}
use Rattle.resolve.proofs.resolved.bind_with.Goals as goal

pub returns-in-Ok : goal.returns-in-Ok
returns-in-Ok g c =
    given (λ (b : Bound g.row.A.Denot). bound_of b) c.lefts_checked.result (bound_checked (query_of c.args.query.now) (map (λ e. entry_of e) c.args.entries)) (bound_of c.in-Ok.bound) lefts_checked c.in-Ok.ensures c.lefts_checked.ensures

pub returns-in-Err : goal.returns-in-Err
returns-in-Err g c =
    failed (λ (b : Bound g.row.A.Denot). bound_of b) (λ (b : Bound g.row.A.Denot). bound_of b) c.in-Err.failure (bound_checked (query_of c.args.query.now) (map (λ e. entry_of e) c.args.entries)) lefts_checked _ refl c.in-Err.ensures
