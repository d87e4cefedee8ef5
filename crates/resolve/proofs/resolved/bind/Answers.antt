use Rattle.std.proofs.Common.{map}
use Rattle.row_ast.specs.View.{query_of}
use Rattle.scope.specs.View.{entry_of}
use Rattle.scope.proofs.Found.{given}
use Rattle.resolve.specs.Entries.{entries}
use Rattle.resolve.specs.Resolved.{bound_with}
use Rattle.resolve.specs.View.{bound_of}
use Rattle.resolve.proofs.resolved.bind.Goals as goal

pub returns-in-Ok : goal.returns-in-Ok
returns-in-Ok g c =
    given (λ b. bound_of b) c.bind_with.result (entries c.args.catalog.now (query_of c.args.query.now)) (map (λ e. entry_of e) c.in-Ok.entries) (bound_with (query_of c.args.query.now))
    c.in-Ok.ensures c.bind_with.ensures
