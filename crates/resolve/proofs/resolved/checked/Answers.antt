use Rattle.std.proofs.Common.{subst, sym, map, ◌∙◌}
use Rattle.memory.specs.Gives.{Gives}
use Rattle.row_ast.specs.View.{query_of}
use Rattle.expr.specs.View.{bound_query_of}
use Rattle.scope.specs.View.{entry_of}
use Rattle.typing.specs.Clauses.{clause_error}
use Rattle.resolve.specs.Resolved.{ordered}
use Rattle.resolve.specs.View.{bound_of}
use Rattle.resolve.proofs.FaultFirst.{fault_found, none_found}
use Rattle.resolve.proofs.resolved.checked.Goals as goal

pub returns-in-Some : goal.returns-in-Some
returns-in-Some g c =
    fault_found _ (bound_query_of c.args.bound.value) (ordered (map (λ e. entry_of e) c.args.entries) (query_of c.args.query.now)) c.in-Some.fault
    (sym (rw (c.as_slice.ensures, c.as_slice-2.ensures, c.deref.ensures) at c.clause_error.ensures) ∙ c.in-Some.is)

pub returns : goal.returns
returns g c =
    subst (Gives (λ b. bound_of b) c.ordered.result)
    (sym (none_found (clause_error (map (λ e. entry_of e) c.args.entries) (bound_query_of c.args.bound.value).group_by (query_of c.args.query.now)) (bound_query_of c.args.bound.value) (ordered (map (λ e. entry_of e) c.args.entries) (query_of c.args.query.now))
    (sym (rw (c.as_slice.ensures, c.as_slice-2.ensures, c.deref.ensures) at c.clause_error.ensures) ∙ c.in-None.is)))
    c.ordered.ensures
