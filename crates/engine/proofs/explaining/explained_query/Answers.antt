use Rattle.std.proofs.Common.{sym, ap, ◌∙◌}
use Rattle.row_ast.specs.View.{query_of}
use Rattle.resolve.specs.View.{bound_of}
use Rattle.analysis.specs.View.{admitted_of}
use Rattle.engine.proofs.Few.{admitted_few}
use Rattle.engine.proofs.FewConjuncts.{admitted_conjuncts}
use Rattle.engine.proofs.OfText.{query_lefts}
use Rattle.engine.proofs.Tables.{admitted_tables}
use Rattle.engine.proofs.explaining.explained_query.Goals as goal

pub best_text-requires-clause-tables : goal.best_text-requires-clause-tables
best_text-requires-clause-tables g c =
    let admitted = (rw c.catalog.ensures.catalog at c.in_ok-bound.ensures) in
    admitted_tables c.args.store.now.catalog c.args.role.now (query_of c.args.query.now) (bound_of c.in-Ok.bound) (sym admitted ∙ ap admitted_of c.in-Ok.is)

pub best_text-requires-clause-few : goal.best_text-requires-clause-few
best_text-requires-clause-few g c =
    let admitted = (rw c.catalog.ensures.catalog at c.in_ok-bound.ensures) in
    admitted_few c.args.store.now.catalog c.args.role.now (query_of c.args.query.now) (bound_of c.in-Ok.bound) c.requires.limits (sym admitted ∙ ap admitted_of c.in-Ok.is)

pub best_text-requires-clause-conjuncts : goal.best_text-requires-clause-conjuncts
best_text-requires-clause-conjuncts g c =
    let admitted = (rw c.catalog.ensures.catalog at c.in_ok-bound.ensures) in
    admitted_conjuncts c.args.store.now.catalog c.args.role.now (query_of c.args.query.now) (bound_of c.in-Ok.bound) c.requires.limits (sym admitted ∙ ap admitted_of c.in-Ok.is)

pub best_text-requires-clause-lefts : goal.best_text-requires-clause-lefts
best_text-requires-clause-lefts g c =
    let admitted = (rw c.catalog.ensures.catalog at c.in_ok-bound.ensures) in
    query_lefts c.args.store.now.catalog c.args.role.now (query_of c.args.query.now) (bound_of c.in-Ok.bound) c.requires.from (sym admitted ∙ ap admitted_of c.in-Ok.is)
