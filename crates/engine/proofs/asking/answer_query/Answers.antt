use Rattle.std.proofs.Common.{sym, ap, ◌∙◌}
use Rattle.memory.specs.Results.{and_then}
use Rattle.row_ast.specs.View.{query_of}
use Rattle.analysis.specs.Analysis.{admitted_query}
use Rattle.analysis.specs.View.{admitted_of}
use Rattle.engine.proofs.Admitted.{reply_to_query}
use Rattle.engine.proofs.asking.answer_query.Goals as goal

pub answer_bound-requires : goal.answer_bound-requires
answer_bound-requires g c =
    let admitted = (rw c.catalog.ensures.catalog at c.in_ok-bound.ensures) in
    (c.args.text.now, ap (λ r. and_then r (admitted_query c.args.store.now.catalog c.args.role.now)) c.requires ∙ sym admitted ∙ ap admitted_of c.in-Ok.is)

pub returns-in-Ok : goal.returns-in-Ok
returns-in-Ok g c =
    let admitted = (rw c.catalog.ensures.catalog at c.in_ok-bound.ensures) in
    rw (reply_to_query c.args.store.now.catalog _ c.args.role.now c.args.text.now (query_of c.args.query.now) c.requires, sym admitted ∙ ap admitted_of c.in-Ok.is) c.answer_bound.ensures
