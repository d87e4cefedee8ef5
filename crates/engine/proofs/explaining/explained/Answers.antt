use Rattle.std.proofs.Common.{◌∙◌, sym, subst, ap}
use Rattle.std.specs.Result.{IfOk}
use Rattle.memory.specs.Results.{and_then}
use Rattle.row_ast.specs.View.{query_of}
use Rattle.analysis.specs.Analysis.{admitted_query}
use Rattle.analysis.specs.View.{read_of}
use Rattle.store.specs.Database.{rows_of}
use Rattle.engine.specs.Explained.{IsExplanation, explained_query}
use Rattle.engine.proofs.Tables.{read_parsed}
use Rattle.engine.proofs.explaining.explained.Goals as goal

pub explained_query-explained-requires-clause-from : goal.explained_query-explained-requires-clause-from
explained_query-explained-requires-clause-from g c =
    let read = (rw c.catalog.ensures.catalog at c.in_ok-query.ensures.read) in
    c.law_queries_have_tables.ensures c.args.text.now (query_of c.in-Ok.query) (read_parsed c.args.store.now.catalog c.args.role.now c.args.text.now (query_of c.in-Ok.query) (sym read ∙ ap read_of c.in-Ok.is))

pub explained_query-explained-requires-clause-limits : goal.explained_query-explained-requires-clause-limits
explained_query-explained-requires-clause-limits g c =
    let read = (rw c.catalog.ensures.catalog at c.in_ok-query.ensures.read) in
    (c.law_parsing_is_determined.ensures.query.found c.args.text.now (query_of c.in-Ok.query) (read_parsed c.args.store.now.catalog c.args.role.now c.args.text.now (query_of c.in-Ok.query) (sym read ∙ ap read_of c.in-Ok.is))).2

pub returns-in-Ok-clause-text : goal.returns-in-Ok-clause-text
returns-in-Ok-clause-text g c =
    let cat = c.args.store.now.catalog in
    let role = c.args.role.now in
    let read = (rw c.catalog.ensures.catalog at c.in_ok-query.ensures.read) in
    subst (λ r. IfOk c.explained_query-explained.result (λ x. IsExplanation x.0.items x.1 (explained_query cat (rows_of c.args.store.now) role (and_then r (admitted_query cat role)))))
    (sym (sym read ∙ ap read_of c.in-Ok.is)) c.explained_query-explained.ensures.text
