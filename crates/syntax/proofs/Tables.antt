-- A text that the rule of queries derives has a table in FROM.
use Rattle.std.proofs.Common.{◌≡◌, ◌<◌, ◌∙◌, ℕ, List, ◌∷◌, length, ap, subst, sym, arith}
use Rattle.row_ast.specs.Ast.{Query}
use Rattle.row_queries.specs.From.{from}
use Rattle.row_queries.specs.Queries.{query}
use Rattle.syntax.specs.Parsing.{Derives}

pub has_table : (text : List ℕ) (q : Query) → Derives query text q → 0 < length q.from
unfolding query from
has_table text q d =
    let parts = d.1.1.2.2 in
    let list = parts.1.2.1 in
    let is : q.from ≡ list.0.0 ∷ list.0.1 = ap (λ x. x.from) d.2 ∙ ap (λ v. v.1.0) d.1.2 ∙ ap (λ v. v.0) parts.2 ∙ list.2 in
    subst (λ l. 0 < length l) (sym is) (omega arith)
