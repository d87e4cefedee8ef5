-- The texts of queries name tables.
use Rattle.std.specs.Prelude.{◌≡◌, ◌<◌, ℕ, List, length, Ok}
use Rattle.row_ast.specs.Ast.{Query}
use Rattle.syntax.specs.Parsing.{parsed_query}

-- the query of a text has a table in FROM
abbrev pub HaveTables : Type 0
HaveTables = (text : List ℕ) (q : Query) → parsed_query text ≡ Ok q → 0 < length q.from
