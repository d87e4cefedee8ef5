-- The offsets of the aggregates of a text's query ascend.
use Rattle.std.proofs.Common.{◌<◌, ℕ, List, []}
use Rattle.std.specs.List.{AllPairs}
use Rattle.row_tokens.specs.Slices.{EndsBefore}
use Rattle.row_tokens.specs.Tokens.{Token, words}
use Rattle.row_tokens.proofs.Offsets.{are_in_order}
use Rattle.row_ast.specs.Ast.{Query}
use Rattle.row_reader.specs.Expressions.{depth_limit, run_limit}
use Rattle.row_queries.specs.Queries.{query}
use Rattle.syntax.specs.Parsing.{Derives}
use Rattle.group_laws.specs.Calls.{query_call_offsets}
use Rattle.group_laws.proofs.Derived.{query_passes}
use Rattle.group_laws.proofs.Passed.{IsBefore, ascend}

starts_in_order : (ts : List Token) → AllPairs EndsBefore ts → AllPairs IsBefore ts
starts_in_order ts h i j d less within = (h i j d less within).0

pub offsets_ascend : (text : List ℕ) (q : Query) → Derives query text q → AllPairs (λ m n. m < n) (query_call_offsets q)
offsets_ascend text q s =
    ascend (words text) [] (query_call_offsets q) (starts_in_order (words text) (are_in_order text)) ((query_passes run_limit depth_limit).passes (words text) q [] s)
