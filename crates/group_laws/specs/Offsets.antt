-- The offsets of the aggregates of queries.
use Rattle.std.specs.Prelude.{◌≡◌, ◌<◌, ℕ, List, map, Ok}
use Rattle.std.specs.List.{AllPairs}
use Rattle.value.specs.Names.{Name}
use Rattle.row_ast.specs.Ast.{Query}
use Rattle.expr.specs.Aggregates.{AggregateCall}
use Rattle.syntax.specs.Parsing.{parsed_query}
use Rattle.catalog.specs.Catalog.{Catalog}
use Rattle.resolve.specs.Resolved.{Bound, bound}
use Rattle.analysis.specs.Analysis.{admitted}
use Rattle.report.specs.QueryStages.{query_aggregates}
use Rattle.groups.specs.ClassValues.{HaveOffsets}
use Rattle.group_laws.specs.Calls.{query_call_offsets}

-- the offsets of the aggregates of a text's query, of its items and then of HAVING, ascend
abbrev pub TextOffsetsAscend : Type 0
TextOffsetsAscend = (text : List ℕ) (q : Query) → parsed_query text ≡ Ok q → AllPairs (λ m n. m < n) (query_call_offsets q)

abbrev pub offsets_of : List AggregateCall → List ℕ
offsets_of calls = map (λ c. c.offset) calls

-- the aggregates of a query have the same offsets, in the same order, when it is bound
abbrev pub BindingKeepsOffsets : Type 0
BindingKeepsOffsets = (cat : Catalog) (q : Query) (b : Bound) → bound cat q ≡ Ok b → offsets_of (query_aggregates b.query) ≡ query_call_offsets q

-- no two aggregates of an admitted query, of its items and then of HAVING, have one offset
abbrev pub AggregatesHaveOffsets : Type 0
AggregatesHaveOffsets = (cat : Catalog) (role : Name) (text : List ℕ) (b : Bound) → admitted cat role text ≡ Ok b → HaveOffsets (query_aggregates b.query)
