-- A query whose names are found, and whose aggregates and types are in order.
use Rattle.std.specs.Prelude.{ℕ, List, map, Option, Some, None, option_map, Result, Ok, Err}
use Rattle.value.specs.declared.refusal.Refusal.TheVariants as r
use Rattle.row_ast.specs.Ast as ast
use Rattle.catalog.specs.Catalog.{Catalog}
use Rattle.scope.specs.declared.error.BindError.{BindError}
use Rattle.expr.specs.declared.query.OutputKey.{OutputKey}
use Rattle.scope.specs.Entry.{Entry, fault}
use Rattle.memory.specs.Results.{and_then, on_each}
use Rattle.expr.specs.Bound.{BoundExpr}
use Rattle.expr.specs.BoundQuery.{BoundQuery}
use Rattle.expr.specs.Conjuncts.{left_ons}
use Rattle.expr.specs.Fragile.{first_fragile}
use Rattle.expr.specs.Offsets.{least_of_all}
use Rattle.typing.specs.Clauses.{clause_error}
use Rattle.resolve.specs.Entries.{entries}
use Rattle.resolve.specs.BoundQueries.{bound_query}
use Rattle.resolve.specs.OrderBy.{output_key}

pub record Bound : Type 0 where
  pub entries : List Entry
  pub query : BoundQuery

-- the error, if there is one
abbrev pub unless_fault : {X E : Type 0} → Option E → X → Result X E
unless_fault None x = Ok x
unless_fault (Some e) x = Err e

abbrev pub with_order : BoundQuery → List OutputKey → BoundQuery
with_order b keys = record { items = b.items; ons = b.ons; left_count = b.left_count; filter = b.filter; group_by = b.group_by; having = b.having; is_grouped = b.is_grouped; order_by = keys; limit = b.limit }

abbrev pub ordered : List Entry → ast.Query → BoundQuery → Result Bound BindError
ordered es q b = and_then (on_each (output_key b.items) q.order_by) (λ keys. Ok record { entries = es; query = with_order b keys })

abbrev pub checked : List Entry → ast.Query → BoundQuery → Result Bound BindError
checked es q b = and_then (unless_fault (clause_error es b.group_by q) b) (ordered es q)

abbrev pub bound_checked : ast.Query → List Entry → Result Bound BindError
bound_checked q es = and_then (bound_query es q) (checked es q)

abbrev pub first_in : Option BoundExpr → Option ℕ
first_in None = None
first_in (Some e) = first_fragile e

-- the first sign, CAST or aggregate in the ONs of left joins, which may not fault
abbrev pub left_fault : BoundQuery → Option BindError
left_fault q = option_map (fault r.FeatureNotSupported) (least_of_all (map first_fragile (left_ons q)))

abbrev pub lefts_checked : Bound → Result Bound BindError
lefts_checked b = unless_fault (left_fault b.query) b

abbrev pub bound_with : ast.Query → List Entry → Result Bound BindError
bound_with q es = and_then (bound_checked q es) lefts_checked

-- the query bound; or the first error: of the entries of FROM, of its columns as written, of its aggregates, of its
-- types, of the keys of ORDER BY, of what may fault in the ONs of left joins
abbrev pub bound : Catalog → ast.Query → Result Bound BindError
bound cat q = and_then (entries cat q) (bound_with q)
