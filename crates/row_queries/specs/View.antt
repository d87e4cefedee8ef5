-- The views of the clauses after FROM as spec data.
use Rattle.std.specs.Prelude.{option_map, map}
use Rattle.row_ast.specs.View.{column_ref_of, condition_of, sort_key_of}
use Rattle.row_queries.specs.Queries.{Clauses}
use Rattle.row_queries.specs.declared.queries.Following.{Following}

abbrev pub clauses_of : {A : Type 0} → Following A → Clauses
clauses_of c = record {
  filter = option_map condition_of c.filter;
  group_by = map column_ref_of c.group_by;
  having = option_map condition_of c.having;
  order_by = map sort_key_of c.order_by;
  limit = c.limit;
}
