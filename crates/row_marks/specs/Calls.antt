-- The aggregates of a query, in written order: of its items and then of HAVING.
use Rattle.std.specs.Prelude.{List, ◌++◌, option_to_list}
use Rattle.std.specs.List.{flat_map}
use Rattle.expr.specs.Aggregates.{AggregateCall, aggregates}
use Rattle.expr.specs.BoundQuery.{BoundItem, BoundQuery}

abbrev pub item_aggregates : BoundItem → List AggregateCall
item_aggregates i = aggregates i.value

abbrev pub query_aggregates : BoundQuery → List AggregateCall
query_aggregates q = flat_map item_aggregates q.items ++ flat_map aggregates (option_to_list q.having)
