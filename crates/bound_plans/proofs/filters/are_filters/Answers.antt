use Rattle.std.proofs.Common.{map, sym, arith}
use Rattle.std.proofs.lemmas.List.{length-map}
use Rattle.row_ast.specs.View.{expr_of}
use Rattle.scope.specs.View.{entries_of}
use Rattle.bound_plans.proofs.Compared.{not_as_many}
use Rattle.bound_plans.proofs.filters.are_filters.Goals as goal

pub returns-then-filters-conditions : goal.returns-then-filters-conditions
returns-then-filters-conditions g c =
    sym (not_as_many (entries_of c.args.entries.now) (map expr_of c.args.filters.now) c.args.conditions.now (λ same. omega (arith, same, length-map c.args.filters.now expr_of, c.if-filters-conditions.true)))
