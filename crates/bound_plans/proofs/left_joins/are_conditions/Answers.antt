use Rattle.std.proofs.Common.{map, sym, arith}
use Rattle.std.proofs.lemmas.List.{length-map}
use Rattle.scope.specs.View.{entries_of}
use Rattle.plan_texts.specs.View.{on_of}
use Rattle.bound_plans.proofs.Ons.{not_as_many_ons}
use Rattle.bound_plans.proofs.left_joins.are_conditions.Goals as goal

pub returns-then-ons-conditions : goal.returns-then-ons-conditions
returns-then-ons-conditions g c =
    sym (not_as_many_ons (entries_of c.args.entries.now) (map on_of c.args.ons.now) c.args.conditions.now (λ same. omega (arith, same, length-map c.args.ons.now on_of, c.if-ons-conditions.true)))
