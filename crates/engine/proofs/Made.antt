-- A plan that is made of what the search found.
use Rattle.std.proofs.Common.{◌≡◌, ◌∙◌, ◌++◌, ap, ap₂, refl, subst}
use Rattle.expr.specs.BoundQuery.{BoundQuery}
use Rattle.planning.specs.LeastCode.{Problem}
use Rattle.planning.specs.Placing.{placing}
use Rattle.planning.specs.Plans as planning
use Rattle.planning.specs.Plans.{IsPlan}
use Rattle.planning.specs.Listing.{simplifying}
use Rattle.planning.specs.Wanted.{wanted_column}
use Rattle.engine.specs.Plans.{Plan, with_query}

plan_parts : (one other : planning.Plan) → one.query ≡ other.query → one.problem ≡ other.problem → one.cost ≡ other.cost → one.code ≡ other.code → one.trail ≡ other.trail → one ≡ other
plan_parts one other a b c d e = rw (a, b, c, d, e) refl

-- what was found for a query is a plan's, with the query
pub is_made : (found : planning.Plan) (q : BoundQuery) (p : Plan) → IsPlan found → found.query ≡ q → found.problem ≡ record { setting = p.setting; statistics = p.statistics; wanted = wanted_column q } → found.cost ≡ p.cost → found.code ≡ p.code → IsPlan (with_query q p)
is_made found q p is query problem cost code =
    let trail : found.trail ≡ simplifying q ++ placing p.setting p.code = is.steps ∙ ap₂ (λ x (y : Problem). simplifying x ++ placing y.setting found.code) query problem ∙ ap (λ z. simplifying q ++ placing p.setting z) code in
    subst IsPlan (plan_parts found (with_query q p) query problem cost code trail) is
