-- The least offset in the ONs that there are.
use Rattle.std.proofs.Common.{◌≡◌, ℕ, ◌-◌, List, [], ◌∷◌, length, take, drop, map, Option, Some, None, refl, sym, ap, ◌∙◌}
use Rattle.std.proofs.lemmas.List.{drop-map, length-map, take_rest}
use Rattle.std.specs.Prelude.{option_to_list}
use Rattle.std.specs.List.{flat_map}
use Rattle.expr.specs.Bound.{BoundExpr}
use Rattle.expr.specs.BoundQuery.{BoundQuery}
use Rattle.expr.specs.Conjuncts.{left_ons}
use Rattle.expr.specs.Fragile.{first_fragile}
use Rattle.expr.specs.Offsets.{least_of, least_of_all}
use Rattle.resolve.specs.Resolved.{first_in}

of_present : (os : List (Option BoundExpr)) → least_of_all (map first_in os) ≡ least_of_all (map first_fragile (flat_map option_to_list os))
of_present [] = refl
of_present (None ∷ os) = of_present os
of_present (Some e ∷ os) = ap (least_of (first_fragile e)) (of_present os)

-- the views of the last ONs, so many as there are left joins
pub left_viewed : {X : Type 0} (v : X → Option BoundExpr) (q : BoundQuery) (xs ys : List X) (n : ℕ) → xs ≡ ys → q.ons ≡ map v ys → n ≡ length xs - q.left_count → least_of_all (map first_in (map v (take (length xs - n) (drop n xs)))) ≡ least_of_all (map first_fragile (left_ons q))
left_viewed v q xs ys n e o l =
    let last : map v (drop n xs) ≡ drop (length q.ons - q.left_count) q.ons = rw (l, e, o) (sym (drop-map v (length ys - q.left_count) ys) ∙ ap (λ k. drop (k - q.left_count) (map v ys)) (sym (length-map ys v))) in
    ap (λ zs. least_of_all (map first_in (map v zs))) (take_rest xs n) ∙ of_present (map v (drop n xs))
    ∙ ap (λ os. least_of_all (map first_fragile (flat_map option_to_list os))) last
