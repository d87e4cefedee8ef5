-- The ONs of left joined entries that cannot fault, one entry after another.
use Rattle.std.proofs.Common.{◌≡◌, ℕ, zero, suc, ◌-◌, List, [], ◌∷◌, ◌++◌, map, filter, flat_map, take, drop, length, Option, option_to_list, refl, sym, ap, ap₂, ◌∙◌, arith}
use Rattle.std.proofs.lemmas.List.{drop-map, length-map, map-append}
use Rattle.std.proofs.Math.Seq.{take-length}
use Rattle.std.proofs.lemmas.List.Elements.{filter-append}
use Rattle.expr.specs.Bound.{BoundExpr}
use Rattle.expr.specs.BoundQuery.{BoundQuery}
use Rattle.expr.specs.Movable.{movable}
use Rattle.predicates.specs.Offsets.{without_offsets}
use Rattle.row_terms.specs.Written.{left_condition_in, left_conditions}

of_each : (ons : List (Option BoundExpr)) → flat_map left_condition_in ons ≡ map without_offsets (filter movable (flat_map option_to_list ons))
of_each [] = refl
of_each (on ∷ ons) =
    ap (λ es. left_condition_in on ++ es) (of_each ons)
    ∙ sym (map-append without_offsets (filter movable (option_to_list on)) (filter movable (flat_map option_to_list ons)))
    ∙ ap (map without_offsets) (sym (filter-append movable (option_to_list on) (flat_map option_to_list ons)))

-- so many from there on are all the rest
pub rest_of : {X : Type 0} (n : ℕ) (xs : List X) → take (length xs - n) (drop n xs) ≡ drop n xs
rest_of zero xs = let e : length xs - 0 ≡ length xs = omega arith in rw e (take-length xs)
rest_of {X} (suc n) [] = let e : 0 - suc n ≡ 0 = omega arith in let none : List X = [] in ap (λ k. take k none) e
rest_of (suc n) (x ∷ xs) = let e : suc (length xs) - suc n ≡ length xs - n = omega arith in rw e (rest_of n xs)

-- the views of the last ONs, those of left joins
pub last_viewed : {Y : Type 0} (v : Y → Option BoundExpr) (q : BoundQuery) (xs ys : List Y) (n : ℕ) → xs ≡ ys → q.ons ≡ map v ys → n ≡ length xs - q.left_count → map v (drop n xs) ≡ drop (length q.ons - q.left_count) q.ons
last_viewed v q xs ys n e o l = rw (l, e, o) (sym (drop-map v (length ys - q.left_count) ys) ∙ ap (λ k. drop (k - q.left_count) (map v ys)) (sym (length-map ys v)))

pub all_of : {Y : Type 0} (v : Y → Option BoundExpr) (q : BoundQuery) (xs ys : List Y) (n : ℕ) (k0 k1 : List BoundExpr) → xs ≡ ys → q.ons ≡ map v ys → n ≡ length xs - q.left_count → k0 ≡ [] → k1 ≡ k0 ++ flat_map left_condition_in (map v (take (length xs - n) (drop n xs))) → k1 ≡ left_conditions q
all_of v q xs ys n k0 k1 e o l z k =
    k
    ∙ ap₂ (λ known rest. known ++ flat_map left_condition_in (map v rest)) z (rest_of n xs)
    ∙ of_each (map v (drop n xs))
    ∙ ap (λ ons. map without_offsets (filter movable (flat_map option_to_list ons))) (last_viewed v q xs ys n e o l)
