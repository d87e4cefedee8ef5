-- The combinations of the shape of a plan are those of the written term.
use Rattle.std.proofs.Common.{◌≡◌, ◌∙◌, refl, sym, ap, subst, ℕ, zero, suc, ◌-◌, ◌&&◌, true, List, [], ◌∷◌, ◌++◌, map, filter, length, Ok, Err}
use Rattle.std.specs.List.Sorted.{IsPermutation}
use Rattle.std.proofs.lemmas.List.Sorted.{IsPermutation-refl, IsPermutation-trans}
use Rattle.memory.specs.Results.{and_then}
use Rattle.expr.specs.Bound.{BoundExpr}
use Rattle.expr.specs.BoundQuery.{BoundQuery}
use Rattle.expr.specs.Codes.{Code}
use Rattle.expr.specs.Conjuncts.{conjuncts, left_ons, movable_conjuncts}
use Rattle.expr.specs.Movable.{movable}
use Rattle.bags.proofs.Members.{Each, each-passes}
use Rattle.predicates.specs.Laws.{OffsetsKeepValue}
use Rattle.predicates.specs.Offsets.{without_offsets}
use Rattle.predicates.proofs.Keeping.{both}
use Rattle.tuples.specs.Guards.{Guard}
use Rattle.row_terms.specs.Terms.{Term, Filtered, LeftJoined}
use Rattle.row_terms.specs.Means.{mean}
use Rattle.row_terms.specs.Written.{guarded_entry, joins, left_joins, filters, left_conditions, all_joins, written}
use Rattle.algebra.specs.Keeping.{MeanSame, is_movable_term}
use Rattle.algebra.specs.PlanningList.{planning_list, remaining_lefts}
use Rattle.algebra.specs.Rewrites.{applied}
use Rattle.algebra.specs.Rules.{Outcome}
use Rattle.algebra.specs.Steps.{Step}
use Rattle.algebra.proofs.Law.{steps_keep}
use Rattle.trailcheck.specs.Admissible.{is_admissible}
use Rattle.trailcheck.specs.Settings.{Setting}
use Rattle.trailcheck.specs.Shapes.{shape}
use Rattle.rewrite.specs.Trails.{led}
use Rattle.rewrite.specs.Laws.{IsSettingOf, ShapesMeanSame}
use Rattle.rewrite.specs.Placing.{placing}
use Rattle.rewrite.specs.Listing.{simplifying}
use Rattle.rewrite.proofs.Leads.{led_then}
use Rattle.rewrite.proofs.Places.{places_each}
use Rattle.rewrite.proofs.SimplifiedTerm.{simplifies_each}

-- ---- no condition of the written term can fault

joins_movable : (n : ℕ) → is_movable_term (joins n) ≡ true
joins_movable zero = refl
joins_movable (suc zero) = refl
joins_movable (suc (suc n)) = both (is_movable_term (joins (suc n))) true (joins_movable (suc n)) refl

filters_movable : (kept : OffsetsKeepValue) (es : List BoundExpr) → Each (λ e. movable e ≡ true) es → (x : Term) → is_movable_term x ≡ true → is_movable_term (filters (map without_offsets es) x) ≡ true
filters_movable kept [] h x m = m
filters_movable kept (e ∷ es) h x m = filters_movable kept es h.1 (Filtered (without_offsets e) x) (both (movable (without_offsets e)) (is_movable_term x) (kept.stays_movable e h.0) m)

left_joins_movable : (kept : OffsetsKeepValue) (ons : List BoundExpr) → Each (λ e. movable e ≡ true) ons → (i : ℕ) (x : Term) → is_movable_term x ≡ true → is_movable_term (left_joins i (map without_offsets ons) x) ≡ true
left_joins_movable kept [] h i x m = m
left_joins_movable kept (on ∷ ons) h i x m =
    left_joins_movable kept ons h.1 (suc i) (LeftJoined (without_offsets on) x (guarded_entry i)) (both (movable (without_offsets on)) (is_movable_term x && true) (kept.stays_movable on h.0) (both (is_movable_term x) true m refl))

written_movable : OffsetsKeepValue → (n : ℕ) (q : BoundQuery) → is_movable_term (written n q) ≡ true
written_movable kept n q =
    let first = n - length (left_conditions q) in
    filters_movable kept (movable_conjuncts q) (each-passes movable (conjuncts q)) (all_joins n (left_conditions q))
    (left_joins_movable kept (filter movable (left_ons q)) (each-passes movable (left_ons q)) first (joins first) (joins_movable first))

-- ---- steps keep the bag

is_made : (x y : Term) → ◌≡◌ {A = Outcome} (Ok x) (Ok y) → x ≡ y
is_made x y h = cc

led_keeps : (frame : List Guard) (ss : List Step) (x y : Term) → is_movable_term x ≡ true → led frame ss x ≡ Ok y → MeanSame frame x y
led_keeps frame [] x y m h = λ w has. subst (λ z. IsPermutation (mean w x) (mean w z)) (is_made x y h) (IsPermutation-refl (mean w x))
led_keeps frame (s ∷ ss) x y m h = at (applied frame s x) refl h (λ z n k. led_keeps frame ss z y n k)
  where
    at : (o : Outcome) → applied frame s x ≡ o → and_then o (led frame ss) ≡ Ok y → ((z : Term) → is_movable_term z ≡ true → led frame ss z ≡ Ok y → MeanSame frame z y) → MeanSame frame x y
    at (Ok z) e k rest =
        let kept = steps_keep frame s x z m e in
        λ w has. IsPermutation-trans (mean w x) (mean w z) (mean w y) (kept.1 w has) (rest z kept.0 k w has)
    at (Err reason) e k rest = absurd (cc)

-- ---- from the written term to the shape

module _ (at : Setting) (q : BoundQuery) (code : Code) (of_query : IsSettingOf q at) (fits : is_admissible at code ≡ true) where
  -- what the query is planned with, over the joins in the order of FROM
  abbrev pub listed : Term
  listed = filters (planning_list q) (all_joins (length at.frame) (remaining_lefts q))

  pub simplified_to : led at.frame (simplifying q) (written (length at.frame) q) ≡ Ok listed
  simplified_to =
      subst (λ n. led at.frame (simplifying q) (written n q) ≡ Ok (filters (planning_list q) (all_joins n (remaining_lefts q)))) (sym of_query.entries) (simplifies_each at.frame q of_query.order)

  pub placed : led at.frame (placing at code) listed ≡ Ok (shape at code)
  placed =
      ap (λ es. led at.frame (placing at code) (filters es (all_joins (length at.frame) (remaining_lefts q)))) (sym of_query.conditions)
      ∙ ap (λ ons. led at.frame (placing at code) (filters at.conditions (all_joins (length at.frame) ons))) (sym of_query.lefts)
      ∙ places_each at code fits

  whole : led at.frame (simplifying q ++ placing at code) (written (length at.frame) q) ≡ Ok (shape at code)
  whole = led_then at.frame (simplifying q) (placing at code) (written (length at.frame) q) listed simplified_to ∙ placed

pub shapes_mean_same : OffsetsKeepValue → ShapesMeanSame
shapes_mean_same kept at q code of_query fits =
    led_keeps at.frame (simplifying q ++ placing at code) (written (length at.frame) q) (shape at code) (written_movable kept (length at.frame) q) (whole at q code of_query fits)
