-- The checker accepts a trail that leads to the shape, within its limits.
use Rattle.std.proofs.Common.{◌≡◌, ◌∙◌, refl, sym, ap, subst, ℕ, zero, suc, ◌+◌, ◌-◌, ◌*◌, ◌<◌, ◌≤◌, true, map, List, [], ◌∷◌, ◌++◌, length, length-append, Ok, if◌then◌else◌, arith}
use Rattle.std.proofs.lemmas.List.{length-map}
use Rattle.value.specs.Limits.{most_conjuncts, most_entries}
use Rattle.expr.specs.Bound.{BoundExpr}
use Rattle.expr.specs.BoundQuery.{BoundQuery}
use Rattle.expr.specs.Codes.{Code}
use Rattle.expr.specs.Conjuncts.{movable_conjuncts}
use Rattle.predicates.specs.Offsets.{without_offsets}
use Rattle.row_terms.specs.Terms.{Term, Filtered, LeftJoined}
use Rattle.row_terms.specs.Written.{guarded_entry, joins, left_joins, filters, left_conditions, all_joins, written}
use Rattle.algebra.specs.PlanningList.{planning_list, remaining_lefts}
use Rattle.algebra.specs.Steps.{Step}
use Rattle.algebra.proofs.Remaining.{fewer_lefts}
use Rattle.trailcheck.specs.declared.verdict.Reason.TheVariants as reason
use Rattle.trailcheck.specs.declared.verdict.Verdict.TheVariants.{Accepted, Refused}
use Rattle.trailcheck.specs.Admissible.{is_admissible}
use Rattle.trailcheck.specs.Limits.{most_nodes, most_steps, node_count}
use Rattle.trailcheck.specs.Replays.{replay}
use Rattle.trailcheck.specs.Settings.{Setting}
use Rattle.trailcheck.specs.Shapes.{shape}
use Rattle.trailcheck.specs.Verdicts.{compared, verdict}
use Rattle.trailcheck.proofs.Same as same
use Rattle.rewrite.specs.Laws.{IsSettingOf, PlansAreAccepted, PlansAreShort, most_plan_steps}
use Rattle.rewrite.specs.Placing.{placing}
use Rattle.rewrite.specs.Listing.{simplifying}
use Rattle.rewrite.specs.Trails.{led}
use Rattle.rewrite.proofs.Lengths.{most_placing, placing_short}
use Rattle.rewrite.proofs.Limited.{replays, replays_first}
use Rattle.rewrite.proofs.SimplifiedLength.{most_simplifying, simplifying_length, planning_length}
use Rattle.rewrite.proofs.SameCombinations.{listed, simplified_to, placed}

-- ---- the nodes of a written term

pub nodes-filters : (es : List BoundExpr) (x : Term) → node_count (filters es x) ≡ length es + node_count x
nodes-filters [] x = omega arith
nodes-filters (e ∷ es) x = let h = nodes-filters es (Filtered e x) in omega (arith, h)

pub nodes-joins : (n : ℕ) → node_count (joins n) ≤ suc (3 * n)
nodes-joins zero = omega arith
nodes-joins (suc zero) = omega arith
nodes-joins (suc (suc n)) = let h = nodes-joins (suc n) in omega (arith, h)

pub nodes-left_joins : (ons : List BoundExpr) (i : ℕ) (x : Term) → node_count (left_joins i ons x) ≡ 3 * length ons + node_count x
nodes-left_joins [] i x = omega arith
nodes-left_joins (on ∷ ons) i x = let h = nodes-left_joins ons (suc i) (LeftJoined on x (guarded_entry i)) in omega (arith, h)

all_nodes : (count : ℕ) (ons : List BoundExpr) → length ons ≤ count → node_count (all_joins count ons) ≤ suc (3 * count)
all_nodes count ons h =
    let first = count - length ons in
    let o = nodes-left_joins ons first (joins first) in
    let j = nodes-joins first in
    omega (arith, h, o, j)

-- of a setting of a query
pub lefts_among : (q : BoundQuery) (at : Setting) → IsSettingOf q at → length at.lefts < length at.frame
lefts_among q at of_query =
    let fewer = fewer_lefts q in
    let inner = of_query.order.inner in
    let entries = of_query.entries in
    let lefts = ap length of_query.lefts in
    omega (arith, fewer, inner, entries, lefts)

-- ---- the verdict

module _ (at : Setting) (x y : Term) (first others : List Step) (code : Code) (admissible : is_admissible at code ≡ true) (to : led at.frame first x ≡ Ok y) (from : led at.frame others y ≡ Ok (shape at code)) where
  -- of a trail in two parts, each of which leaves room for its nodes
  accepts : node_count x + length first ≤ most_nodes → node_count y + length others ≤ most_nodes → length (first ++ others) ≤ most_steps → verdict at x (first ++ others) code ≡ Accepted
  accepts before after steps =
      let a = length-append first others in
      let replayed : replay at.frame 1 (first ++ others) x ≡ Ok (shape at code) =
      replays_first at.frame first others 1 x y to before (omega (arith, a, steps))
      ∙ replays at.frame others (1 + length first) y (shape at code) from after (omega (arith, a, steps))
      in
      ap (λ b. if b then compared (length (first ++ others)) (shape at code) (replay at.frame 1 (first ++ others) x) else Refused record { line = 0; reason = reason.Code }) admissible
      ∙ ap (compared (length (first ++ others)) (shape at code)) replayed
      ∙ ap (λ b. if b then Accepted else Refused record { line = length (first ++ others) + 1; reason = reason.End }) ((same.decides (shape at code) (shape at code)).if_so refl)

-- ---- both trails together

module _ (at : Setting) (q : BoundQuery) (code : Code) (of_query : IsSettingOf q at) (few_entries : length at.frame ≤ most_entries) (few_conjuncts : length (movable_conjuncts q) ≤ most_conjuncts) (admissible : is_admissible at code ≡ true) where
  few_lefts : length (left_conditions q) < length at.frame
  few_lefts = let inner = of_query.order.inner in let entries = of_query.entries in omega (arith, inner, entries)

  few_listed : length (planning_list q) ≤ most_conjuncts
  few_listed = planning_length q few_conjuncts

  simplifying_short : length (simplifying q) ≤ most_simplifying
  simplifying_short = let few = few_lefts in simplifying_length q few_conjuncts (omega (arith, few, few_entries))

  short : length (placing at code) ≤ most_placing
  short = placing_short at few_entries (subst (λ l. length l ≤ most_conjuncts) (sym of_query.conditions) few_listed) code admissible

  both_short : length (simplifying q ++ placing at code) ≤ most_plan_steps
  both_short = let a = length-append (simplifying q) (placing at code) in let s = simplifying_short in let p = short in omega (arith, a, s, p)

  accepted : verdict at (written (length at.frame) q) (simplifying q ++ placing at code) code ≡ Accepted
  accepted =
      let count = length at.frame in
      let s = simplifying_short in
      let p = short in
      let few = few_lefts in
      let fewer = fewer_lefts q in
      let m = length-map (movable_conjuncts q) without_offsets in
      let f = nodes-filters (map without_offsets (movable_conjuncts q)) (all_joins count (left_conditions q)) in
      let j = all_nodes count (left_conditions q) (omega (arith, few)) in
      let g = nodes-filters (planning_list q) (all_joins count (remaining_lefts q)) in
      let k = all_nodes count (remaining_lefts q) (omega (arith, few, fewer)) in
      let l = few_listed in
      let b = both_short in
      accepts at (written count q) (listed at q code of_query admissible) (simplifying q) (placing at code) code admissible (simplified_to at q code of_query admissible) (placed at q code of_query admissible)
      (omega (arith, s, m, f, j, few_entries, few_conjuncts)) (omega (arith, p, g, k, l, few_entries)) (omega (arith, b))

pub plans_are_short : PlansAreShort
plans_are_short = both_short

pub plans_accepted : PlansAreAccepted
plans_accepted = accepted
