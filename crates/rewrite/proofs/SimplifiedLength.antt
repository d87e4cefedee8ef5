-- The number of the steps that simplify, and of the conditions of a planning list.
use Rattle.std.proofs.Common.{◌≡◌, ℕ, zero, suc, ◌+◌, ◌*◌, ◌-◌, ◌<◌, ◌≤◌, Bool, true, false, not, refl, ap, ◌∙◌, List, [], ◌∷◌, ◌++◌, length, map, flat_map, length-append, nat_le, Option, Some, None, option_map, unwrap_or, is_some, arith, if◌then◌else◌}
use Rattle.std.proofs.lemmas.Bool.{leb-true}
use Rattle.std.proofs.lemmas.List.{length-map}
use Rattle.std.proofs.lemmas.List.Quantifiers.{position-Some}
use Rattle.expr.specs.Bound.{BoundExpr, And, one_expr, CurrentUser}
use Rattle.expr.specs.BoundQuery.{BoundQuery}
use Rattle.expr.specs.Conjuncts.{movable_conjuncts}
use Rattle.predicates.specs.Offsets.{without_offsets}
use Rattle.row_terms.specs.Written.{left_conditions}
use Rattle.row_terms.specs.declared.path.Branch.TheVariants.{First}
use Rattle.algebra.specs.PlanningList.{Planned, written_conditions, simplified, simplified_parts, parts_of, consequence, with_any, with_each, with_all, with_consequences, with_others, without_repeats, is_too_long, turns, first_turning, turned, finished, entries_before_lefts, planning_list}
use Rattle.value.specs.Limits.{most_conjuncts, most_entries}
use Rattle.algebra.specs.Runs.{stands_in}
use Rattle.algebra.specs.Steps.{Step}
use Rattle.rewrite.specs.Listing.{turning_parts, completing, simplifying_from, simplifying}
use Rattle.rewrite.specs.Simplifying.{simplifying_each, repeated, parting, parting_each, from_top, adding, adding_each, adding_all, dropping}
use Rattle.rewrite.specs.Trails.{plain, at_root, at_root_with, down, all_down, below_filters}
use Rattle.rewrite.specs.Turning.{downward, upward, making_inner, turning, parting_on, turning_at, turning_all}

length-below_filters : (n : ℕ) (ss : List Step) → length (below_filters n ss) ≡ length ss
length-below_filters zero ss = refl
length-below_filters (suc n) ss = length-below_filters n (all_down First ss) ∙ length-map ss (down First)

-- two steps for each condition
length-simplifying_each : (es : List BoundExpr) → length (simplifying_each es) ≡ length es + length es
length-simplifying_each [] = refl
length-simplifying_each (e ∷ es) =
    let step : List Step = below_filters (length es) (at_root 13 ∷ at_root 14 ∷ []) in
    let two : length step ≡ 2 = length-below_filters (length es) (at_root 13 ∷ at_root 14 ∷ []) in
    omega (arith, length-append step (simplifying_each es), two, length-simplifying_each es)

length-repeated : (n : ℕ) (s : Step) → length (repeated n s) ≡ n
length-repeated zero s = refl
length-repeated (suc n) s = ap suc (length-repeated n s)

some_part : (e : BoundExpr) → 1 ≤ length (parts_of e)
some_part (And offset (one_expr e (one_expr f es))) = omega arith
some_part _ = omega arith

-- a step for each part but the first of a condition
length-parting_each : (es : List BoundExpr) → length (parting_each es) + length es ≡ length (flat_map parts_of es)
length-parting_each [] = refl
length-parting_each (e ∷ es) =
    let steps : List Step = below_filters (length es) (parting e) in
    let all : length steps ≡ length (parts_of e) - 1 = length-below_filters (length es) (parting e) ∙ length-repeated (length (parts_of e) - 1) (at_root 1) in
    omega (arith, length-append steps (parting_each es), all, some_part e, length-append (parts_of e) (flat_map parts_of es), length-parting_each es)

-- a step for each condition that is added
length-adding : (known : List BoundExpr) (o : Option BoundExpr) (i j : ℕ) → length (adding known o i j) + length known ≡ length (with_any known o)
length-adding known None i j = omega arith
length-adding known (Some e) i j = go (stands_in e known)
  where
    go : (b : Bool) → length (if b then [] else at_root_with 12 (from_top known i ∷ from_top known j ∷ []) ∷ []) + length known ≡ length (if b then known else known ++ e ∷ [])
    go true = omega arith
    go false = omega (arith, length-append known (e ∷ []))

pub length-adding_each : (known : List BoundExpr) (i : ℕ) (p : BoundExpr) (j : ℕ) (qs : List BoundExpr) → length (adding_each known i p j qs) + length known ≡ length (with_each known p qs)
length-adding_each known i p j [] = omega arith
length-adding_each known i p j (q ∷ qs) =
    let new : List BoundExpr = with_any known (consequence p q) in
    omega (arith, length-append (adding known (consequence p q) i j) (adding_each new i p (suc j) qs), length-adding known (consequence p q) i j, length-adding_each new i p (suc j) qs)

pub length-adding_all : (known : List BoundExpr) (i : ℕ) (ps qs : List BoundExpr) → length (adding_all known i ps qs) + length known ≡ length (with_all known ps qs)
length-adding_all known i [] qs = omega arith
length-adding_all known i (p ∷ ps) qs =
    let new : List BoundExpr = with_each known p qs in
    omega (arith, length-append (adding_each known i p 0 qs) (adding_all new (suc i) ps qs), length-adding_each known i p 0 qs, length-adding_all new (suc i) ps qs)

-- a step for each condition that is dropped
length-dropping : (known es : List BoundExpr) → length (dropping known es) + length (with_others known es) ≡ length known + length es
length-dropping known [] = omega arith
length-dropping known (e ∷ es) = go (stands_in e known) (λ new. length-dropping new es)
  where
    go : (b : Bool) → ((new : List BoundExpr) → length (dropping new es) + length (with_others new es) ≡ length new + length es)
        → length ((if b then below_filters (length es) (at_root 10 ∷ []) else []) ++ dropping (if b then known else known ++ e ∷ []) es) + length (with_others (if b then known else known ++ e ∷ []) es) ≡ length known + suc (length es)
    go true rest = omega (arith, length-append (below_filters (length es) (at_root 10 ∷ [])) (dropping known es), length-below_filters (length es) (at_root 10 ∷ []), rest known)
    go false rest = omega (arith, length-append known (e ∷ []), rest (known ++ e ∷ []))

-- ---- entries that become inner

length-downward : (n : ℕ) (s : Step) → length (downward n s) ≡ n
length-downward zero s = refl
length-downward (suc n) s = let a = length-append (downward n s) (below_filters n (s ∷ [])) in let b = length-below_filters n (s ∷ []) in let c = length-downward n s in omega (arith, a, b, c)

length-upward : (n : ℕ) (s : Step) → length (upward n s) ≡ n
length-upward zero s = refl
length-upward (suc n) s = let a = length-append (below_filters n (s ∷ [])) (upward n s) in let b = length-below_filters n (s ∷ []) in let c = length-upward n s in omega (arith, a, b, c)

length-making_inner : (lefts : ℕ) → length (making_inner lefts) ≡ 3 * lefts + 1
length-making_inner lefts =
    let down : List Step = downward lefts (at_root 20) in
    let make : List Step = below_filters lefts (at_root 19 ∷ []) in
    let up : List Step = upward lefts (plain 20 true) in
    omega (
      arith,
      length-append down (make ++ (up ++ below_filters 1 up)),
      length-append make (up ++ below_filters 1 up),
      length-append up (below_filters 1 up),
      length-below_filters 1 up,
      length-below_filters lefts (at_root 19 ∷ []),
      length-downward lefts (at_root 20),
      length-upward lefts (plain 20 true),
    )

length-turning : (count under lefts : ℕ) → length (turning count under lefts) ≡ 2 * under + count + 3 * lefts + 1
length-turning count under lefts =
    let down : List Step = downward under (at_root 3) in
    let make : List Step = below_filters under (making_inner lefts) in
    let up : List Step = upward under (at_root 3) in
    omega (
      arith,
      length-append (below_filters (count - 1 - under) (down ++ (make ++ up))) (upward count (at_root 3)),
      length-below_filters (count - 1 - under) (down ++ (make ++ up)),
      length-append down (make ++ up),
      length-append make up,
      length-below_filters under (making_inner lefts),
      length-making_inner lefts,
      length-downward under (at_root 3),
      length-upward under (at_root 3),
      length-upward count (at_root 3),
    )

-- the parts of an ON
added_parts : (on : BoundExpr) → length (parts_of on) ≤ length (simplified_parts (parts_of on))
added_parts on = let a = length-parting_each (map simplified (parts_of on)) in let b = length-map (parts_of on) simplified in omega (arith, a, b)

length-parting_on : (on : BoundExpr) → length (parting_on on) + 1 ≤ 3 * length (simplified_parts (parts_of on))
length-parting_on on =
    let ps : List BoundExpr = parts_of on in
    let first : List Step = parting on in
    let second : List Step = simplifying_each ps in
    let third : List Step = parting_each (map simplified ps) in
    omega (
      arith,
      length-append first (second ++ third),
      length-append second third,
      length-repeated (length ps - 1) (at_root 1),
      some_part on,
      length-simplifying_each ps,
      length-parting_each (map simplified ps),
      length-map ps simplified,
      added_parts on,
    )

turned_more : (ons : List BoundExpr) (n : ℕ) (es : List BoundExpr) → length es ≤ length (turned n es ons).conditions
turned_more [] n es = omega arith
turned_more (on ∷ ons) n es = go (is_some (first_turning n es)) (turned_more ons (suc n) (es ++ simplified_parts (parts_of on)))
  where
    more : List BoundExpr
    more = es ++ simplified_parts (parts_of on)

    go : (b : Bool) → length more ≤ length (turned (suc n) more ons).conditions → length es ≤ length (if b then turned (suc n) more ons else record { conditions = es; lefts = on ∷ ons }).conditions
    go true h = let a = length-append es (simplified_parts (parts_of on)) in omega (arith, h, a)
    go false h = omega arith

-- the most steps of one entry, its ON apart
abbrev most_turning : ℕ
most_turning = 3 * most_conjuncts + 3 * most_entries - 11

-- within the limits, so many steps of entries that become inner
length-turning_all : (ons : List BoundExpr) (n : ℕ) (es : List BoundExpr) → length ons ≤ most_entries - 1 → length (turned n es ons).conditions ≤ most_conjuncts
    → length (turning_all n es ons) + 3 * length es ≤ 3 * length (turned n es ons).conditions + most_turning * length ons
length-turning_all [] n es few h = omega arith
length-turning_all (on ∷ ons) n es few h = go (first_turning n es) refl h (length-turning_all ons (suc n) (es ++ simplified_parts (parts_of on)) (omega (arith, few)))
  where
    more : List BoundExpr
    more = es ++ simplified_parts (parts_of on)

    go : (o : Option ℕ) → first_turning n es ≡ o → length (if is_some o then turned (suc n) more ons else record { conditions = es; lefts = on ∷ ons }).conditions ≤ most_conjuncts
        → (length (turned (suc n) more ons).conditions ≤ most_conjuncts → length (turning_all (suc n) more ons) + 3 * length more ≤ 3 * length (turned (suc n) more ons).conditions + most_turning * length ons)
        → length (unwrap_or (option_map (λ i. turning_at es on (length ons) i ++ turning_all (suc n) more ons) o) []) + 3 * length es
        ≤ 3 * length (if is_some o then turned (suc n) more ons else record { conditions = es; lefts = on ∷ ons }).conditions + most_turning * suc (length ons)
    go None e k further = omega arith
    go (Some i) e k further =
        let found = position-Some (turns n) es i CurrentUser e in
        let within : i < length es = found.0 in
        omega (
          arith,
          further k,
          within,
          few,
          k,
          turned_more ons (suc n) more,
          length-append es (simplified_parts (parts_of on)),
          added_parts on,
          some_part on,
          length-append (turning_at es on (length ons) i) (turning_all (suc n) more ons),
          length-append (turning (length es) i (length ons)) (parting_on on),
          length-turning (length es) i (length ons),
          length-parting_on on,
        )

-- ---- within the limits

pub is_few : (es : List BoundExpr) → is_too_long es ≡ false → length es ≤ most_conjuncts
is_few es h = go (nat_le (length es) most_conjuncts) refl h
  where
    go : (b : Bool) → nat_le (length es) most_conjuncts ≡ b → not b ≡ false → length es ≤ most_conjuncts
    go true e k = leb-true (length es) most_conjuncts e
    go false e k = absurd (cc)

length-completing : (es : List BoundExpr) → length (completing es) + length es ≤ 2 * length (with_consequences es)
length-completing es =
    let all : List BoundExpr = with_consequences es in
    omega (arith, length-append (adding_all es 0 es es) (dropping [] all), length-adding_all es 0 es es, length-dropping [] all)

-- the most steps that simplify
abbrev pub most_simplifying : ℕ
most_simplifying = 4 * most_conjuncts + most_turning * (most_entries - 1)

module _ (first : ℕ) (written ons : List BoundExpr) (few : length written ≤ most_conjuncts) (few_ons : length ons ≤ most_entries - 1) where
  abbrev parts : List BoundExpr
  parts = simplified_parts written

  abbrev es : List BoundExpr
  es = (turned first parts ons).conditions

  length-turning_parts : length es ≤ most_conjuncts → length (turning_parts first written ons) ≤ 3 * length es + most_turning * (most_entries - 1)
  length-turning_parts h =
      let one : List Step = simplifying_each written in
      let two : List Step = parting_each (map simplified written) in
      let three : List Step = turning_all first parts ons in
      omega (
        arith,
        few_ons,
        length-append one (two ++ three),
        length-append two three,
        length-simplifying_each written,
        length-parting_each (map simplified written),
        length-map written simplified,
        turned_more ons first parts,
        length-turning_all ons first parts few_ons h,
      )

  few_steps : length (simplifying_from first written ons) ≤ most_simplifying
  few_steps = go (is_too_long es) (is_too_long (with_consequences es)) refl refl
    where
      go : (b c : Bool) → is_too_long es ≡ b → is_too_long (with_consequences es) ≡ c → length (if b then [] else if c then [] else turning_parts first written ons ++ completing es) ≤ most_simplifying
      go true c e f = omega arith
      go false true e f = omega arith
      go false false e f =
          let a = length-append (turning_parts first written ons) (completing es) in
          let b = length-turning_parts (is_few es e) in
          let c = length-completing es in
          let d = is_few (with_consequences es) f in
          let g = is_few es e in
          omega (arith, a, b, c, d, g)

few_conditions : (written : List BoundExpr) → length written ≤ most_conjuncts → (as_written turning : Planned) → as_written.conditions ≡ written → length (finished as_written turning).conditions ≤ most_conjuncts
few_conditions written few as_written turning same = go (is_too_long turning.conditions) (is_too_long all) refl
  where
    all : List BoundExpr
    all = with_consequences turning.conditions

    as_few : length as_written.conditions ≤ most_conjuncts
    as_few = rw same few

    go : (b c : Bool) → is_too_long all ≡ c → length (if b then as_written else if c then as_written else record { conditions = without_repeats all; lefts = turning.lefts }).conditions ≤ most_conjuncts
    go true c e = as_few
    go false true e = as_few
    go false false e = omega (arith, is_few all e, length-dropping [] all)

module _ (q : BoundQuery) (few : length (movable_conjuncts q) ≤ most_conjuncts) where
  few_written : length (written_conditions q) ≤ most_conjuncts
  few_written = rw (length-map (movable_conjuncts q) without_offsets) few

  -- of a query within the limits
  pub simplifying_length : length (left_conditions q) ≤ most_entries - 1 → length (simplifying q) ≤ most_simplifying
  simplifying_length few_ons = few_steps (entries_before_lefts q) (written_conditions q) (left_conditions q) few_written few_ons

  pub planning_length : length (planning_list q) ≤ most_conjuncts
  planning_length =
      few_conditions (written_conditions q) few_written (record { conditions = written_conditions q; lefts = left_conditions q })
      (turned (entries_before_lefts q) (simplified_parts (written_conditions q)) (left_conditions q)) refl
