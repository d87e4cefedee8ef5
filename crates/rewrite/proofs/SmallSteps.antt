-- The steps of a plan's trail are small: each has a rule below 64, and at most two arguments.
use Rattle.std.proofs.Common.{◌≡◌, refl, ℕ, zero, suc, ◌+◌, ◌-◌, ◌<◌, ◌≤◌, ◌==◌, Bool, true, false, List, [], ◌∷◌, ◌++◌, length, map, Option, Some, None, option_map, unwrap_or, if◌then◌else◌, arith}
use Rattle.value.specs.Limits.{most_conjuncts}
use Rattle.bags.proofs.Members.{Each, each-append}
use Rattle.expr.specs.Bound.{BoundExpr}
use Rattle.expr.specs.BoundQuery.{BoundQuery}
use Rattle.expr.specs.Codes as codes
use Rattle.expr.specs.Codes.{Code}
use Rattle.predicates.specs.Equalities.{is_never_true}
use Rattle.row_terms.specs.declared.path.Branch.{Branch}
use Rattle.row_terms.specs.declared.path.Branch.TheVariants.{First, Second}
use Rattle.row_terms.specs.Written.{left_conditions}
use Rattle.row_terms.specs.Terms.{Term, Raw, Guarded, Filtered, Joined, LeftJoined, Empty}
use Rattle.algebra.specs.PlanningList.{written_conditions, simplified, simplified_parts, parts_of, consequence, with_condition, with_any, with_each, with_all, with_consequences, is_too_long, first_turning, turned, entries_before_lefts}
use Rattle.algebra.specs.Rules.{is_open}
use Rattle.algebra.specs.Runs.{reads_only, stands_in}
use Rattle.algebra.specs.Steps.{Step}
use Rattle.tuples.specs.Guards.{Guard}
use Rattle.trailcheck.specs.Entries.{is_over}
use Rattle.trailcheck.specs.Settings.{Setting}
use Rattle.trailcheck.specs.Shapes.{inner_steps, left_steps}
use Rattle.rewrite.specs.Trails.{plain, at_root, at_root_with, down, all_down, below_filters}
use Rattle.rewrite.specs.Listing.{turning_parts, completing, simplifying_from, simplifying}
use Rattle.rewrite.specs.Simplifying.{simplifying_each, repeated, parting, parting_each, from_top, adding, adding_each, adding_all, dropping}
use Rattle.rewrite.specs.Turning.{downward, upward, making_inner, turning, parting_on, turning_at, turning_all}
use Rattle.rewrite.specs.Placing.{without, exchanging, raising, ordering, opening_one, opening, below_lefts, all_opened, joining, arranging, passes, sinking, settled, settling, settling_all, clearing, emptying, from_entries, code_entries, placing}
use Rattle.rewrite.proofs.SimplifiedLength.{is_few, length-adding_each, length-adding_all}

-- a rule below 64, with at most two arguments, none of them more than conditions may be
pub record IsSmall (s : Step) : Type 0 where
  pub rule : s.rule < 64
  pub arguments : Each (λ a. a ≤ most_conjuncts) s.arguments
  pub few : length s.arguments ≤ 2

abbrev pub AreSmall : List Step → Type 0
AreSmall ss = Each IsSmall ss

-- ---- steps further down

small_down : (b : Branch) (s : Step) → IsSmall s → IsSmall (down b s)
small_down b s h = record { rule = h.rule; arguments = h.arguments; few = h.few }

small_all : (b : Branch) (ss : List Step) → AreSmall ss → AreSmall (all_down b ss)
small_all b [] h = tt
small_all b (s ∷ ss) h = (small_down b s h.0, small_all b ss h.1)

small_below : (n : ℕ) (ss : List Step) → AreSmall ss → AreSmall (below_filters n ss)
small_below zero ss h = h
small_below (suc n) ss h = small_below n (all_down First ss) (small_all First ss h)

small_root : (rule : ℕ) → rule < 64 → IsSmall (at_root rule)
small_root rule h = record { rule = h; arguments = tt; few = omega arith }

one_root : (rule : ℕ) → rule < 64 → AreSmall (at_root rule ∷ [])
one_root rule h = (small_root rule h, tt)

both : (ss ts : List Step) → AreSmall ss → AreSmall ts → AreSmall (ss ++ ts)
both ss ts h k = each-append IsSmall ss ts h k

-- ---- the steps that simplify

each_small : (es : List BoundExpr) → AreSmall (simplifying_each es)
each_small [] = tt
each_small (e ∷ es) =
    both (below_filters (length es) (at_root 13 ∷ at_root 14 ∷ [])) (simplifying_each es) (small_below (length es) (at_root 13 ∷ at_root 14 ∷ []) (small_root 13 (omega arith), (small_root 14 (omega arith), tt))) (each_small es)

repeated_small : (n : ℕ) (s : Step) → IsSmall s → AreSmall (repeated n s)
repeated_small zero s h = tt
repeated_small (suc n) s h = (h, repeated_small n s h)

parting_small : (es : List BoundExpr) → AreSmall (parting_each es)
parting_small [] = tt
parting_small (e ∷ es) =
    both (below_filters (length es) (parting e)) (parting_each es) (small_below (length es) (parting e) (repeated_small (length (parts_of e) - 1) (at_root 1) (small_root 1 (omega arith)))) (parting_small es)

adding_small : (known : List BoundExpr) (o : Option BoundExpr) (i j : ℕ) → length known ≤ most_conjuncts → AreSmall (adding known o i j)
adding_small known None i j few = tt
adding_small known (Some e) i j few = go (stands_in e known)
  where
    go : (b : Bool) → AreSmall (if b then [] else at_root_with 12 (from_top known i ∷ from_top known j ∷ []) ∷ [])
    go true = tt
    go false = (record { rule = omega arith; arguments = (omega (arith, few), (omega (arith, few), tt)); few = omega arith }, tt)

adding_each_small : (known : List BoundExpr) (i : ℕ) (p : BoundExpr) (j : ℕ) (qs : List BoundExpr) → length (with_each known p qs) ≤ most_conjuncts → AreSmall (adding_each known i p j qs)
adding_each_small known i p j [] few = tt
adding_each_small known i p j (q ∷ qs) few =
    let new : List BoundExpr = with_any known (consequence p q) in
    let n = length-adding_each known i p j (q ∷ qs) in
    both (adding known (consequence p q) i j) (adding_each new i p (suc j) qs) (adding_small known (consequence p q) i j (omega (arith, n, few))) (adding_each_small new i p (suc j) qs few)

adding_all_small : (known : List BoundExpr) (i : ℕ) (ps qs : List BoundExpr) → length (with_all known ps qs) ≤ most_conjuncts → AreSmall (adding_all known i ps qs)
adding_all_small known i [] qs few = tt
adding_all_small known i (p ∷ ps) qs few =
    let new : List BoundExpr = with_each known p qs in
    let n = length-adding_all new (suc i) ps qs in
    both (adding_each known i p 0 qs) (adding_all new (suc i) ps qs) (adding_each_small known i p 0 qs (omega (arith, n, few))) (adding_all_small new (suc i) ps qs few)

dropping_small : (known es : List BoundExpr) → AreSmall (dropping known es)
dropping_small known [] = tt
dropping_small known (e ∷ es) = both (if stands_in e known then below_filters (length es) (at_root 10 ∷ []) else []) (dropping (with_condition known e) es) (go (stands_in e known)) (dropping_small (with_condition known e) es)
  where
    go : (b : Bool) → AreSmall (if b then below_filters (length es) (at_root 10 ∷ []) else [])
    go true = small_below (length es) (at_root 10 ∷ []) (one_root 10 (omega arith))
    go false = tt

completing_small : (es : List BoundExpr) → length (with_consequences es) ≤ most_conjuncts → AreSmall (completing es)
completing_small es few = both (adding_all es 0 es es) (dropping [] (with_consequences es)) (adding_all_small es 0 es es few) (dropping_small [] (with_consequences es))

-- ---- the steps by which entries become inner

downward_small : (n : ℕ) (s : Step) → IsSmall s → AreSmall (downward n s)
downward_small zero s h = tt
downward_small (suc n) s h = both (downward n s) (below_filters n (s ∷ [])) (downward_small n s h) (small_below n (s ∷ []) (h, tt))

upward_small : (n : ℕ) (s : Step) → IsSmall s → AreSmall (upward n s)
upward_small zero s h = tt
upward_small (suc n) s h = both (below_filters n (s ∷ [])) (upward n s) (small_below n (s ∷ []) (h, tt)) (upward_small n s h)

making_small : (lefts : ℕ) → AreSmall (making_inner lefts)
making_small lefts =
    let down = downward lefts (at_root 20) in
    let make = below_filters lefts (at_root 19 ∷ []) in
    let up = upward lefts (plain 20 true) in
    let rises : AreSmall up = upward_small lefts (plain 20 true) (record { rule = omega arith; arguments = tt; few = omega arith }) in
    both down (make ++ (up ++ below_filters 1 up)) (downward_small lefts (at_root 20) (small_root 20 (omega arith)))
    (both make (up ++ below_filters 1 up) (small_below lefts (at_root 19 ∷ []) (one_root 19 (omega arith))) (both up (below_filters 1 up) rises (small_below 1 up rises)))

turning_small : (count under lefts : ℕ) → AreSmall (turning count under lefts)
turning_small count under lefts =
    let down = downward under (at_root 3) in
    let make = below_filters under (making_inner lefts) in
    let up = upward under (at_root 3) in
    let swaps = small_root 3 (omega arith) in
    both (below_filters (count - 1 - under) (down ++ (make ++ up))) (upward count (at_root 3))
    (small_below (count - 1 - under) (down ++ (make ++ up)) (both down (make ++ up) (downward_small under (at_root 3) swaps) (both make up (small_below under (making_inner lefts) (making_small lefts)) (upward_small under (at_root 3) swaps))))
    (upward_small count (at_root 3) swaps)

parting_on_small : (on : BoundExpr) → AreSmall (parting_on on)
parting_on_small on =
    let ps = parts_of on in
    both (parting on) (simplifying_each ps ++ parting_each (map simplified ps)) (repeated_small (length ps - 1) (at_root 1) (small_root 1 (omega arith)))
    (both (simplifying_each ps) (parting_each (map simplified ps)) (each_small ps) (parting_small (map simplified ps)))

turning_all_small : (ons : List BoundExpr) (n : ℕ) (es : List BoundExpr) → AreSmall (turning_all n es ons)
turning_all_small [] n es = tt
turning_all_small (on ∷ ons) n es = go (first_turning n es) (turning_all_small ons (suc n) (es ++ simplified_parts (parts_of on)))
  where
    more : List Step
    more = turning_all (suc n) (es ++ simplified_parts (parts_of on)) ons

    go : (o : Option ℕ) → AreSmall more → AreSmall (unwrap_or (option_map (λ i. turning_at es on (length ons) i ++ more) o) [])
    go None h = tt
    go (Some i) h =
        let turn = turning (length es) i (length ons) in
        both (turn ++ parting_on on) more (both turn (parting_on on) (turning_small (length es) i (length ons)) (parting_on_small on)) h

-- ---- all that simplify

module _ (first : ℕ) (written ons : List BoundExpr) where
  abbrev es : List BoundExpr
  es = (turned first (simplified_parts written) ons).conditions

  turning_parts_small : AreSmall (turning_parts first written ons)
  turning_parts_small =
      let one = simplifying_each written in
      let two = parting_each (map simplified written) in
      let three = turning_all first (simplified_parts written) ons in
      both one (two ++ three) (each_small written) (both two three (parting_small (map simplified written)) (turning_all_small ons first (simplified_parts written)))

  from_small : AreSmall (simplifying_from first written ons)
  from_small = go (is_too_long es) (is_too_long (with_consequences es)) refl
    where
      go : (b c : Bool) → is_too_long (with_consequences es) ≡ c → AreSmall (if b then [] else if c then [] else turning_parts first written ons ++ completing es)
      go true c e = tt
      go false true e = tt
      go false false e = both (turning_parts first written ons) (completing es) turning_parts_small (completing_small es (is_few (with_consequences es) e))

pub simplifying_small : (q : BoundQuery) → AreSmall (simplifying q)
simplifying_small q = from_small (entries_before_lefts q) (written_conditions q) (left_conditions q)

-- ---- the steps that place conditions

exchanging_small : (is : List ℕ) → AreSmall (exchanging is)
exchanging_small [] = tt
exchanging_small (j ∷ []) = one_root 6 (omega arith)
exchanging_small (j ∷ (k ∷ more)) = one_root 7 (omega arith)

raising_small : (c : ℕ) (is : List ℕ) → AreSmall (raising c is)
raising_small c [] = tt
raising_small c (i ∷ is) = go (i == c) (raising_small c is)
  where
    go : (b : Bool) → AreSmall (raising c is) → AreSmall (if b then [] else all_down First (raising c is) ++ exchanging is)
    go true h = tt
    go false h = both (all_down First (raising c is)) (exchanging is) (small_all First (raising c is) h) (exchanging_small is)

ordering_small : (wanted is : List ℕ) → AreSmall (ordering wanted is)
ordering_small [] is = tt
ordering_small (c ∷ cs) is = both (raising c is) (all_down First (ordering cs (without c is))) (raising_small c is) (small_all First (ordering cs (without c is)) (ordering_small cs (without c is)))

opening_one_small : (frame : List Guard) (i : ℕ) → AreSmall (opening_one frame i)
opening_one_small frame i = go (is_open frame i)
  where
    go : (b : Bool) → AreSmall (if b then at_root 9 ∷ [] else [])
    go true = one_root 9 (omega arith)
    go false = tt

opening_small : (frame : List Guard) (is : List ℕ) → AreSmall (opening frame is)
opening_small frame [] = tt
opening_small frame (i ∷ []) = opening_one_small frame i
opening_small frame (i ∷ (j ∷ more)) =
    both (all_down Second (opening_one frame i)) (all_down First (opening frame (j ∷ more))) (small_all Second (opening_one frame i) (opening_one_small frame i)) (small_all First (opening frame (j ∷ more)) (opening_small frame (j ∷ more)))

module _ (count : ℕ) where
  sinking_small : (e : BoundExpr) (x : Term) → AreSmall (sinking count e x)
  sinking_small e (Raw i) = tt
  sinking_small e (Empty is) = tt
  sinking_small e (Guarded i x) = (small_root 8 (omega arith), small_all First (sinking count e x) (sinking_small e x))
  sinking_small e (Filtered a x) = go (passes count e a x) (sinking_small e x)
    where
      go : (b : Bool) → AreSmall (sinking count e x) → AreSmall (if b then at_root 3 ∷ all_down First (sinking count e x) else [])
      go true h = (small_root 3 (omega arith), small_all First (sinking count e x) h)
      go false h = tt
  sinking_small e (Joined x y) = go (reads_only x e) (reads_only y e) (sinking_small e x) (sinking_small e y)
    where
      go : (b c : Bool) → AreSmall (sinking count e x) → AreSmall (sinking count e y) →
          AreSmall (if b then at_root 4 ∷ all_down First (sinking count e x) else if c then at_root 5 ∷ all_down Second (sinking count e y) else [])
      go true c h k = (small_root 4 (omega arith), small_all First (sinking count e x) h)
      go false true h k = (small_root 5 (omega arith), small_all Second (sinking count e y) k)
      go false false h k = tt
  sinking_small e (LeftJoined on x y) = go (reads_only x e) (sinking_small e x)
    where
      go : (b : Bool) → AreSmall (sinking count e x) → AreSmall (if b then at_root 20 ∷ all_down First (sinking count e x) else [])
      go true h = (small_root 20 (omega arith), small_all First (sinking count e x) h)
      go false h = tt

  settling_small : (e : BoundExpr) (x : Term) → AreSmall (settling count e x)
  settling_small e x = go (is_over count e)
    where
      go : (b : Bool) → AreSmall (if b then sinking count e x else [])
      go true = sinking_small e x
      go false = tt

  settling_all_small : (es : List BoundExpr) (x : Term) → AreSmall (settling_all count es x)
  settling_all_small [] x = tt
  settling_all_small (e ∷ es) x =
      both (below_filters (length es) (settling count e x)) (settling_all count es (settled count e x)) (small_below (length es) (settling count e x) (settling_small e x)) (settling_all_small es (settled count e x))

clearing_small : (n : ℕ) → AreSmall (clearing n)
clearing_small zero = tt
clearing_small (suc n) = both (below_filters n (at_root 16 ∷ [])) (clearing n) (small_below n (at_root 16 ∷ []) (one_root 16 (omega arith))) (clearing_small n)

emptying_small : (es : List BoundExpr) → AreSmall (emptying es)
emptying_small [] = tt
emptying_small (e ∷ es) = go (is_never_true e) (emptying_small es)
  where
    go : (b : Bool) → AreSmall (emptying es) → AreSmall (if b then below_filters (length es) (at_root 15 ∷ []) ++ clearing (length es) else emptying es)
    go true h = both (below_filters (length es) (at_root 15 ∷ [])) (clearing (length es)) (small_below (length es) (at_root 15 ∷ []) (one_root 15 (omega arith))) (clearing_small (length es))
    go false h = h

below_lefts_small : (frame : List Guard) (is : List ℕ) (steps : List Step) → AreSmall steps → AreSmall (below_lefts frame is steps)
below_lefts_small frame [] steps h = h
below_lefts_small frame (i ∷ is) steps h =
    both (all_down Second (opening_one frame i)) (all_down First (below_lefts frame is steps)) (small_all Second (opening_one frame i) (opening_one_small frame i)) (small_all First (below_lefts frame is steps) (below_lefts_small frame is steps h))

placing_small : (at : Setting) (code : Code) → AreSmall (placing at code)
placing_small at codes.Empty = emptying_small at.conditions
placing_small at (codes.Steps ss) =
    let cs = code_entries at (inner_steps at ss) in
    let order = ordering cs (from_entries at) in
    let way = arranging at (code_entries at (left_steps at ss)) cs in
    both (below_filters (length at.conditions) way) (settling_all (length at.frame) at.conditions (all_opened at cs))
    (small_below (length at.conditions) way
    (below_lefts_small at.frame (code_entries at (left_steps at ss)) (joining at cs) (both order (opening at.frame cs) (ordering_small cs (from_entries at)) (opening_small at.frame cs))))
    (settling_all_small (length at.frame) at.conditions (all_opened at cs))

-- ---- all of it

pub trail_small : (at : Setting) (q : BoundQuery) (code : Code) → AreSmall (simplifying q ++ placing at code)
trail_small at q code = both (simplifying q) (placing at code) (simplifying_small q) (placing_small at code)
