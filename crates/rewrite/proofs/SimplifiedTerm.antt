-- The steps of simplifying lead from the written term to the planning list over the joins.
use Rattle.std.proofs.Common.{◌≡◌, ℕ, zero, suc, ◌+◌, ◌-◌, ◌<◌, Bool, true, false, refl, sym, ap, subst, ◌∙◌, List, [], ◌∷◌, ◌++◌, length, map, slice_get, Option, Some, None, Ok, if◌then◌else◌, arith}
use Rattle.memory.specs.Results.{and_then}
use Rattle.expr.specs.Bound.{BoundExpr}
use Rattle.tuples.specs.Guards.{Guard}
use Rattle.row_terms.specs.Terms.{Term, Filtered, LeftJoined}
use Rattle.row_terms.specs.Written.{guarded_entry, joins, left_joins, left_conditions, all_joins, filters, written}
use Rattle.algebra.specs.PlanningList.{Planned, written_conditions, simplified, simplified_parts, is_across, consequence, with_any, with_each, with_all, with_consequences, with_others, without_repeats, is_too_long, turned, finished, entries_before_lefts, planning_list, remaining_lefts, reach}
use Rattle.algebra.specs.Rules.{constant_of, by_run, under, where_met}
use Rattle.algebra.specs.Runs.{run, stands_in}
use Rattle.rewrite.specs.Laws.{SimplifiesEach}
use Rattle.rewrite.specs.Listing.{turning_parts, completing, simplifying_from, simplifying}
use Rattle.rewrite.specs.Simplifying.{simplifying_each, parting_each, from_top, adding, adding_each, adding_all, dropping}
use Rattle.rewrite.specs.Turning.{turning_all}
use Rattle.rewrite.specs.Trails.{led, at_root, at_root_with, below_filters}
use Rattle.rewrite.proofs.AllTurned.{all_left, all_turned}
use Rattle.rewrite.proofs.Leads.{led_filters}
use Rattle.rewrite.proofs.SimplifiedKnown.{found_from_top, stands_in_run, kept_with_any, kept_with_each, Found, found_first, found_rest, found_still, found_all}
use Rattle.rewrite.proofs.SimplifiedParts.{filters_append, led_on, each_simplified, each_parted}

-- ---- consequences

constant_is : (p q e : BoundExpr) → consequence p q ≡ Some e → constant_of p q ≡ Some e
constant_is p q e = go (is_across p)
  where
    go : (b : Bool) → (if b then constant_of p q else None) ≡ Some e → constant_of p q ≡ Some e
    go true h = h
    go false h = absurd (cc)

follows_by_run : (es : List BoundExpr) (m n : ℕ) (p q e : BoundExpr) → slice_get es m ≡ Some p → slice_get es n ≡ Some q → constant_of p q ≡ Some e → by_run constant_of m n es ≡ Some e
follows_by_run es m n p q e hp hq h = rw (hp, hq) h

module _ (frame : List Guard) (x : Term) (ends : run x ≡ []) where
  module _ (known : List BoundExpr) (i j : ℕ) (p q : BoundExpr) (hp : slice_get known i ≡ Some p) (hq : slice_get known j ≡ Some q) where
    step_added : (e : BoundExpr) → consequence p q ≡ Some e → led frame (at_root_with 12 (from_top known i ∷ from_top known j ∷ []) ∷ []) (filters known x) ≡ Ok (Filtered e (filters known x))
    step_added e h =
        ap (λ o. and_then (under o (filters known x)) (led frame []))
        (follows_by_run (run (filters known x)) (from_top known i) (from_top known j) p q e (found_from_top x ends known i p hp) (found_from_top x ends known j q hq) (constant_is p q e h))

    one_added : led frame (adding known (consequence p q) i j) (filters known x) ≡ Ok (filters (with_any known (consequence p q)) x)
    one_added = go (consequence p q) refl
      where
        go : (o : Option BoundExpr) → consequence p q ≡ o → led frame (adding known o i j) (filters known x) ≡ Ok (filters (with_any known o) x)
        go None h = refl
        go (Some e) h = unless (stands_in e known)
          where
            unless : (b : Bool) → led frame (if b then [] else at_root_with 12 (from_top known i ∷ from_top known j ∷ []) ∷ []) (filters known x) ≡ Ok (filters (if b then known else known ++ e ∷ []) x)
            unless true = refl
            unless false = step_added e h ∙ ap Ok (sym (filters_append known (e ∷ []) x))

  each_added : (known : List BoundExpr) (i : ℕ) (p : BoundExpr) (j : ℕ) (qs : List BoundExpr) → slice_get known i ≡ Some p → Found known j qs
      → led frame (adding_each known i p j qs) (filters known x) ≡ Ok (filters (with_each known p qs) x)
  each_added known i p j [] hp found = refl
  each_added known i p j (q ∷ qs) hp found =
      let new = with_any known (consequence p q) in
      led_on frame (adding known (consequence p q) i j) (adding_each new i p (suc j) qs) (filters known x) (filters new x) _
      (one_added known i j p q hp (found_first known j q qs found))
      (each_added new i p (suc j) qs (kept_with_any known (consequence p q) i p hp) (found_still known new (suc j) qs (kept_with_any known (consequence p q)) (found_rest known j q qs found)))

  all_added : (known : List BoundExpr) (i : ℕ) (ps qs : List BoundExpr) → Found known i ps → Found known 0 qs → led frame (adding_all known i ps qs) (filters known x) ≡ Ok (filters (with_all known ps qs) x)
  all_added known i [] qs found others = refl
  all_added known i (p ∷ ps) qs found others =
      let new = with_each known p qs in
      led_on frame (adding_each known i p 0 qs) (adding_all new (suc i) ps qs) (filters known x) (filters new x) _
      (each_added known i p 0 qs (found_first known i p ps found) others)
      (all_added new (suc i) ps qs (found_still known new (suc i) ps (kept_with_each known p qs) (found_rest known i p ps found)) (found_still known new 0 qs (kept_with_each known p qs) others))

  consequences_added : (es : List BoundExpr) → led frame (adding_all es 0 es es) (filters es x) ≡ Ok (filters (with_consequences es) x)
  consequences_added es = all_added es 0 es es (found_all es) (found_all es)

  -- ---- repetitions

  step_dropped : (e : BoundExpr) (y : Term) → stands_in e (run y) ≡ true → led frame (at_root 10 ∷ []) (Filtered e y) ≡ Ok y
  step_dropped e y h = ap (λ b. and_then (where_met b y) (led frame [])) h

  others_left : (known es : List BoundExpr) → led frame (dropping known es) (filters es (filters known x)) ≡ Ok (filters (with_others known es) x)
  others_left known [] = refl
  others_left known (e ∷ es) = go (stands_in e known) refl (λ new. others_left new es)
    where
      go : (b : Bool) → stands_in e known ≡ b → ((new : List BoundExpr) → led frame (dropping new es) (filters es (filters new x)) ≡ Ok (filters (with_others new es) x))
          → led frame ((if b then below_filters (length es) (at_root 10 ∷ []) else []) ++ dropping (if b then known else known ++ e ∷ []) es) (filters es (Filtered e (filters known x)))
          ≡ Ok (filters (with_others (if b then known else known ++ e ∷ []) es) x)
      go true h rest =
          led_on frame (below_filters (length es) (at_root 10 ∷ [])) (dropping known es) (filters es (Filtered e (filters known x))) (filters es (filters known x)) _
          (led_filters frame es (at_root 10 ∷ []) (Filtered e (filters known x)) (filters known x) (step_dropped e (filters known x) (stands_in_run x ends e known ∙ h)))
          (rest known)
      go false h rest = ap (λ y. led frame (dropping (known ++ e ∷ []) es) (filters es y)) (sym (filters_append known (e ∷ []) x)) ∙ rest (known ++ e ∷ [])

  -- the consequences are added, and then repetitions dropped
  pub all_completed : (es : List BoundExpr) → led frame (completing es) (filters es x) ≡ Ok (filters (without_repeats (with_consequences es)) x)
  all_completed es =
      let all = with_consequences es in
      led_on frame (adding_all es 0 es es) (dropping [] all) (filters es x) (filters all x) (filters (without_repeats all) x) (consequences_added es) (others_left [] all)

-- ---- all of it

joins_run : (count : ℕ) → run (joins count) ≡ []
joins_run zero = refl
joins_run (suc zero) = refl
joins_run (suc (suc n)) = refl

lefts_run : (lefts : List BoundExpr) (first : ℕ) (x : Term) → run x ≡ [] → run (left_joins first lefts x) ≡ []
lefts_run [] first x h = h
lefts_run (on ∷ lefts) first x h = lefts_run lefts (suc first) (LeftJoined on x (guarded_entry first)) refl

all_run : (count : ℕ) (lefts : List BoundExpr) → run (all_joins count lefts) ≡ []
all_run count lefts = lefts_run lefts (count - length lefts) (joins (count - length lefts)) (joins_run (count - length lefts))

abbrev finished_if : (b c : Bool) → (written ons : List BoundExpr) → Planned → Planned
finished_if b c written ons p =
    if b then record { conditions = written; lefts = ons }
    else if c then record { conditions = written; lefts = ons }
    else record { conditions = without_repeats (with_consequences p.conditions); lefts = p.lefts }

module _ (frame : List Guard) (first : ℕ) (some : 0 < first) (ons : List BoundExpr) (in_reach : reach first ons ≡ true) (written : List BoundExpr) where
  abbrev parts : List BoundExpr
  parts = simplified_parts written

  abbrev end : Planned
  end = turned first parts ons

  abbrev count : ℕ
  count = first + length ons

  parts_turned : led frame (turning_parts first written ons) (filters written (left_joins first ons (joins first))) ≡ Ok (filters end.conditions (all_joins count end.lefts))
  parts_turned =
      let x = left_joins first ons (joins first) in
      let simple = map simplified written in
      led_on frame (simplifying_each written) (parting_each simple ++ turning_all first parts ons) (filters written x) (filters simple x) (filters end.conditions (all_joins count end.lefts))
      (each_simplified frame written x)
      (led_on frame (parting_each simple) (turning_all first parts ons) (filters simple x) (filters parts x) (filters end.conditions (all_joins count end.lefts))
      (each_parted frame simple x)
      (all_turned frame ons first parts some in_reach))

  -- where the conditions are too many there is no step
  if_few : (b c : Bool)
      → led frame (if b then [] else if c then [] else turning_parts first written ons ++ completing end.conditions) (filters written (left_joins first ons (joins first)))
      ≡ Ok (filters (finished_if b c written ons end).conditions (all_joins count (finished_if b c written ons end).lefts))
  if_few true c = ap (λ x. Ok (filters written x)) (all_left first ons)
  if_few false true = ap (λ x. Ok (filters written x)) (all_left first ons)
  if_few false false =
      let y = all_joins count end.lefts in
      led_on frame (turning_parts first written ons) (completing end.conditions) (filters written (left_joins first ons (joins first))) (filters end.conditions y) (filters (without_repeats (with_consequences end.conditions)) y)
      parts_turned (all_completed frame y (all_run count end.lefts) end.conditions)

  pub written_simplified : led frame (simplifying_from first written ons) (filters written (all_joins count ons))
      ≡ Ok (filters (finished (record { conditions = written; lefts = ons }) end).conditions (all_joins count (finished (record { conditions = written; lefts = ons }) end).lefts))
  written_simplified =
      ap (λ x. led frame (simplifying_from first written ons) (filters written x)) (sym (all_left first ons))
      ∙ if_few (is_too_long end.conditions) (is_too_long (with_consequences end.conditions))

pub simplifies_each : SimplifiesEach
simplifies_each frame q order =
    let ons = left_conditions q in
    let first = entries_before_lefts q in
    let inner = order.inner in
    let all : first + length ons ≡ length q.ons = omega (arith, inner) in
    subst (λ n. led frame (simplifying q) (written n q) ≡ Ok (filters (planning_list q) (all_joins n (remaining_lefts q)))) all
    (written_simplified frame first (omega (arith, inner)) ons order.reach (written_conditions q))
