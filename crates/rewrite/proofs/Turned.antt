-- The steps by which a left joined entry becomes inner lead there.
use Rattle.std.proofs.Common.{◌≡◌, refl, sym, ap, ◌∙◌, ℕ, suc, ◌+◌, ◌-◌, Bool, true, false, List, [], ◌∷◌, ◌++◌, length, Ok, length-append, arith}
use Rattle.std.proofs.lemmas.Bool.{or_left}
use Rattle.memory.specs.Results.{and_then}
use Rattle.expr.specs.declared.bound.ColumnId.{ColumnId}
use Rattle.expr.specs.Bound.{BoundExpr}
use Rattle.expr.specs.Columns.{columns}
use Rattle.predicates.specs.NullRows.{rejects_null_rows}
use Rattle.tuples.specs.Guards.{Guard}
use Rattle.row_terms.specs.Terms.{Term, Filtered, Joined, LeftJoined, covers}
use Rattle.row_terms.specs.Written.{guarded_entry, left_joins, filters}
use Rattle.algebra.specs.Rules.{where_met}
use Rattle.algebra.specs.Runs.{reads_only}
use Rattle.algebra.specs.Steps.{Step}
use Rattle.rewrite.specs.Trails.{led, plain, at_root, below_filters}
use Rattle.rewrite.specs.Turning.{downward, upward, making_inner, turning}
use Rattle.rewrite.proofs.Leads.{led_filter, led_filters, led_kept}
use Rattle.rewrite.proofs.SimplifiedParts.{filters_append, led_on}
use Rattle.rewrite.proofs.Tests.{all_follow}

-- the entries of a left join are those of its sides
reads_more : (on : BoundExpr) (x y : Term) (f : BoundExpr) → reads_only x f ≡ true → reads_only (LeftJoined on x y) f ≡ true
reads_more on x y f h = all_follow (λ (id : ColumnId). covers x id.entry) (λ id. covers (LeftJoined on x y) id.entry) (λ id e. or_left (covers x id.entry) (covers y id.entry) e) (columns f) h

module _ (frame : List Guard) where
  led_lefts : (ons : List BoundExpr) (k : ℕ) (ss : List Step) (x y : Term) → led frame ss x ≡ Ok y → led frame (below_filters (length ons) ss) (left_joins k ons x) ≡ Ok (left_joins k ons y)
  led_lefts [] k ss x y h = h
  led_lefts (on ∷ ons) k ss x y h = led_lefts ons (suc k) _ (LeftJoined on x (guarded_entry k)) (LeftJoined on y (guarded_entry k)) (led_kept frame on (guarded_entry k) ss x y h)

  one_met : (b : Bool) (y : Term) → b ≡ true → and_then (where_met b y) (led frame []) ≡ Ok y
  one_met true y h = refl
  one_met false y h = absurd (cc)

  -- ---- under filters and over them

  lowered : (f : BoundExpr) (es : List BoundExpr) (x : Term) → led frame (downward (length es) (at_root 3)) (Filtered f (filters es x)) ≡ Ok (filters es (Filtered f x))
  lowered f [] x = refl
  lowered f (e ∷ es) x =
      led_on frame (downward (length es) (at_root 3)) (below_filters (length es) (at_root 3 ∷ [])) (Filtered f (filters es (Filtered e x))) (filters es (Filtered f (Filtered e x))) (filters es (Filtered e (Filtered f x)))
      (lowered f es (Filtered e x))
      (led_filters frame es (at_root 3 ∷ []) (Filtered f (Filtered e x)) (Filtered e (Filtered f x)) refl)

  lifted : (f : BoundExpr) (es : List BoundExpr) (x : Term) → led frame (upward (length es) (at_root 3)) (filters es (Filtered f x)) ≡ Ok (Filtered f (filters es x))
  lifted f [] x = refl
  lifted f (e ∷ es) x =
      led_on frame (below_filters (length es) (at_root 3 ∷ [])) (upward (length es) (at_root 3)) (filters es (Filtered e (Filtered f x))) (filters es (Filtered f (Filtered e x))) (Filtered f (filters es (Filtered e x)))
      (led_filters frame es (at_root 3 ∷ []) (Filtered e (Filtered f x)) (Filtered f (Filtered e x)) refl)
      (lifted f es (Filtered e x))

  -- ---- under left joins and over them

  dived : (f : BoundExpr) (ons : List BoundExpr) (k : ℕ) (x : Term) → reads_only x f ≡ true → led frame (downward (length ons) (at_root 20)) (Filtered f (left_joins k ons x)) ≡ Ok (left_joins k ons (Filtered f x))
  dived f [] k x h = refl
  dived f (on ∷ ons) k x h =
      let g = guarded_entry k in
      led_on frame (downward (length ons) (at_root 20)) (below_filters (length ons) (at_root 20 ∷ [])) (Filtered f (left_joins (suc k) ons (LeftJoined on x g))) (left_joins (suc k) ons (Filtered f (LeftJoined on x g)))
      (left_joins (suc k) ons (LeftJoined on (Filtered f x) g))
      (dived f ons (suc k) (LeftJoined on x g) (reads_more on x g f h))
      (led_lefts ons (suc k) (at_root 20 ∷ []) (Filtered f (LeftJoined on x g)) (LeftJoined on (Filtered f x) g) (one_met (reads_only x f) (LeftJoined on (Filtered f x) g) h))

  surfaced : (f : BoundExpr) (ons : List BoundExpr) (k : ℕ) (x : Term) → reads_only x f ≡ true → led frame (upward (length ons) (plain 20 true)) (left_joins k ons (Filtered f x)) ≡ Ok (Filtered f (left_joins k ons x))
  surfaced f [] k x h = refl
  surfaced f (on ∷ ons) k x h =
      let g = guarded_entry k in
      led_on frame (below_filters (length ons) (plain 20 true ∷ [])) (upward (length ons) (plain 20 true)) (left_joins (suc k) ons (LeftJoined on (Filtered f x) g)) (left_joins (suc k) ons (Filtered f (LeftJoined on x g)))
      (Filtered f (left_joins (suc k) ons (LeftJoined on x g)))
      (led_lefts ons (suc k) (plain 20 true ∷ []) (LeftJoined on (Filtered f x) g) (Filtered f (LeftJoined on x g)) (one_met (reads_only x f) (Filtered f (LeftJoined on x g)) h))
      (surfaced f ons (suc k) (LeftJoined on x g) (reads_more on x g f h))

  -- ---- all of it

  module _ (entry : ℕ) (x : Term) (on f : BoundExpr) (ons : List BoundExpr)
      (rejects : rejects_null_rows (covers (guarded_entry entry)) f ≡ true) (reads : reads_only (Joined x (guarded_entry entry)) f ≡ true) (on_reads : reads_only (Joined x (guarded_entry entry)) on ≡ true) where
    abbrev left_one : Term
    left_one = LeftJoined on x (guarded_entry entry)

    abbrev inner_one : Term
    inner_one = Joined x (guarded_entry entry)

    abbrev lefts : Term → Term
    lefts = left_joins (suc entry) ons

    -- from the condition over the left joins to both over them
    made_inner : led frame (making_inner (length ons)) (Filtered f (lefts left_one)) ≡ Ok (Filtered f (Filtered on (lefts inner_one)))
    made_inner =
        let n = length ons in
        let up = upward n (plain 20 true) in
        led_on frame (downward n (at_root 20)) (below_filters n (at_root 19 ∷ []) ++ (up ++ below_filters 1 up)) (Filtered f (lefts left_one)) (lefts (Filtered f left_one)) (Filtered f (Filtered on (lefts inner_one)))
        (dived f ons (suc entry) left_one reads)
        (led_on frame (below_filters n (at_root 19 ∷ [])) (up ++ below_filters 1 up) (lefts (Filtered f left_one)) (lefts (Filtered f (Filtered on inner_one))) (Filtered f (Filtered on (lefts inner_one)))
        (led_lefts ons (suc entry) (at_root 19 ∷ []) (Filtered f left_one) (Filtered f (Filtered on inner_one)) (one_met (rejects_null_rows (covers (guarded_entry entry)) f) (Filtered f (Filtered on inner_one)) rejects))
        (led_on frame up (below_filters 1 up) (lefts (Filtered f (Filtered on inner_one))) (Filtered f (lefts (Filtered on inner_one))) (Filtered f (Filtered on (lefts inner_one)))
        (surfaced f ons (suc entry) (Filtered on inner_one) reads)
        (led_filter frame f up (lefts (Filtered on inner_one)) (Filtered on (lefts inner_one)) (surfaced on ons (suc entry) inner_one on_reads))))

    -- from the condition over some filters to it over them again, the ON being the lowest
    made_under : (under : List BoundExpr) →
        led frame (downward (length under) (at_root 3) ++ (below_filters (length under) (making_inner (length ons)) ++ upward (length under) (at_root 3))) (Filtered f (filters under (lefts left_one)))
        ≡ Ok (Filtered f (filters under (Filtered on (lefts inner_one))))
    made_under under =
        let n = length under in
        let core = making_inner (length ons) in
        led_on frame (downward n (at_root 3)) (below_filters n core ++ upward n (at_root 3)) (Filtered f (filters under (lefts left_one))) (filters under (Filtered f (lefts left_one))) (Filtered f (filters under (Filtered on (lefts inner_one))))
        (lowered f under (lefts left_one))
        (led_on frame (below_filters n core) (upward n (at_root 3)) (filters under (Filtered f (lefts left_one))) (filters under (Filtered f (Filtered on (lefts inner_one)))) (Filtered f (filters under (Filtered on (lefts inner_one))))
        (led_filters frame under core (Filtered f (lefts left_one)) (Filtered f (Filtered on (lefts inner_one))) made_inner)
        (lifted f under (Filtered on (lefts inner_one))))

    -- the entry becomes inner, and its ON the last condition
    pub turned_one : (under after : List BoundExpr) →
        led frame (turning (length (under ++ f ∷ after)) (length under) (length ons)) (filters (under ++ f ∷ after) (lefts left_one)) ≡ Ok (Filtered on (filters (under ++ f ∷ after) (lefts inner_one)))
    turned_one under after =
        let n = length under in
        let core = downward n (at_root 3) ++ (below_filters n (making_inner (length ons)) ++ upward n (at_root 3)) in
        let whole = under ++ f ∷ after in
        let all : length whole ≡ n + suc (length after) = length-append under (f ∷ after) in
        let rest : length whole - 1 - n ≡ length after = omega (arith, all) in
        led_on frame (below_filters (length whole - 1 - n) core) (upward (length whole) (at_root 3)) (filters whole (lefts left_one)) (filters whole (Filtered on (lefts inner_one))) (Filtered on (filters whole (lefts inner_one)))
        (ap (λ k. led frame (below_filters k core) (filters whole (lefts left_one))) rest
        ∙ ap (led frame (below_filters (length after) core)) (filters_append under (f ∷ after) (lefts left_one))
        ∙ led_filters frame after core (Filtered f (filters under (lefts left_one))) (Filtered f (filters under (Filtered on (lefts inner_one)))) (made_under under)
        ∙ ap Ok (sym (filters_append under (f ∷ after) (Filtered on (lefts inner_one)))))
        (lifted on whole (lefts inner_one))
