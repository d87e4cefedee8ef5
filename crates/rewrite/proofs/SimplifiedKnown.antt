-- The known conditions as filters one on another: the runs of their terms, and what stays known.
use Rattle.std.proofs.Common.{◌≡◌, ℕ, zero, suc, ◌+◌, ◌-◌, ◌<◌, Bool, true, false, refl, sym, ap, ◌∙◌, subst, List, [], ◌∷◌, ◌++◌, length, reverse, slice_get, get_or, Option, Some, None, append_assoc, append-nil, add-zero, arith, if◌then◌else◌}
use Rattle.std.proofs.lemmas.List.{reverse-append, length-reverse, get_or-reverse}
use Rattle.std.proofs.lemmas.List.Sorted.{IsPermutation-reverse, list_any-IsPermutation}
use Rattle.std.proofs.lemmas.Option.{slice_get_within, slice_get-get_or, get_or_from_slice_get}
use Rattle.expr.specs.Bound.{BoundExpr}
use Rattle.predicates.specs.Same.{same}
use Rattle.row_terms.specs.Terms.{Term, Filtered}
use Rattle.row_terms.specs.Written.{filters}
use Rattle.algebra.specs.PlanningList.{consequence, with_condition, with_any, with_each}
use Rattle.algebra.specs.Runs.{run, stands_in}
use Rattle.rewrite.specs.Simplifying.{from_top}

-- ---- runs

pub run_filters : (known : List BoundExpr) (x : Term) → run (filters known x) ≡ reverse known ++ run x
run_filters [] x = refl
run_filters (e ∷ known) x =
    run_filters known (Filtered e x) ∙ sym (append_assoc (reverse known) (e ∷ []) (run x)) ∙ ap (λ es. es ++ run x) (sym (reverse-append (e ∷ []) known))

module _ (x : Term) (ends : run x ≡ []) where
  pub run_known : (known : List BoundExpr) → run (filters known x) ≡ reverse known
  run_known known = run_filters known x ∙ ap (λ es. reverse known ++ es) ends ∙ append-nil (reverse known)

  -- a condition of that index from below
  pub found_from_top : (known : List BoundExpr) (i : ℕ) (p : BoundExpr) → slice_get known i ≡ Some p → slice_get (run (filters known x)) (from_top known i) ≡ Some p
  found_from_top known i p h =
      let below : i < length known = slice_get_within known i p h in
      let top : from_top known i < length known = omega arith in
      let same_length : length (reverse known) ≡ length known = length-reverse known in
      let back : length known - 1 - from_top known i ≡ i = omega arith in
      rw (run_known known)
      (slice_get-get_or (reverse known) (from_top known i) p (omega arith)
      ∙ ap Some (get_or-reverse known (from_top known i) p top ∙ ap (λ k. get_or known k p) back ∙ get_or_from_slice_get known i p p h))

  pub stands_in_run : (e : BoundExpr) (known : List BoundExpr) → stands_in e (run (filters known x)) ≡ stands_in e known
  stands_in_run e known = ap (stands_in e) (run_known known) ∙ sym (list_any-IsPermutation (same e) known (reverse known) (IsPermutation-reverse known))

-- ---- what stays known

-- each condition keeps its index
abbrev pub Keeps : List BoundExpr → List BoundExpr → Type 0
Keeps known new = (i : ℕ) (p : BoundExpr) → slice_get known i ≡ Some p → slice_get new i ≡ Some p

kept_before : (known more : List BoundExpr) → Keeps known (known ++ more)
kept_before (e ∷ known) more zero p h = h
kept_before (e ∷ known) more (suc i) p h = kept_before known more i p h
kept_before [] more i p h = absurd (cc)

kept_with : (known : List BoundExpr) (e : BoundExpr) → Keeps known (with_condition known e)
kept_with known e = go (stands_in e known)
  where
    go : (b : Bool) → Keeps known (if b then known else known ++ e ∷ [])
    go true i p h = h
    go false i p h = kept_before known (e ∷ []) i p h

pub kept_with_any : (known : List BoundExpr) (o : Option BoundExpr) → Keeps known (with_any known o)
kept_with_any known None i p h = h
kept_with_any known (Some e) i p h = kept_with known e i p h

pub kept_with_each : (known : List BoundExpr) (p : BoundExpr) (qs : List BoundExpr) → Keeps known (with_each known p qs)
kept_with_each known p [] i q h = h
kept_with_each known p (r ∷ qs) i q h = kept_with_each (with_any known (consequence p r)) p qs i q (kept_with_any known (consequence p r) i q h)

-- ---- a list that is found in the known one

-- each of the list is known, the first at that index
abbrev pub Found : List BoundExpr → ℕ → List BoundExpr → Type 0
Found known j qs = (k : ℕ) (q : BoundExpr) → slice_get qs k ≡ Some q → slice_get known (j + k) ≡ Some q

pub found_first : (known : List BoundExpr) (j : ℕ) (q : BoundExpr) (qs : List BoundExpr) → Found known j (q ∷ qs) → slice_get known j ≡ Some q
found_first known j q qs found = rw add-zero at (found 0 q refl)

pub found_rest : (known : List BoundExpr) (j : ℕ) (q : BoundExpr) (qs : List BoundExpr) → Found known j (q ∷ qs) → Found known (suc j) qs
found_rest known j q qs found k r h = let e : j + suc k ≡ suc j + k = omega arith in subst (λ n. slice_get known n ≡ Some r) e (found (suc k) r h)

pub found_still : (known new : List BoundExpr) (j : ℕ) (qs : List BoundExpr) → Keeps known new → Found known j qs → Found new j qs
found_still known new j qs keeps found k q h = keeps (j + k) q (found k q h)

pub found_all : (known : List BoundExpr) → Found known 0 known
found_all known k q h = let e : k ≡ 0 + k = omega arith in subst (λ n. slice_get known n ≡ Some q) e h
