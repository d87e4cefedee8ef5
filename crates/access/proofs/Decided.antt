-- The guard of a role shows exactly the rows that the role sees.
use Rattle.std.proofs.Common.{◌≡◌, Bool, true, false, ◌&&◌, ◌||◌, List, [], ◌∷◌, filter, if◌then◌else◌, Result, Ok, Err, IsOk, refl, ap, ◌∙◌}
use Rattle.std.specs.List.{list_all, list_any}
use Rattle.value.specs.Datum.{Row}
use Rattle.value.specs.Orders.{is_true}
use Rattle.value.specs.declared.order.Truth.{Truth}
use Rattle.value.specs.declared.order.Truth.TheVariants.{False, Unknown, True}
use Rattle.value.specs.declared.faults.Fault.{Fault}
use Rattle.value.specs.Names.{Name}
use Rattle.expr.specs.Bound.{bound_exprs_of}
use Rattle.expr.specs.Movable.{movable, all_movable}
use Rattle.row_objects.specs.Objects.{Policy, Table}
use Rattle.eval.specs.Meaning.{Cells, Outcome, meaning, holds, condition, conjunction, disjunction, as_datum, is_true_outcome, unless_false, unless_true}
use Rattle.eval.proofs.Faultless.{faultless}
use Rattle.eval.proofs.Movables.{and_left, and_right}
use Rattle.catalog.specs.Catalog.{Catalog}
use Rattle.tuples.specs.Rows.{cells_of}
use Rattle.access.specs.Access.{bypasses_policies, is_true_of, permits, restricts, sees}
use Rattle.tuples.specs.Guards.{All, None, shows}
use Rattle.access.specs.Guards.{guard, guard_by, predicates}

-- ---- conditions that are true

abbrev is_true_at : Result Truth Fault → Bool
is_true_at (Ok t) = is_true t
is_true_at (Err fault) = false

of_outcome : (o : Outcome) → is_true_at (condition o) ≡ is_true_outcome o
of_outcome (Ok d) = refl
of_outcome (Err fault) = refl

of_datum : (c : Result Truth Fault) → is_true_outcome (as_datum c) ≡ is_true_at c
of_datum (Ok False) = refl
of_datum (Ok Unknown) = refl
of_datum (Ok True) = refl
of_datum (Err fault) = refl

and_true : (c m : Result Truth Fault) → is_true_at (unless_false c m) ≡ is_true_at c && is_true_at m
and_true (Ok False) m = refl
and_true (Ok Unknown) (Ok False) = refl
and_true (Ok Unknown) (Ok Unknown) = refl
and_true (Ok Unknown) (Ok True) = refl
and_true (Ok Unknown) (Err fault) = refl
and_true (Ok True) (Ok False) = refl
and_true (Ok True) (Ok Unknown) = refl
and_true (Ok True) (Ok True) = refl
and_true (Ok True) (Err fault) = refl
and_true (Err fault) m = refl

or_true : (o : Outcome) (m : Result Truth Fault) → IsOk o → is_true_at (unless_true (condition o) m) ≡ is_true_outcome o || is_true_at m
or_true (Err fault) m h = cc
or_true (Ok d) m h = go (condition (Ok d)) m refl ∙ ap (λ b. b || is_true_at m) (of_outcome (Ok d))
  where
    go : (c m : Result Truth Fault) → IsOk c → is_true_at (unless_true c m) ≡ is_true_at c || is_true_at m
    go (Ok True) m h = refl
    go (Ok Unknown) (Ok False) h = refl
    go (Ok Unknown) (Ok Unknown) h = refl
    go (Ok Unknown) (Ok True) h = refl
    go (Ok Unknown) (Err fault) h = refl
    go (Ok False) (Ok False) h = refl
    go (Ok False) (Ok Unknown) h = refl
    go (Ok False) (Ok True) h = refl
    go (Ok False) (Err fault) h = refl
    go (Err fault) m h = cc

-- ---- predicates that are true

module _ (cells : Cells) (r : Name) where
  all_hold : (ps : List Policy) → is_true_at (conjunction cells r (bound_exprs_of (predicates ps))) ≡ list_all (λ p. holds cells r p.predicate) ps
  all_hold [] = refl
  all_hold (p ∷ ps) =
      and_true (condition (meaning cells r p.predicate)) (conjunction cells r (bound_exprs_of (predicates ps)))
      ∙ ap (λ b. b && is_true_at (conjunction cells r (bound_exprs_of (predicates ps)))) (of_outcome (meaning cells r p.predicate))
      ∙ ap (λ b. holds cells r p.predicate && b) (all_hold ps)

  any_holds : (ps : List Policy) → all_movable (bound_exprs_of (predicates ps)) ≡ true → is_true_at (disjunction cells r (bound_exprs_of (predicates ps))) ≡ list_any (λ p. holds cells r p.predicate) ps
  any_holds [] h = refl
  any_holds (p ∷ ps) h =
      let q = and_right (movable p.predicate) (all_movable (bound_exprs_of (predicates ps))) h in
      or_true (meaning cells r p.predicate) (disjunction cells r (bound_exprs_of (predicates ps))) (faultless cells r p.predicate (and_left (movable p.predicate) (all_movable (bound_exprs_of (predicates ps))) h))
      ∙ ap (λ b. holds cells r p.predicate || b) (any_holds ps q)

-- ---- guards

shown_by : (r : Name) (row : Row) (ps rs : List Policy) → all_movable (bound_exprs_of (predicates ps)) ≡ true → shows r (guard_by ps rs) row ≡ list_any (is_true_of r row) ps && list_all (is_true_of r row) rs
shown_by r row [] rs h = refl
shown_by r row (p ∷ ps) rs h =
    let d = disjunction (cells_of row) r (bound_exprs_of (predicates (p ∷ ps))) in
    let c = conjunction (cells_of row) r (bound_exprs_of (predicates rs)) in
    of_datum (unless_false (condition (as_datum d)) c) ∙ and_true (condition (as_datum d)) c
    ∙ ap (λ b. b && is_true_at c) (of_outcome (as_datum d) ∙ of_datum d ∙ any_holds (cells_of row) r (p ∷ ps) h)
    ∙ ap (λ b. list_any (is_true_of r row) (p ∷ ps) && b) (all_hold (cells_of row) r rs)

-- of policies of which those that permit are movable
pub shown : (cat : Catalog) (r : Name) (t : Table) → all_movable (bound_exprs_of (predicates (filter (permits cat r) t.policies))) ≡ true → (row : Row) → shows r (guard cat r t) row ≡ sees cat r t row
shown cat r t h row = go (bypasses_policies cat r t)
  where
    go : (b : Bool) → shows r (if b then All else guard_by (filter (permits cat r) t.policies) (filter (restricts cat r) t.policies)) row
        ≡ b || (list_any (is_true_of r row) (filter (permits cat r) t.policies) && list_all (is_true_of r row) (filter (restricts cat r) t.policies))
    go true = refl
    go false = shown_by r row (filter (permits cat r) t.policies) (filter (restricts cat r) t.policies) h

chosen_movable : (f : Policy → Bool) (ps : List Policy) → list_all (λ p. movable p.predicate) ps ≡ true → all_movable (bound_exprs_of (predicates (filter f ps))) ≡ true
chosen_movable f [] h = refl
chosen_movable f (p ∷ ps) h = go (f p) (filter f ps) (and_left (movable p.predicate) (list_all (λ p. movable p.predicate) ps) h) (chosen_movable f ps (and_right (movable p.predicate) (list_all (λ p. movable p.predicate) ps) h))
  where
    go : (b : Bool) (rest : List Policy) → movable p.predicate ≡ true → all_movable (bound_exprs_of (predicates rest)) ≡ true → all_movable (bound_exprs_of (predicates (if b then p ∷ rest else rest))) ≡ true
    go true rest m more = rw (m, more) refl
    go false rest m more = more

pub guard_shows : (cat : Catalog) (r : Name) (t : Table) (row : Row) → list_all (λ p. movable p.predicate) t.policies ≡ true → shows r (guard cat r t) row ≡ sees cat r t row
guard_shows cat r t row h = shown cat r t (chosen_movable (permits cat r) t.policies h) row

-- ---- the cases of a guard

not_all : (ps rs : List Policy) → guard_by ps rs ≡ All → false ≡ true
not_all [] rs h = cc
not_all (p ∷ ps) rs h = cc

none_is_empty : (ps rs : List Policy) → guard_by ps rs ≡ None → ps ≡ []
none_is_empty [] rs h = refl
none_is_empty (p ∷ ps) rs h = cc

pub all_bypasses : (cat : Catalog) (r : Name) (t : Table) → (guard cat r t ≡ All → bypasses_policies cat r t ≡ true) × (bypasses_policies cat r t ≡ true → guard cat r t ≡ All)
all_bypasses cat r t = (go (bypasses_policies cat r t), λ h. rw h refl)
  where
    go : (b : Bool) → (if b then All else guard_by (filter (permits cat r) t.policies) (filter (restricts cat r) t.policies)) ≡ All → b ≡ true
    go true h = refl
    go false h = not_all (filter (permits cat r) t.policies) (filter (restricts cat r) t.policies) h

pub none_is_unpermitted : (cat : Catalog) (r : Name) (t : Table)
    → (guard cat r t ≡ None → (bypasses_policies cat r t ≡ false) × (filter (permits cat r) t.policies ≡ []))
    × ((bypasses_policies cat r t ≡ false) × (filter (permits cat r) t.policies ≡ []) → guard cat r t ≡ None)
none_is_unpermitted cat r t = (go (bypasses_policies cat r t), λ h. rw (h.0, h.1) refl)
  where
    go : (b : Bool) → (if b then All else guard_by (filter (permits cat r) t.policies) (filter (restricts cat r) t.policies)) ≡ None → (b ≡ false) × (filter (permits cat r) t.policies ≡ [])
    go true h = cc
    go false h = (refl, none_is_empty (filter (permits cat r) t.policies) (filter (restricts cat r) t.policies) h)
