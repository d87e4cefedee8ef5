-- The combinations of a term pass each filter of its run, and the guards that show all rows.
use Rattle.std.proofs.Common.{◌≡◌, ℕ, zero, suc, Bool, true, false, List, [], ◌∷◌, map, filter, slice_get, Some, None, refl, sym, ap, ◌∙◌, subst}
use Rattle.std.specs.List.{list_any}
use Rattle.memory.proofs.Cases.{some_is}
use Rattle.predicates.proofs.Movables.{and_left, and_right}
use Rattle.expr.specs.Bound.{BoundExpr}
use Rattle.expr.specs.Movable.{movable}
use Rattle.bags.proofs.Members.{Each, each-always, each-filter, each-passes}
use Rattle.tuples.specs.declared.slot.Slot.{Slot}
use Rattle.tuples.specs.declared.slot.Slot.TheVariants as slot
use Rattle.tuples.specs.Slots.{slot_at}
use Rattle.tuples.specs.Guards.{Guard, All, None, Expr}
use Rattle.tuples.specs.World.{GuardedTable, World}
use Rattle.row_terms.specs.Terms.{Term, Filtered}
use Rattle.row_terms.specs.Means.{is_shown, shows_entry, passes, mean}
use Rattle.algebra.specs.Rules.{is_all, is_open}
use Rattle.algebra.specs.Runs.{run}
use Rattle.algebra.specs.Keeping.{HasFrame, is_movable_term}

-- ---- filters of the run

pub run_held : (w : World) (e : BoundExpr) (n : ℕ) (x : Term) → slice_get (run x) n ≡ Some e → Each (λ c. passes w e c ≡ true) (mean w x)
run_held w e zero (Filtered f x) h = subst (λ g. Each (λ c. passes w g c ≡ true) (filter (passes w f) (mean w x))) (some_is f e h) (each-passes (passes w f) (mean w x))
run_held w e (suc n) (Filtered f x) h = each-filter (λ c. passes w e c ≡ true) (passes w f) (mean w x) (run_held w e n x h)
run_held w e n _ h = absurd (cc)

pub run_movable : (e : BoundExpr) (n : ℕ) (x : Term) → is_movable_term x ≡ true → slice_get (run x) n ≡ Some e → movable e ≡ true
run_movable e zero (Filtered f x) m h = subst (λ g. movable g ≡ true) (some_is f e h) (and_left (movable f) (is_movable_term x) m)
run_movable e (suc n) (Filtered f x) m h = run_movable e n x (and_right (movable f) (is_movable_term x) m) h
run_movable e n _ m h = absurd (cc)

-- a filter that a test finds among those of the run
pub found_held : (w : World) (test : BoundExpr → BoundExpr → Bool) → ((e f : BoundExpr) → test e f ≡ true → e ≡ f) → (e : BoundExpr) (x : Term) → list_any (test e) (run x) ≡ true → Each (λ c. passes w e c ≡ true) (mean w x)
found_held w test exact e (Filtered f x) h = here (test e f) refl (λ k. found_held w test exact e x k)
  where
    here : (b : Bool) → test e f ≡ b → (list_any (test e) (run x) ≡ true → Each (λ c. passes w e c ≡ true) (mean w x)) → Each (λ c. passes w e c ≡ true) (filter (passes w f) (mean w x))
    here true s k = subst (λ g. Each (λ c. passes w g c ≡ true) (filter (passes w f) (mean w x))) (sym (exact e f s)) (each-passes (passes w f) (mean w x))
    here false s k = each-filter (λ c. passes w e c ≡ true) (passes w f) (mean w x) (k (rw s at h))
found_held w test exact e _ h = absurd (cc)

-- ---- guards

module _ (w : World) where
  shown_by_all : (t : GuardedTable) → is_all (Some t.guard) ≡ true → (s : Slot) → is_shown w (Some t) s ≡ true
  shown_by_all t h slot.Absent = refl
  shown_by_all t h slot.NullRow = refl
  shown_by_all t h (slot.Row number) = go t.guard refl h
    where
      go : (g : Guard) → t.guard ≡ g → is_all (Some g) ≡ true → is_shown w (Some t) (slot.Row number) ≡ true
      go All e h = rw e refl
      go None e h = absurd (cc)
      go (Expr p) e h = absurd (cc)

  all_shown : (tables : List GuardedTable) (i : ℕ) → is_all (slice_get (map (λ t. t.guard) tables) i) ≡ true → (s : Slot) → is_shown w (slice_get tables i) s ≡ true
  all_shown [] i h s = absurd (cc)
  all_shown (t ∷ tables) zero h s = shown_by_all t h s
  all_shown (t ∷ tables) (suc i) h s = all_shown tables i h s

  pub guard_held : (frame : List Guard) → HasFrame w frame → (i : ℕ) (x : Term) → is_open frame i ≡ true → Each (λ c. shows_entry w i c ≡ true) (mean w x)
  guard_held frame has i x h = each-always (λ c. shows_entry w i c ≡ true) (λ c. all_shown w.tables i (ap (λ f. is_all (slice_get f i)) has ∙ h) (slot_at c i)) (mean w x)
