-- Lists of the orders that somebody may ask for.
use Rattle.std.proofs.Common.{◌≡◌, ℕ, zero, suc, Bool, true, false, cond, not, ◌&&◌, ◌==◌, ◌⊎◌, inl, inr, List, [], ◌∷◌, Option, Some, None, Result, Ok, Err, slice_get, refl, sym, ap, subst, true≢false}
use Rattle.std.specs.declared.result.Result.TheVariants.{Ok, Err}
use Rattle.std.specs.List.{list_any}
use Rattle.std.specs.Option.{option_map}
use Rattle.std.specs.Result.{OnOk}
use Rattle.std.proofs.lemmas.Bool.{and_parts, or_cases}
use Rattle.expr.specs.declared.bound.ColumnId.{ColumnId}
use Rattle.expr.specs.Bound.{BoundExpr, is_column}
use Rattle.predicates.proofs.Equal.{column_exact}
use Rattle.predicates.specs.Equalities.{column_sides}
use Rattle.stats.specs.Card.{Entries}
use Rattle.code_costs.specs.Best.{Problem}
use Rattle.joins.specs.Orders.{Order, facing, sides, sides_held}
use Rattle.joindp.specs.Search.{AreKept, HasOrders, HasSides, IsListed, asks_for, is_live, is_wanted}

-- what follows from both, where a call succeeds
pub on_ok_both : {T E P Q R : Type 0} (r : Result T E) → (P → Q → R) → OnOk r P → OnOk r Q → OnOk r R
on_ok_both (Ok t) f p q = f p q
on_ok_both (Err e) f p q = tt

-- both columns of an equality
pub has_both : (orders : List Order) (a b : ColumnId) (s : Option (ColumnId × ColumnId)) → Some (a, b) ≡ s → IsListed orders (Some a) → IsListed orders (Some b) → HasSides orders s
has_both orders a b s same one other = subst (HasSides orders) same (one, other)

-- and of a longer list
pub sides_kept : (old new : List Order) (s : Option (ColumnId × ColumnId)) → AreKept old new → HasSides old s → HasSides new s
sides_kept old new None kept h = tt
sides_kept old new (Some (a, b)) kept h = (kept (Some a) h.0, kept (Some b) h.1)

-- an element that passes a test
some_at : {X : Type 0} (f : X → Bool) (xs : List X) → list_any f xs ≡ true → (k : ℕ) × (x : X) × (slice_get xs k ≡ Some x) × (f x ≡ true)
some_at {X} f [] h = absurd (cc)
some_at {X} f (x ∷ xs) h = go (or_cases (f x) (list_any f xs) h) (some_at f xs)
  where
    go : (f x ≡ true) ⊎ (list_any f xs ≡ true) → (list_any f xs ≡ true → (k : ℕ) × (y : X) × (slice_get xs k ≡ Some y) × (f y ≡ true)) → (k : ℕ) × (y : X) × (slice_get (x ∷ xs) k ≡ Some y) × (f y ≡ true)
    go (inl here) rest = (0, x, refl, here)
    go (inr there) rest = let r = rest there in (suc r.0, r.1, r.2, r.3)

module _ (p : Problem) (orders : List Order) (by_sides : (k : ℕ) (e : BoundExpr) → slice_get p.setting.conditions k ≡ Some e → HasSides orders (column_sides e)) (by_wanted : IsListed orders p.wanted) (none : IsListed orders None) where
  -- an order that is wanted, or that some merge asks for
  has_live : (placed : Entries) (order : Order) → is_live p placed order ≡ true → IsListed orders order
  has_live placed None live = none
  has_live placed (Some id) live = go (or_cases (is_wanted p.wanted (Some id)) (list_any (λ e. asks_for placed (Some id) (column_sides e)) p.setting.conditions) live)
    where
      of_wanted : (w : Option ColumnId) → IsListed orders w → is_wanted w (Some id) ≡ true → IsListed orders (Some id)
      of_wanted None listed is = absurd (true≢false (sym is))
      of_wanted (Some w) listed is = subst (λ c. IsListed orders (Some c)) (sym (column_exact id w is)) listed

      of_sides : (o : Option (ColumnId × ColumnId)) → HasSides orders o → asks_for placed (Some id) o ≡ true → IsListed orders (Some id)
      of_sides None both is = absurd (true≢false (sym is))
      of_sides (Some (a, b)) both is = by (or_cases (is_column id a && not (placed b.entry)) (is_column id b && not (placed a.entry)) is)
        where
          by : ((is_column id a && not (placed b.entry)) ≡ true) ⊎ ((is_column id b && not (placed a.entry)) ≡ true) → IsListed orders (Some id)
          by (inl k) = subst (λ c. IsListed orders (Some c)) (sym (column_exact id a (and_parts (is_column id a) (not (placed b.entry)) k).0)) both.0
          by (inr k) = subst (λ c. IsListed orders (Some c)) (sym (column_exact id b (and_parts (is_column id b) (not (placed a.entry)) k).0)) both.1

      go : (is_wanted p.wanted (Some id) ≡ true) ⊎ (list_any (λ e. asks_for placed (Some id) (column_sides e)) p.setting.conditions ≡ true) → IsListed orders (Some id)
      go (inl k) = of_wanted p.wanted by_wanted k
      go (inr k) = let s = some_at (λ e. asks_for placed (Some id) (column_sides e)) p.setting.conditions k in of_sides (column_sides s.1) (by_sides s.0 s.1 s.2) s.3

  -- of two columns, whichever is of a placed entry
  has_facing : (x y s : ColumnId × ColumnId) (is_own : Bool) → IsListed orders (Some x.0) → IsListed orders (Some y.0) → cond is_own x y ≡ s → IsListed orders (Some s.0)
  has_facing x y s true one other same = let e : Some x.0 ≡ Some s.0 = ap (λ (t : ColumnId × ColumnId). Some t.0) same in subst (IsListed orders) e one
  has_facing x y s false one other same = let e : Some y.0 ≡ Some s.0 = ap (λ (t : ColumnId × ColumnId). Some t.0) same in subst (IsListed orders) e other

  has_sides : (entry : ℕ) (placed own : ColumnId) (s : Option (ColumnId × ColumnId)) → HasSides orders s → option_map (facing entry) s ≡ Some (placed, own) → IsListed orders (Some placed)
  has_sides entry placed own None both same = absurd (cc)
  has_sides entry placed own (Some (a, b)) both same =
      let s : ColumnId × ColumnId = (placed, own) in
      let e : facing entry (a, b) ≡ s = cc in
      has_facing (a, b) (b, a) s (b.entry == entry) both.0 both.1 e

  has_held : (entry k : ℕ) (placed own : ColumnId) (o : Option BoundExpr) → slice_get p.setting.conditions k ≡ o → sides_held entry o ≡ Some (placed, own) → IsListed orders (Some placed)
  has_held entry k placed own None at same = absurd (cc)
  has_held entry k placed own (Some e) at same = has_sides entry placed own (column_sides e) (by_sides k e at) same

  has_merge : (entry number : ℕ) (placed own : ColumnId) → sides p.setting.conditions entry number ≡ Some (placed, own) → IsListed orders (Some placed)
  has_merge entry zero placed own same = absurd (cc)
  has_merge entry (suc k) placed own same = has_held entry k placed own (slice_get p.setting.conditions k) refl same

  pub has_orders : HasOrders p orders
  has_orders = record { of_live = has_live; of_merge = has_merge }
