-- The rows of the table of best plans.
use Rattle.std.proofs.Common.{◌≡◌, ◌∙◌, refl, sym, ap, subst, ℕ, zero, suc, ◌+◌, ◌-◌, ◌^◌, ◌<◌, ◌≤◌, ◌⊎◌, inl, inr, Bool, true, false, List, [], ◌∷◌, ◌++◌, length, Option, Some, None, slice_index_or, length-append, arith, Vec}
use Rattle.std.specs.List.{slice_get}
use Rattle.std.proofs.Math.ListN.{get_or-append}
use Rattle.std.proofs.Math.Seq.{get_or-append_seam}
use Rattle.std.proofs.lemmas.Bool.{both_ways, cases_lt, eq-eqb, lt-ltb}
use Rattle.std.proofs.lemmas.Nat.{pow_pos}
use Rattle.std.proofs.lemmas.Option.{slice_get-get_or}
use Rattle.expr.specs.declared.code.CodeStep.{CodeStep}
use Rattle.stats.proofs.EntrySets.{bits_of_all}
use Rattle.trailcheck.specs.Shapes.{entry_index}
use Rattle.joindp.specs.declared.best.Best.{Best}
use Rattle.code_costs.specs.Best.{Problem}
use Rattle.joins.specs.Orders.{Order}
use Rattle.joindp.specs.Following.{may_follow}
use Rattle.joindp.specs.Search.{After, IsKept, IsRow, IsTable, Start, entry_count, is_order_of, is_reached, last_cost, plan_of, search, set_of}
use Rattle.joindp.specs.Walks.{IsBestFrom, Plan}
use Rattle.joindp.proofs.Bests.{best_at_end}
use Rattle.joindp.proofs.NewSteps.{is_new}

-- ---- elements of a list with one more at its end

module _ {X : Type 0} (P : ℕ → X → Type 0) (xs : List X) (x : X) where
  at_index : (n i : ℕ) (d : X) → length xs ≡ n → ((j : ℕ) (e : X) → j < n → P j (slice_index_or xs j e)) → P n x → (i < n) ⊎ (n ≤ i) → i < n + 1 → P i (slice_index_or (xs ++ x ∷ []) i d)
  at_index n i d long each one (inl below) within = subst (P i) (sym (get_or-append xs (x ∷ []) d i (omega (arith, long)))) (each i d below)
  at_index n i d long each one (inr above) within =
      let e : n ≡ i = omega arith in
      let same : i ≡ length xs = omega (arith, long) in
      subst (P i) (sym (ap (λ k. slice_index_or (xs ++ x ∷ []) k d) same ∙ get_or-append_seam xs x [] d)) (subst (λ k. P k x) e one)

  -- each of the elements before, and the one more
  pub one_more : (n : ℕ) → length xs ≡ n → ((j : ℕ) (e : X) → j < n → P j (slice_index_or xs j e)) → P n x → (i : ℕ) (d : X) → i < n + 1 → P i (slice_index_or (xs ++ x ∷ []) i d)
  one_more n long each one i d within = at_index n i d long each one (cases_lt i n) within

-- an element by its index
pub element_is : {X : Type 0} (xs : List X) (i : ℕ) (d x : X) → i < length xs → slice_get xs i ≡ Some x → x ≡ slice_index_or xs i d
element_is xs i d x within e = some_same x (slice_index_or xs i d) (sym e ∙ slice_get-get_or xs i d within)
  where
    some_same : {X : Type 0} (a b : X) → Some a ≡ Some b → a ≡ b
    some_same a b h = cc

pub index_within : {X : Type 0} (xs : List X) (i : ℕ) (x : X) → slice_get xs i ≡ Some x → i < length xs
index_within [] i x e = absurd (cc)
index_within (y ∷ xs) zero x e = omega arith
index_within (y ∷ xs) (suc i) x e = let h = index_within xs i x e in omega (arith, h)

-- ---- where no step is left

module _ (p : Problem) where
  -- no step may follow all entries
  none_follows : (set : ℕ) → set + 1 ≡ 2 ^ entry_count p → (s : CodeStep) → may_follow p.setting (set_of set) s ≡ false
  none_follows set whole s = go (may_follow p.setting (set_of set) s) refl
    where
      go : (b : Bool) → may_follow p.setting (set_of set) s ≡ b → b ≡ false
      go true e =
          let new = is_new p.setting (set_of set) s e in
          let all : set ≡ 2 ^ entry_count p - 1 = omega arith in
          absurd (both_ways (set_of set (entry_index s)) new.new (ap (λ m. set_of m (entry_index s)) all ∙ bits_of_all (entry_count p) (entry_index s) ∙ lt-ltb (entry_index s) (entry_count p) new.below))
      go false e = refl

  pub best_when_whole : (set : ℕ) (order : Order) (plan : Option Plan) → set + 1 ≡ 2 ^ entry_count p → plan ≡ Some (last_cost p (After set order), []) → IsBestFrom (search p) (After set order) plan
  best_when_whole set order plan whole e = subst (IsBestFrom (search p) (After set order)) (sym e) (best_at_end (search p) (After set order) (eq-eqb (set + 1) (2 ^ entry_count p) whole) (none_follows set whole))

  -- nor is there one where there are no entries
  none_first : entry_count p ≡ 0 → (s : CodeStep) → may_follow p.setting (λ entry. false) s ≡ false
  none_first none s = go (may_follow p.setting (λ entry. false) s) refl
    where
      go : (b : Bool) → may_follow p.setting (λ entry. false) s ≡ b → b ≡ false
      go true e = let new = is_new p.setting (λ entry. false) s e in absurd (omega (arith, new.below))
      go false e = refl

  pub best_of_none : (plan : Option Plan) → 2 ^ entry_count p ≡ 1 → plan ≡ Some (last_cost p Start, []) → IsBestFrom (search p) Start plan
  best_of_none plan one e =
      let none : entry_count p ≡ 0 = zero_power (entry_count p) one in
      subst (IsBestFrom (search p) Start) (sym e) (best_at_end (search p) Start (eq-eqb (entry_count p) 0 none) (none_first none))
    where
      zero_power : (n : ℕ) → 2 ^ n ≡ 1 → n ≡ 0
      zero_power zero h = refl
      zero_power (suc n) h = let q = pow_pos n in absurd (omega (arith, q))

-- ---- the table

-- no plan is none of the plans that are kept
pub no_plan : {A : Type 0} (o : Option (Best A)) → plan_of o ≡ None → o ≡ None
no_plan None e = refl
no_plan (Some b) e = absurd (cc)

module _ (p : Problem) {A : Type 0} (nexts : List ℕ) (orders : List Order) (low set : ℕ) (rows : List (Vec (Option (Best A)) A)) (table : IsTable p nexts orders low rows) (above : low < set) (within : set < 2 ^ entry_count p) (reached : is_reached (entry_count p) nexts set ≡ true) where
  -- the row of a set above
  pub row_is : (k : ℕ) (row : Vec (Option (Best A)) A) → k ≡ 2 ^ entry_count p - 1 - set → row ≡ slice_index_or rows k row → IsRow p orders set row.items
  row_is k row place is = subst (λ v. IsRow p orders set v.items) (sym (is ∙ ap (λ i. slice_index_or rows i row) place)) (table.1 set row above within reached)

  -- what is kept there for an order
  pub kept_at : (row : List (Option (Best A))) → IsRow p orders set row → (i : ℕ) (order : Order) (x : Option (Best A)) → slice_get orders i ≡ Some order → is_order_of set order ≡ true → x ≡ slice_index_or row i x → IsKept p set order (plan_of x)
  kept_at row are i order x listed fits is = subst (λ y. IsKept p set order (plan_of y)) (sym is) (are.1 i order x listed fits)

module _ (p : Problem) {A : Type 0} (nexts : List ℕ) (orders : List Order) where
  -- the rows of all sets above the next smaller one
  pub table_more : (set : ℕ) (rows : List (Vec (Option (Best A)) A)) (row : Vec (Option (Best A)) A) → 0 < set → IsTable p nexts orders set rows → (is_reached (entry_count p) nexts set ≡ true → IsRow p orders set row.items) → IsTable p nexts orders (set - 1) (rows ++ row ∷ [])
  table_more set rows row pos h r = (
    let l = length-append rows (row ∷ []) in omega (arith, l, h.0),
    λ t d lt within reached. at t d within reached (order t lt),
  )
    where
      order : (t : ℕ) → set - 1 < t → (set < t) ⊎ (t ≡ set)
      order t lt = turn (cases_lt set t)
        where
          turn : (set < t) ⊎ (t ≤ set) → (set < t) ⊎ (t ≡ set)
          turn (inl a) = inl a
          turn (inr b) = inr (omega arith)

      at : (t : ℕ) (d : Vec (Option (Best A)) A) → t < 2 ^ entry_count p → is_reached (entry_count p) nexts t ≡ true → (set < t) ⊎ (t ≡ set) → IsRow p orders t (slice_index_or (rows ++ row ∷ []) (2 ^ entry_count p - 1 - t) d).items
      at t d within reached (inl a) =
          let lt : 2 ^ entry_count p - 1 - t < length rows = omega (arith, h.0) in
          subst (λ v. IsRow p orders t v.items) (sym (get_or-append rows (row ∷ []) d (2 ^ entry_count p - 1 - t) lt)) (h.1 t d a within reached)
      at t d within reached (inr e) =
          let same : 2 ^ entry_count p - 1 - t ≡ length rows = omega (arith, h.0) in
          subst (λ v. IsRow p orders t v.items) (sym (ap (λ i. slice_index_or (rows ++ row ∷ []) i d) same ∙ get_or-append_seam rows row [] d)) (subst (λ s. IsRow p orders s row.items) (sym e) (r (subst (λ s. is_reached (entry_count p) nexts s ≡ true) e reached)))
