-- The members of an AND, and the conjuncts of a part.
use Rattle.std.proofs.Common.{◌≡◌, Bool, true, false, ℕ, suc, ◌+◌, ◌-◌, ◌<◌, ◌≤◌, List, [], ◌∷◌, ◌++◌, length, map, get_or, take, drop, drop-cons, append_assoc, append-nil, refl, sym, ap, ◌∙◌, arith}
use Rattle.std.specs.Prelude.{filter, Option, Result, Ok, Err, IfOk}
use Rattle.std.specs.List.{flat_map, list_all}
use Rattle.std.proofs.lemmas.List.{length-map, take-map}
use Rattle.std.proofs.Math.Bool.{beq}
use Rattle.std.proofs.Math.ListN.{drop_of_length-le}
use Rattle.std.proofs.Math.Seq.{take-length}
use Rattle.expr.specs.Bound.{BoundExpr}
use Rattle.expr.specs.Movable.{movable}
use Rattle.expr.specs.View.{bound_expr_of, bound_exprs}
use Rattle.expr.specs.declared.bound.BoundExpr as declared
use Rattle.expr.specs.BoundQuery.{BoundQuery}
use Rattle.expr.specs.Conjuncts.{conjuncts, conjuncts_in, inner_ons, left_ons, members, is_in_part}

pub members_of : {A : Type 0} (es : List (declared.BoundExpr A)) → members (bound_exprs es) ≡ map (λ e. bound_expr_of e) es
members_of [] = refl
members_of (e ∷ es) = ap (λ xs. bound_expr_of e ∷ xs) (members_of es)

-- those that are filtered pass the test
pub all_filtered : {X : Type 0} (p : X → Bool) (xs : List X) → list_all p (filter p xs) ≡ true
all_filtered p [] = refl
all_filtered p (x ∷ xs) = go (p x) refl (all_filtered p xs)
  where
    go : (b : Bool) → p x ≡ b → list_all p (filter p xs) ≡ true → list_all p (filter p (x ∷ xs)) ≡ true
    go true t rest = rw (t, t) rest
    go false t rest = rw t rest

pub if_all_filtered : {V E Z : Type 0} (view : V → List Z) (p : Z → Bool) (xs : List Z) (r : Result V E) → IfOk r (λ v. view v ≡ filter p xs) → IfOk r (λ v. list_all p (view v) ≡ true)
if_all_filtered view p xs (Ok v) h = rw h (all_filtered p xs)
if_all_filtered view p xs (Err e) h = tt

-- those of each ON, and then of WHERE
pub of_each : (q : BoundQuery) (ons : List (Option BoundExpr)) (k0 k1 k2 : List BoundExpr) → ons ≡ inner_ons q → k0 ≡ [] → k1 ≡ k0 ++ flat_map conjuncts_in ons → k2 ≡ k1 ++ conjuncts_in q.filter → k2 ≡ conjuncts q
of_each q ons k0 k1 k2 o e0 e1 e2 = rw (e2, e1, e0, o) refl

-- the views of the first ONs, so many as there are before those of left joins
pub inner_viewed : {Y : Type 0} (v : Y → Option BoundExpr) (q : BoundQuery) (xs ys : List Y) (n : ℕ) → xs ≡ ys → q.ons ≡ map v ys → n ≡ length xs - q.left_count → map v (take n xs) ≡ inner_ons q
inner_viewed v q xs ys n e o l = rw (l, e, o) (sym (take-map v (length ys - q.left_count) ys) ∙ ap (λ k. take (k - q.left_count) (map v ys)) (sym (length-map ys v)))

-- a query without left joins has their ONs alone
pub no_left_ons : (q : BoundQuery) → q.left_count ≡ 0 → left_ons q ≡ []
no_left_ons q none = let e : drop (length q.ons - q.left_count) q.ons ≡ [] = drop_of_length-le q.ons (omega (arith, none)) in rw e refl

pub all_inner_ons : (q : BoundQuery) → q.left_count ≡ 0 → inner_ons q ≡ q.ons
all_inner_ons q none = let e : length q.ons - q.left_count ≡ length q.ons = omega (arith, none) in rw e (take-length q.ons)

-- ---- one view more of each item that is read

module _ {Y Z : Type 0} (g : Y → Z) (ys : List Y) (k : ℕ) (known whole : List Z) (so_far : known ++ map g (drop k ys) ≡ whole) where
  pub viewed_next : (y : Y) → k < length ys → y ≡ get_or ys k y → (new : List Z) → new ≡ known ++ g y ∷ [] → new ++ map g (drop (k + 1) ys) ≡ whole
  viewed_next y more is new n =
      let e : k + 1 ≡ suc k = omega arith in
      let s : map g (drop k ys) ≡ g y ∷ map g (drop (k + 1) ys) = rw (e, drop-cons ys k y more, ← is) refl in
      rw n (append_assoc known (g y ∷ []) (map g (drop (k + 1) ys)) ∙ ap (λ zs. known ++ zs) (sym s) ∙ so_far)

  pub viewed_over : length ys ≤ k → known ≡ whole
  viewed_over l =
      let e : drop k ys ≡ [] = drop_of_length-le ys l in
      sym (append-nil known) ∙ ap (λ zs. known ++ map g zs) (sym e) ∙ so_far

-- ---- a view more of each item that is read and passes a test

module _ {Y Z : Type 0} (p : Z → Bool) (g : Y → Z) (ys : List Y) (k : ℕ) (known whole : List Z) (so_far : known ++ filter p (map g (drop k ys)) ≡ whole) where
  filtered_step : (y : Y) → k < length ys → y ≡ get_or ys k y → filter p (map g (drop k ys)) ≡ filter p (g y ∷ map g (drop (k + 1) ys))
  filtered_step y more is = let e : k + 1 ≡ suc k = omega arith in rw (e, drop-cons ys k y more, ← is) refl

  pub passed_next : (y : Y) → k < length ys → y ≡ get_or ys k y → p (g y) ≡ true → (new : List Z) → new ≡ known ++ g y ∷ [] → new ++ filter p (map g (drop (k + 1) ys)) ≡ whole
  passed_next y more is t new n =
      let s : filter p (map g (drop k ys)) ≡ g y ∷ filter p (map g (drop (k + 1) ys)) = filtered_step y more is ∙ rw t refl in
      rw n (append_assoc known (g y ∷ []) (filter p (map g (drop (k + 1) ys))) ∙ ap (λ zs. known ++ zs) (sym s) ∙ so_far)

  pub left_out_next : (y : Y) → k < length ys → y ≡ get_or ys k y → p (g y) ≡ false → known ++ filter p (map g (drop (k + 1) ys)) ≡ whole
  left_out_next y more is t =
      let s : filter p (map g (drop k ys)) ≡ filter p (map g (drop (k + 1) ys)) = filtered_step y more is ∙ rw t refl in
      ap (λ zs. known ++ zs) (sym s) ∙ so_far

-- ---- the part that an expression is in

pub part_is : (e : BoundExpr) (m cannot_fault : Bool) → m ≡ movable e → is_in_part cannot_fault e ≡ beq m cannot_fault
part_is e true true h = sym h
part_is e true false h = rw (← h) refl
part_is e false true h = sym h
part_is e false false h = rw (← h) refl
