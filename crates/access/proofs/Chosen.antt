-- The steps of the choice of policies, and the guard made of them.
use Rattle.std.proofs.Common.{◌≡◌, ℕ, suc, ◌+◌, ◌<◌, ◌≤◌, Bool, true, false, ◌==◌, List, [], ◌∷◌, ◌++◌, append_assoc, append-nil, length, map, filter, get_or, drop, drop-cons, Vec, Result, Ok, Err, IfOk, OnOk, refl, sym, ap, ◌∙◌, true≢false, arith}
use Rattle.std.proofs.Math.ListN.{drop_of_length-le}
use Rattle.value.specs.Datum.{Row}
use Rattle.value.specs.Names.{Name}
use Rattle.expr.specs.Bound.{BoundExpr, one_expr, bound_exprs_of}
use Rattle.expr.specs.Bound as bound
use Rattle.expr.specs.View.{bound_expr_of, bound_exprs}
use Rattle.expr.specs.Movable.{movable, all_movable}
use Rattle.expr.specs.declared.bound.BoundExpr as code
use Rattle.expr.specs.declared.bound.BoundExpr.{And, Or}
use Rattle.expr.proofs.Trees.{bound_exprs_hidden}
use Rattle.row_objects.specs.Objects.{Policy, Table}
use Rattle.eval.proofs.Movables.{and_left, and_right}
use Rattle.catalog.specs.Catalog.{Catalog}
use Rattle.access.specs.Access.{bypasses_policies, permits, restricts, sees}
use Rattle.tuples.specs.Guards.{Guard, Expr, shows}
use Rattle.access.specs.Guards.{guard, guard_by, predicates}
use Rattle.tuples.specs.Guards as spec
use Rattle.tuples.specs.View.{guard_of}
use Rattle.tuples.specs.declared.guard.Guard as declared
use Rattle.access.proofs.Decided.{shown}

-- ---- one policy after another

module _ {X : Type 0} (f : Policy → Bool) (view : X → Policy) (xs : List X) (k : ℕ) (known whole : List BoundExpr) (so_far : known ++ predicates (filter f (map view (drop k xs))) ≡ whole) where
  pub chosen_over : length xs ≤ k → known ≡ whole
  chosen_over l =
      let e : drop k xs ≡ [] = drop_of_length-le xs l in
      sym (append-nil known) ∙ ap (λ zs. known ++ predicates (filter f (map view zs))) (sym e) ∙ so_far

  module _ (x : X) (more : k < length xs) (is : x ≡ get_or xs k x) where
    pub chosen_next : true ≡ f (view x) → (new : List BoundExpr) → new ≡ known ++ (view x).predicate ∷ [] → new ++ predicates (filter f (map view (drop (k + 1) xs))) ≡ whole
    chosen_next t new n =
        let e : k + 1 ≡ suc k = omega arith in
        let s : predicates (filter f (map view (drop k xs))) ≡ (view x).predicate ∷ predicates (filter f (map view (drop (k + 1) xs))) = rw (e, drop-cons xs k x more, ← is, ← t) refl in
        rw n (append_assoc known ((view x).predicate ∷ []) (predicates (filter f (map view (drop (k + 1) xs)))) ∙ ap (λ zs. known ++ zs) (sym s) ∙ so_far)

    pub chosen_not : false ≡ f (view x) → known ++ predicates (filter f (map view (drop (k + 1) xs))) ≡ whole
    chosen_not t =
        let e : k + 1 ≡ suc k = omega arith in
        let s : predicates (filter f (map view (drop k xs))) ≡ predicates (filter f (map view (drop (k + 1) xs))) = rw (e, drop-cons xs k x more, ← is, ← t) refl in
        ap (λ zs. known ++ zs) (sym s) ∙ so_far

-- one movable expression more
pub movable_next : (es : List BoundExpr) (e : BoundExpr) → all_movable (bound_exprs_of es) ≡ true → movable e ≡ true → (new : List BoundExpr) → new ≡ es ++ e ∷ [] → all_movable (bound_exprs_of new) ≡ true
movable_next es e h m new n = rw n (go es h)
  where
    go : (es : List BoundExpr) → all_movable (bound_exprs_of es) ≡ true → all_movable (bound_exprs_of (es ++ e ∷ [])) ≡ true
    go [] h = rw m refl
    go (x ∷ xs) h = rw (and_left (movable x) (all_movable (bound_exprs_of xs)) h) (go xs (and_right (movable x) (all_movable (bound_exprs_of xs)) h))

-- ---- joined predicates

module _ {A : Type 0} (v : Vec (code.BoundExpr A) A) where
  pub or_made : (b : code.BoundExpr A) → b ≡ Or 0 v → bound_expr_of b ≡ bound.Or 0 (bound_exprs v.items)
  or_made b is = ap bound_expr_of is ∙ ap (bound.Or 0) (bound_exprs_hidden v)

  pub and_made : (b : code.BoundExpr A) → b ≡ And 0 v → bound_expr_of b ≡ bound.And 0 (bound_exprs v.items)
  and_made b is = ap bound_expr_of is ∙ ap (bound.And 0) (bound_exprs_hidden v)

-- an expression before others
pub joined : (es : List BoundExpr) (first : BoundExpr) (rest : List BoundExpr) (d : BoundExpr) → es ≡ first ∷ rest → first ≡ d → bound.And 0 (bound_exprs_of es) ≡ bound.And 0 (one_expr d (bound_exprs_of rest))
joined es first rest d e f = rw (e, f) refl

-- a list with no items in its view has none
pub empty_view : {X Z : Type 0} (f : X → Z) (xs : List X) → map f xs ≡ [] → length xs ≡ 0
empty_view f [] h = refl
empty_view f (x ∷ xs) h = cc

pub zero_if : (n : ℕ) → true ≡ (n == 0) → n ≡ 0
zero_if n h = grind arith

pub movable_of : (es ds : List BoundExpr) → es ≡ ds → all_movable (bound_exprs_of es) ≡ true → all_movable (bound_exprs_of ds) ≡ true
movable_of es ds e h = ap (λ xs. all_movable (bound_exprs_of xs)) (sym e) ∙ h

-- a fact that holds anyway
pub on_ok : {X E P : Type 0} (res : Result X E) → P → OnOk res P
on_ok (Ok x) p = p
on_ok (Err e) p = tt

-- without a predicate there is no policy
pub none_given : (ps rs : List Policy) → predicates ps ≡ [] → spec.None ≡ guard_by ps rs
none_given [] rs h = refl
none_given (p ∷ ps) rs h = cc

-- with one there is one
pub some_given : {E : Type 0} {A : Type 0} (ps rs : List Policy) (es : List BoundExpr) (res : Result (declared.Guard A) E) → es ≡ predicates ps → (es ≡ [] → false ≡ true)
    → IfOk res (λ g. guard_of g ≡ Expr (bound.And 0 (one_expr (bound.Or 0 (bound_exprs_of es)) (bound_exprs_of (predicates rs))))) → IfOk res (λ g. guard_of g ≡ guard_by ps rs)
some_given [] rs es res e n h = absurd (true≢false (sym (n e)))
some_given (p ∷ ps) rs es res e n h = rw e at h

-- ---- the guard of a table

module _ {A E : Type 0} (cat : Catalog) (r : Name) (t : Table) (res : Result (declared.Guard A) E) where
  pub by_policies : (ps : List Policy) → ps ≡ t.policies → false ≡ bypasses_policies cat r t → IfOk res (λ g. guard_of g ≡ guard_by (filter (permits cat r) ps) (filter (restricts cat r) ps)) → IfOk res (λ g. guard_of g ≡ guard cat r t)
  by_policies ps e above h = rw (← above, ← e) h

  pub shown_of : (ps : List Policy) → ps ≡ t.policies → OnOk res (all_movable (bound_exprs_of (predicates (filter (permits cat r) ps))) ≡ true) → IfOk res (λ g. guard_of g ≡ guard cat r t)
      → IfOk res (λ g. (row : Row) → shows r (guard_of g) row ≡ sees cat r t row)
  shown_of ps e m h = go res (rw e at m) h
    where
      go : (res : Result (declared.Guard A) E) → OnOk res (all_movable (bound_exprs_of (predicates (filter (permits cat r) t.policies))) ≡ true) → IfOk res (λ g. guard_of g ≡ guard cat r t)
          → IfOk res (λ g. (row : Row) → shows r (guard_of g) row ≡ sees cat r t row)
      go (Ok g) m h = λ row. ap (λ x. shows r x row) h ∙ shown cat r t m row
      go (Err e) m h = tt
