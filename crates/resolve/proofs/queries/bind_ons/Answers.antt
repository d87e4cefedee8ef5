use Rattle.std.proofs.Common.{◌≡◌, ◌∙◌, ◌+◌, ◌<◌, ◌≤◌, ℕ, suc, List, [], ◌∷◌, ◌++◌, Option, option_map, Result, Ok, Err, map, append-nil, drop, drop-cons, get_or, length, refl, sym, ap, arith}
use Rattle.std.proofs.lemmas.List.{map-append}
use Rattle.expr.specs.Bound.{BoundExpr}
use Rattle.expr.specs.View.{bound_expr_of}
use Rattle.scope.specs.declared.error.BindError.{BindError}
use Rattle.scope.specs.declared.lookup.Scope.{Scope}
use Rattle.scope.specs.Entry.{Entry}
use Rattle.std.proofs.Math.ListN.{drop_of_length-le}
use Rattle.memory.specs.Results.{and_then, first_then}
use Rattle.memory.proofs.Each.{after, after_first, after_nothing}
use Rattle.scope.specs.Lookup.{on_scope}
use Rattle.scope.specs.View.{entry_of}
use Rattle.scope.proofs.Found.{failed}
use Rattle.resolve.specs.BoundQueries.{bound_condition, bound_ons}
use Rattle.resolve.proofs.queries.bind_ons.Goals as goal

-- ---- one entry after another

with_first : {X E : Type 0} (known : List X) (r : Result X E) (rest : Result (List X) E) → and_then r (λ x. after (known ++ x ∷ []) rest) ≡ after known (first_then r rest)
with_first known (Ok x) rest = sym (after_first known x rest)
with_first known (Err e) rest = refl

module _ {Y : Type 0} (view : Y → Entry) (es : List Entry) (ys : List Y) (k : ℕ) (known : List (Option BoundExpr)) (whole : Result (List (Option BoundExpr)) BindError) (so_far : after known (bound_ons es k (map view (drop k ys))) ≡ whole) where
  over : length ys ≤ k → whole ≡ Ok known
  over l = let e : drop k ys ≡ [] = drop_of_length-le ys l in sym so_far ∙ ap (λ zs. after known (bound_ons es k (map view zs))) e ∙ ap Ok (append-nil known)

  module _ (y : Y) (more : k < length ys) (is : y ≡ get_or ys k y) where
    opened : and_then (bound_condition es (on_scope k (view y)) (view y).on) (λ x. after (known ++ x ∷ []) (bound_ons es (k + 1) (map view (drop (k + 1) ys)))) ≡ whole
    opened =
        let n : k + 1 ≡ suc k = omega arith in
        let e : map view (drop k ys) ≡ view y ∷ map view (drop (k + 1) ys) = rw (n, drop-cons ys k y more, ← is) refl in
        with_first known (bound_condition es (on_scope k (view y)) (view y).on) (bound_ons es (k + 1) (map view (drop (k + 1) ys))) ∙ ap (λ zs. after known (bound_ons es k zs)) (sym e) ∙ so_far

    next : (scope : Scope) → scope ≡ on_scope k (view y) → (x : Option BoundExpr) → bound_condition es scope (view y).on ≡ Ok x → (new : List (Option BoundExpr)) → new ≡ known ++ x ∷ [] → after new (bound_ons es (k + 1) (map view (drop (k + 1) ys))) ≡ whole
    next scope r x h new n = rw n
        (ap (λ q. and_then q (λ x. after (known ++ x ∷ []) (bound_ons es (k + 1) (map view (drop (k + 1) ys))))) (sym (ap (λ z. bound_condition es z (view y).on) (sym r) ∙ h)) ∙ opened)

pub loop-number-init : goal.loop-number-init
loop-number-init g c =
    ap (λ ons. after (map (λ o. option_map (λ b. bound_expr_of b.value) o) ons) (bound_ons (map (λ e. entry_of e) c.args.entries.now) 0 (map (λ e. entry_of e) c.args.entries.now))) c.new-ons.ensures
    ∙ after_nothing (bound_ons (map (λ e. entry_of e) c.args.entries.now) 0 (map (λ e. entry_of e) c.args.entries.now))

pub returns : goal.returns
returns g c =
    over (λ e. entry_of e) (map (λ e. entry_of e) c.args.entries.now) c.args.entries.now c.loop-number.number (map (λ o. option_map (λ b. bound_expr_of b.value) o) c.loop-number.ons) _ c.loop-number.invariant (omega (arith, c.loop-number-test.false))

pub loop-number-preserved : goal.loop-number-preserved
loop-number-preserved g c =
    next (λ e. entry_of e) (map (λ e. entry_of e) c.args.entries.now) c.args.entries.now c.loop-number.number (map (λ o. option_map (λ b. bound_expr_of b.value) o) c.loop-number.ons) _ c.loop-number.invariant c.index-entries-number.result c.loop-number-test.true c.index-entries-number.is
    c.on_scope.result c.on_scope.ensures (option_map (λ b. bound_expr_of b.value) c.in-Ok.on) c.in-Ok.ensures _ (ap (map (λ o. option_map (λ b. bound_expr_of b.value) o)) c.in_ok-push-in-Ok.ensures.ok ∙ map-append _ c.loop-number.ons (c.in-Ok.on ∷ []))

pub returns-in-Err : goal.returns-in-Err
returns-in-Err g c =
    failed (λ (x : Option BoundExpr). x) (λ (l : List (Option BoundExpr)). l) c.in-Err.failure _ _ _
    (opened (λ e. entry_of e) (map (λ e. entry_of e) c.args.entries.now) c.args.entries.now c.loop-number.number (map (λ o. option_map (λ b. bound_expr_of b.value) o) c.loop-number.ons) _ c.loop-number.invariant c.index-entries-number.result c.loop-number-test.true c.index-entries-number.is)
    (rw c.on_scope.ensures at c.in-Err.ensures)
