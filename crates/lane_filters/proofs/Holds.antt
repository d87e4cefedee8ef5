-- The truth value of a condition on a row says whether it holds there.
use Rattle.std.proofs.Common.{◌≡◌, ℕ, ◌<◌, Bool, List, [], ◌∷◌, length, map, replicate, get_or, Result, Ok, Err, Option, Some, None, refl, sym, ap, ap₂, ◌∙◌, arith}
use Rattle.std.specs.Option.{IfSome}
use Rattle.std.specs.Result.{IfOk}
use Rattle.std.proofs.lemmas.List.{get_or-map}
use Rattle.value.specs.Conditions.{truth_at}
use Rattle.value.specs.Datum.{Row, row_at}
use Rattle.value.specs.Names.{Name}
use Rattle.value.specs.Orders.{is_true, of_bool}
use Rattle.value.specs.declared.order.Truth.{Truth}
use Rattle.value.specs.declared.order.Truth.TheVariants.{False}
use Rattle.expr.specs.Bound.{BoundExpr}
use Rattle.eval.specs.Meaning.{Outcome, condition, holds, is_true_outcome, meaning}
use Rattle.tuples.specs.Guards.{AreSeen, Guard, Expr, shows}
use Rattle.tuples.specs.Rows.{cells_of}
use Rattle.lane_filters.specs.Outcomes.{AreTruths}
use Rattle.lane_filters.proofs.Equality.{read_bool}
use Rattle.lane_filters.proofs.Nodes.{as_many_truths}

outcome_true : (m : Outcome) (t : Truth) → condition m ≡ Ok t → is_true t ≡ is_true_outcome m
outcome_true (Err f) t p = cc
outcome_true (Ok d) t p = let same : truth_at d ≡ t = cc in sym (ap is_true same)

pub truth_holds : (role : Name) (rows : List Row) (e : BoundExpr) (ts : List Truth) → AreTruths role rows e ts → (n : ℕ) → n < length rows → is_true (get_or ts n False) ≡ holds (cells_of (row_at rows n)) role e
truth_holds role rows e ts h n lt =
    let f = λ (row : Row). condition (meaning (cells_of row) role e) in
    outcome_true (meaning (cells_of (get_or rows n [])) role e) (get_or ts n False)
    (sym (get_or-map f rows n [] (Ok False) lt) ∙ ap (λ rs. get_or rs n (Ok False)) h ∙ get_or-map Ok ts n False (Ok False) (omega (arith, as_many_truths role rows e ts h)))

pub truths_shown : (role : Name) (rows : List Row) (e : BoundExpr) (ts : List Truth) → AreTruths role rows e ts → map is_true ts ≡ map (shows role (Expr e)) rows
truths_shown role [] e [] h = refl
truths_shown role [] e (t ∷ ts) h = absurd (cc)
truths_shown role (row ∷ rows) e [] h = absurd (cc)
truths_shown role (row ∷ rows) e (t ∷ ts) h = ap₂ ◌∷◌ (outcome_true (meaning (cells_of row) role e) t (cc)) (truths_shown role rows e ts (cc))

-- what a guard with such a condition shows
pub seen_of_truths : {E : Type 0} (r : Result (Option (List Truth)) E) (role : Name) (rows : List Row) (e : BoundExpr) (guard : Guard) → guard ≡ Expr e → IfOk r (λ o. IfSome o (λ ts. AreTruths role rows e ts))
    → IfOk r (λ o. IfSome o (λ ts. AreSeen role guard rows (map is_true ts)))
seen_of_truths (Err f) role rows e guard is h = tt
seen_of_truths (Ok None) role rows e guard is h = tt
seen_of_truths (Ok (Some ts)) role rows e guard is h = truths_shown role rows e ts h ∙ ap (λ g. map (shows role g) rows) (sym is)

-- a guard that shows every row, or none
pub all_alike : (role : Name) (guard : Guard) (b : Bool) → ((row : Row) → shows role guard row ≡ b) → (rows : List Row) → map is_true (replicate (length rows) (of_bool b)) ≡ map (shows role guard) rows
all_alike role guard b same [] = refl
all_alike role guard b same (row ∷ rows) = ap₂ ◌∷◌ (read_bool b ∙ sym (same row)) (all_alike role guard b same rows)
