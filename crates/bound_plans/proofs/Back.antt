-- A named condition is bound as the condition.
use Rattle.std.proofs.Common.{◌≡◌, List, [], ◌∷◌, ◌++◌, Result, Ok, refl, ap, ap₂, ◌∙◌}
use Rattle.std.specs.List.{All}
use Rattle.std.proofs.lemmas.List.Elements.{All-nil, All-cons, All-head, All-tail}
use Rattle.memory.specs.Results.{and_then, first_then}
use Rattle.expr.specs.Bound as bound
use Rattle.expr.specs.Bound.{BoundExpr, BoundExprs, BoundArms, BoundOtherwise, bound_exprs_of, bound_arms_of}
use Rattle.expr.specs.declared.bound.ColumnId.{ColumnId}
use Rattle.expr.specs.Columns.{columns, all_columns, arms_columns, otherwise_columns}
use Rattle.scope.specs.declared.error.BindError.{BindError}
use Rattle.scope.specs.Entry.{Entry}
use Rattle.scope.specs.Lookup.{everywhere}
use Rattle.scope.specs.BoundExprs.{conjunction, disjunction, as_otherwise, choice, pair, bound_expr, bound_members, bound_arms, bound_otherwise}
use Rattle.bound_plans.specs.Named.{named, named_members, named_arms, named_otherwise}
use Rattle.bound_plans.specs.Found.{IsFound, NamesBindBack}

-- ---- lists

-- of the elements of two lists
module _ {X : Type 0} (P : X → Type 0) where
  of_first : (xs ys : List X) → All P (xs ++ ys) → All P xs
  of_first [] ys h = All-nil P
  of_first (x ∷ xs) ys h = All-cons P x xs (All-head P x (xs ++ ys) h) (of_first xs ys (All-tail P x (xs ++ ys) h))

  of_second : (xs ys : List X) → All P (xs ++ ys) → All P ys
  of_second [] ys h = h
  of_second (x ∷ xs) ys h = of_second xs ys (All-tail P x (xs ++ ys) h)

abbrev members_of : BoundExprs → List BoundExpr
members_of bound.no_expr = []
members_of (bound.one_expr e es) = e ∷ members_of es

same_members : (es : BoundExprs) → bound_exprs_of (members_of es) ≡ es
same_members bound.no_expr = refl
same_members (bound.one_expr e es) = ap (bound.one_expr e) (same_members es)

abbrev pairs_of : BoundArms → List (BoundExpr × BoundExpr)
pairs_of bound.no_arm = []
pairs_of (bound.one_arm when result as_) = (when, result) ∷ pairs_of as_

same_arms : (as_ : BoundArms) → bound_arms_of (pairs_of as_) ≡ as_
same_arms bound.no_arm = refl
same_arms (bound.one_arm when result as_) = ap (bound.one_arm when result) (same_arms as_)

-- ---- the law, by the forms of a condition

abbrev Whole : Type 0
Whole = Result BoundExpr BindError

module _ (entries : List Entry) where
  abbrev again : BoundExpr → Whole
  again e = bound_expr entries (everywhere entries) (named entries e)

  abbrev Found : List ColumnId → Type 0
  Found ids = All (IsFound entries) ids

  mutual
    back : (e : BoundExpr) → Found (columns e) → again e ≡ Ok e
    back (bound.Column id) h = ap (λ r. and_then r (λ i. Ok (bound.Column i))) (All-head (IsFound entries) id [] h)
    back (bound.Literal d) h = refl
    back bound.CurrentUser h = refl
    back (bound.Negate offset e) h = rw (back e h) refl
    back (bound.Arithmetic op offset e f) h = rw (back e (of_first (IsFound entries) (columns e) (columns f) h)) (rw (back f (of_second (IsFound entries) (columns e) (columns f) h)) refl)
    back (bound.Comparison op offset e f) h = rw (back e (of_first (IsFound entries) (columns e) (columns f) h)) (rw (back f (of_second (IsFound entries) (columns e) (columns f) h)) refl)
    back (bound.Between negated offset e low high) h =
        let rest = of_second (IsFound entries) (columns e) (columns low ++ columns high) h in
        rw (back e (of_first (IsFound entries) (columns e) (columns low ++ columns high) h))
        (rw (back low (of_first (IsFound entries) (columns low) (columns high) rest)) (rw (back high (of_second (IsFound entries) (columns low) (columns high) rest)) refl))
    back (bound.In negated offset values e) h = rw (back e h) refl
    back (bound.IsNull negated offset e) h = rw (back e h) refl
    back (bound.Not offset e) h = rw (back e h) refl
    back (bound.And offset es) h = ap (conjunction offset) (members_back es h) ∙ ap (λ xs. let r : Whole = Ok (bound.And offset xs) in r) (same_members es)
    back (bound.Or offset es) h = ap (disjunction offset) (members_back es h) ∙ ap (λ xs. let r : Whole = Ok (bound.Or offset xs) in r) (same_members es)
    back (bound.Cast offset to e) h = rw (back e h) refl
    back (bound.Case offset as_ o) h =
        ap (λ r. choice offset r (bound_otherwise entries (everywhere entries) (named_otherwise entries o))) (arms_back as_ (of_first (IsFound entries) (arms_columns as_) (otherwise_columns o) h))
        ∙ ap (λ r. choice offset (Ok (pairs_of as_)) r) (otherwise_back o (of_second (IsFound entries) (arms_columns as_) (otherwise_columns o) h))
        ∙ ap (λ xs. let r : Whole = Ok (bound.Case offset xs o) in r) (same_arms as_)
    back (bound.CountStar offset) h = refl
    back (bound.Call f offset e) h = rw (back e h) refl

    members_back : (es : BoundExprs) → Found (all_columns es) → bound_members entries (everywhere entries) (named_members entries es) ≡ Ok (members_of es)
    members_back bound.no_expr h = refl
    members_back (bound.one_expr e es) h =
        ap₂ first_then (back e (of_first (IsFound entries) (columns e) (all_columns es) h)) (members_back es (of_second (IsFound entries) (columns e) (all_columns es) h))

    arms_back : (as_ : BoundArms) → Found (arms_columns as_) → bound_arms entries (everywhere entries) (named_arms entries as_) ≡ Ok (pairs_of as_)
    arms_back bound.no_arm h = refl
    arms_back (bound.one_arm when result as_) h =
        let rest = of_second (IsFound entries) (columns when) (columns result ++ arms_columns as_) h in
        ap₂ first_then
        (ap₂ pair (back when (of_first (IsFound entries) (columns when) (columns result ++ arms_columns as_) h)) (back result (of_first (IsFound entries) (columns result) (arms_columns as_) rest)))
        (arms_back as_ (of_second (IsFound entries) (columns result) (arms_columns as_) rest))

    otherwise_back : (o : BoundOtherwise) → Found (otherwise_columns o) → bound_otherwise entries (everywhere entries) (named_otherwise entries o) ≡ Ok o
    otherwise_back bound.Nothing h = refl
    otherwise_back (bound.Value e) h = ap as_otherwise (back e h)

pub names_bind_back : NamesBindBack
names_bind_back entries b h = back entries b h
