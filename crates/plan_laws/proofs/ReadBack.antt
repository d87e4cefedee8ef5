-- Conditions without offsets are the same after their texts are written and read.
use Rattle.std.proofs.Common.{◌≡◌, refl, sym, ap, ap₂, ◌∙◌, true, ◌&&◌, List, [], ◌∷◌, map, Result}
use Rattle.std.specs.List.{AllByRecursion}
use Rattle.row_ast.specs.Ast as ast
use Rattle.expr.specs.declared.bound.ColumnId.{ColumnId}
use Rattle.expr.specs.Bound as bound
use Rattle.expr.specs.Bound.{BoundExpr, BoundExprs, BoundArms, BoundOtherwise}
use Rattle.plan_laws.proofs.Bare.{AreBare, ArmsBare, ElseBare, IsBare}
use Rattle.predicates.proofs.Equal.{decides}
use Rattle.scope.specs.declared.error.BindError.{BindError}
use Rattle.scope.specs.Entry.{Entry}
use Rattle.expr_texts.specs.Trees.{without_offsets, all_without_offsets, arms_without_offsets, else_without_offsets}
use Rattle.bound_plans.specs.Filters.{are_filters, is_condition, is_filter}
use Rattle.bound_plans.specs.Found.{AreFound, NamesBindBack}
use Rattle.bound_plans.specs.Named.{named, named_arms, named_members, named_otherwise}

module _ (entries : List Entry) (Q : ColumnId → Type 0) where
  mutual
    -- the tree of a condition without offsets has none
    pub named_bare : (e : BoundExpr) → IsBare Q e → without_offsets (named entries e) ≡ named entries e
    named_bare (bound.Column id) h = refl
    named_bare (bound.Literal d) h = refl
    named_bare bound.CurrentUser h = refl
    named_bare (bound.Negate offset e) h = ap₂ ast.Negate (sym h.0) (named_bare e h.1)
    named_bare (bound.Arithmetic op offset e f) h = ap (λ o. ast.Arithmetic op o (without_offsets (named entries e)) (without_offsets (named entries f))) (sym h.0) ∙ ap₂ (ast.Arithmetic op offset) (named_bare e h.1) (named_bare f h.2)
    named_bare (bound.Comparison op offset e f) h = ap (λ o. ast.Comparison op o (without_offsets (named entries e)) (without_offsets (named entries f))) (sym h.0) ∙ ap₂ (ast.Comparison op offset) (named_bare e h.1) (named_bare f h.2)
    named_bare (bound.Between negated offset e low high) h =
        ap (λ o. ast.Between negated o (without_offsets (named entries e)) (without_offsets (named entries low)) (without_offsets (named entries high))) (sym h.0)
        ∙ ap (λ x. ast.Between negated offset x (without_offsets (named entries low)) (without_offsets (named entries high))) (named_bare e h.1)
        ∙ ap₂ (ast.Between negated offset (named entries e)) (named_bare low h.2) (named_bare high h.3)
    named_bare (bound.In negated offset values e) h = ap₂ (λ o x. ast.In negated o values x) (sym h.0) (named_bare e h.1)
    named_bare (bound.IsNull negated offset e) h = ap₂ (ast.IsNull negated) (sym h.0) (named_bare e h.1)
    named_bare (bound.Not offset e) h = ap₂ ast.Not (sym h.0) (named_bare e h.1)
    named_bare (bound.And offset es) h = ap₂ ast.And (sym h.0) (members_bare es h.1)
    named_bare (bound.Or offset es) h = ap₂ ast.Or (sym h.0) (members_bare es h.1)
    named_bare (bound.Cast offset to e) h = ap₂ (λ o x. ast.Cast o to x) (sym h.0) (named_bare e h.1)
    named_bare (bound.Case offset as_ o) h = ap (λ n. ast.Case n (arms_without_offsets (named_arms entries as_)) (else_without_offsets (named_otherwise entries o))) (sym h.0) ∙ ap₂ (ast.Case offset) (arms_bare as_ h.1) (else_bare o h.2)
    named_bare (bound.CountStar offset) h = ap ast.CountStar (sym h)
    named_bare (bound.Call f offset e) h = ap₂ (ast.Call f) (sym h.0) (named_bare e h.1)

    members_bare : (es : BoundExprs) → AreBare Q es → all_without_offsets (named_members entries es) ≡ named_members entries es
    members_bare bound.no_expr h = refl
    members_bare (bound.one_expr e es) h = ap₂ ast.one_expr (named_bare e h.0) (members_bare es h.1)

    arms_bare : (as_ : BoundArms) → ArmsBare Q as_ → arms_without_offsets (named_arms entries as_) ≡ named_arms entries as_
    arms_bare bound.no_arm h = refl
    arms_bare (bound.one_arm when result as_) h =
        ap (λ w. ast.one_arm w (without_offsets (named entries result)) (arms_without_offsets (named_arms entries as_))) (named_bare when h.0)
        ∙ ap₂ (ast.one_arm (named entries when)) (named_bare result h.1) (arms_bare as_ h.2)

    else_bare : (o : BoundOtherwise) → ElseBare Q o → else_without_offsets (named_otherwise entries o) ≡ named_otherwise entries o
    else_bare bound.Nothing h = refl
    else_bare (bound.Value e) h = ap ast.Value (named_bare e h)

  module _ (back : NamesBindBack) where
    pub filter_is : (c : BoundExpr) → AreFound entries c → IsBare Q c → is_filter entries (without_offsets (named entries c)) c ≡ true
    filter_is c found bare =
        ap (λ f. is_filter entries f c) (named_bare c bare)
        ∙ ap (λ (r : Result BoundExpr BindError). is_condition r c) (back entries c found)
        ∙ (decides c c).if_so refl

    -- so the filters that are read are the conditions
    pub filters_are : (cs : List BoundExpr) → AllByRecursion (AreFound entries) cs → AllByRecursion (IsBare Q) cs → are_filters entries (map without_offsets (map (named entries) cs)) cs ≡ true
    filters_are [] found bare = refl
    filters_are (c ∷ cs) found bare = ap₂ (λ a b. a && b) (filter_is c found.0 bare.0) (filters_are cs found.1 bare.1)
