-- The check of aggregates finds the least offset of a part that is misplaced.
use Rattle.std.proofs.Common.{◌≡◌, ℕ, Bool, true, false, List, [], ◌++◌, Option, Some, None, refl, sym, ap, ◌∙◌}
use Rattle.row_ast.specs.Ast as ast
use Rattle.expr.specs.declared.bound.ColumnId.{ColumnId}
use Rattle.scope.specs.declared.lookup.Scope.{Scope}
use Rattle.scope.specs.Entry.{Entry}
use Rattle.scope.specs.Lookup.{find_column}
use Rattle.expr.specs.Offsets.{least_of}
use Rattle.typing.specs.Grouping.{misplaced, misplaced_arms, misplaced_call, misplaced_column, misplaced_members, misplaced_otherwise}
use Rattle.type_laws.specs.Faults.{MisplacedIsLeast, misplacements, misplacements_of_arms, misplacements_of_call, misplacements_of_members, misplacements_of_otherwise}
use Rattle.type_laws.proofs.Leasts.{least_in, least_cons, least_one, least_two}

call_least : (of_groups : Bool) (offset : ℕ) (a : Option ℕ) (is : List ℕ) → a ≡ least_in is → misplaced_call of_groups offset a ≡ least_in (misplacements_of_call of_groups offset is)
call_least true offset a is h = h
call_least false offset a is h = ap (least_of (Some offset)) h ∙ sym (least_cons offset is)

module _ (entries : List Entry) (scope : Scope) (group_by : List ColumnId) where
  -- what the check finds, and all that there are
  abbrev found : Bool → ast.Expr → Option ℕ
  found of_groups e = misplaced entries scope group_by of_groups e

  abbrev all : Bool → ast.Expr → List ℕ
  all of_groups e = misplacements entries scope group_by of_groups e

  mutual
    pub misplaced_least : (g : Bool) (e : ast.Expr) → misplaced entries scope group_by g e ≡ least_in (misplacements entries scope group_by g e)
    misplaced_least g (ast.Column c) = sym (least_one (misplaced_column group_by g c.offset (find_column entries scope c)))
    misplaced_least g (ast.Literal d) = refl
    misplaced_least g ast.CurrentUser = refl
    misplaced_least g (ast.Negate offset e) = misplaced_least g e
    misplaced_least g (ast.Arithmetic op offset e f) = least_two (found g e) (found g f) (all g e) (all g f) (misplaced_least g e) (misplaced_least g f)
    misplaced_least g (ast.Comparison op offset e f) = least_two (found g e) (found g f) (all g e) (all g f) (misplaced_least g e) (misplaced_least g f)
    misplaced_least g (ast.Between negated offset e low high) =
        least_two (found g e) (least_of (found g low) (found g high)) (all g e) (all g low ++ all g high) (misplaced_least g e)
        (least_two (found g low) (found g high) (all g low) (all g high) (misplaced_least g low) (misplaced_least g high))
    misplaced_least g (ast.In negated offset values e) = misplaced_least g e
    misplaced_least g (ast.IsNull negated offset e) = misplaced_least g e
    misplaced_least g (ast.Not offset e) = misplaced_least g e
    misplaced_least g (ast.And offset es) = members_least g es
    misplaced_least g (ast.Or offset es) = members_least g es
    misplaced_least g (ast.Cast offset to e) = misplaced_least g e
    misplaced_least g (ast.Case offset as_ o) =
        least_two (misplaced_arms entries scope group_by g as_) (misplaced_otherwise entries scope group_by g o) (misplacements_of_arms entries scope group_by g as_) (misplacements_of_otherwise entries scope group_by g o)
        (arms_least g as_) (otherwise_least g o)
    misplaced_least g (ast.CountStar offset) = call_least g offset None [] refl
    misplaced_least g (ast.Call f offset e) = call_least g offset (found false e) (all false e) (misplaced_least false e)

    members_least : (g : Bool) (es : ast.Exprs) → misplaced_members entries scope group_by g es ≡ least_in (misplacements_of_members entries scope group_by g es)
    members_least g ast.no_expr = refl
    members_least g (ast.one_expr e es) =
        least_two (found g e) (misplaced_members entries scope group_by g es) (all g e) (misplacements_of_members entries scope group_by g es) (misplaced_least g e) (members_least g es)

    arms_least : (g : Bool) (as_ : ast.Arms) → misplaced_arms entries scope group_by g as_ ≡ least_in (misplacements_of_arms entries scope group_by g as_)
    arms_least g ast.no_arm = refl
    arms_least g (ast.one_arm when result as_) =
        least_two (least_of (found g when) (found g result)) (misplaced_arms entries scope group_by g as_) (all g when ++ all g result) (misplacements_of_arms entries scope group_by g as_)
        (least_two (found g when) (found g result) (all g when) (all g result) (misplaced_least g when) (misplaced_least g result)) (arms_least g as_)

    otherwise_least : (g : Bool) (o : ast.Otherwise) → misplaced_otherwise entries scope group_by g o ≡ least_in (misplacements_of_otherwise entries scope group_by g o)
    otherwise_least g ast.Nothing = refl
    otherwise_least g (ast.Value e) = misplaced_least g e

pub misplaced_is_least : MisplacedIsLeast
misplaced_is_least = misplaced_least
