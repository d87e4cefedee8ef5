-- An expression that the grammar makes has a text when its columns are found and it cannot fault.
use Rattle.std.proofs.Common.{◌≡◌, ℕ, suc, Bool, true, false, ◌&&◌, List, [], ◌∷◌, Result, Ok, refl, ap, ap₂, subst, ◌∙◌}
use Rattle.std.specs.Prelude.{max}
use Rattle.std.proofs.lemmas.Bool.{and_parts}
use Rattle.memory.specs.Results.{and_then}
use Rattle.memory.proofs.Cases.{ok_is}
use Rattle.value.specs.Datum.{Datum}
use Rattle.value.specs.declared.operators.Comparison as compare
use Rattle.row_ast.specs.Ast as ast
use Rattle.row_ast.specs.Ast.{Expr, Exprs, no_expr, one_expr}
use Rattle.expr.specs.declared.bound.ColumnId.{ColumnId}
use Rattle.expr.specs.Bound as bound
use Rattle.expr.specs.Bound.{BoundArms, BoundExpr, BoundExprs, BoundOtherwise, bound_arms_of, bound_exprs_of}
use Rattle.expr.specs.Movable.{all_movable, arms_movable, movable, otherwise_movable}
use Rattle.scope.specs.declared.error.BindError.{BindError}
use Rattle.scope.specs.declared.lookup.Scope.{Scope}
use Rattle.scope.specs.Entry.{Entry}
use Rattle.scope.specs.Lookup.{find_column}
use Rattle.scope.specs.BoundExprs.{bound_arms, bound_expr, bound_members, bound_otherwise, pair}
use Rattle.scope.proofs.Found.{first_given, pair_given}
use Rattle.resolve.proofs.EntryTables.{given}
use Rattle.bound_plans.specs.Named.{name_of, named, named_arms, named_members, named_otherwise}
use Rattle.expr_texts.specs.Filters.{AreArms, AreLiterals, AreTwo, AreWritten, ArmsWritten, ElseWritten, IsNamed, IsWritten, arms_levels, else_levels, is_and, is_or, levels, most_levels}
use Rattle.plan_laws.specs.Said.{AreUtf8, ArmsHaveUtf8, ElseHasUtf8, HasUtf8, HaveUtf8}
use Rattle.plan_laws.proofs.Grown.{AreGrown, AreReadable, ArmsGrown, ElseGrown, IsGrown}

-- ---- literals and members

readable_literals : (ds : List Datum) → AreReadable ds → AreLiterals ds
readable_literals [] h = tt
readable_literals (d ∷ ds) h = (h.0.0, readable_literals ds h.1)

readable_utf8 : (ds : List Datum) → AreReadable ds → AreUtf8 ds
readable_utf8 [] h = tt
readable_utf8 (d ∷ ds) h = (h.0.1, readable_utf8 ds h.1)

-- one member at least
abbrev AreSome : Exprs → Type 0
AreSome no_expr = ⊥
AreSome (one_expr e es) = Unit {0}

two_from : (e f : Expr) (es fs : Exprs) → (AreSome es → AreSome fs) → AreTwo (one_expr e es) → AreTwo (one_expr f fs)
two_from e f no_expr fs h k = absurd k
two_from e f (one_expr d es) no_expr h k = absurd (h tt)
two_from e f (one_expr d es) (one_expr c fs) h k = tt

module _ (entries : List Entry) where
  -- ---- a bound expression against that of the text

  pub record IsSaidAs (e : Expr) (x : BoundExpr) : Type 0 where
    pub written : IsGrown e → movable x ≡ true → IsWritten (named entries x)
    pub utf8 : IsGrown e → movable x ≡ true → HasUtf8 x
    pub flat : levels (named entries x) ≡ levels e
    pub same_and : is_and (named entries x) ≡ is_and e
    pub same_or : is_or (named entries x) ≡ is_or e

  record AreSaidAs (es : Exprs) (xs : BoundExprs) : Type 0 where
    written : (merged : Expr → Bool) → ((e : Expr) (x : BoundExpr) → IsSaidAs e x → merged (named entries x) ≡ merged e) → AreGrown merged es → all_movable xs ≡ true → AreWritten merged (named_members entries xs)
    utf8 : (merged : Expr → Bool) → AreGrown merged es → all_movable xs ≡ true → HaveUtf8 xs
    flat : most_levels (named_members entries xs) ≡ most_levels es
    some : AreSome es → AreSome (named_members entries xs)
    two : AreTwo es → AreTwo (named_members entries xs)

  record ArmsSaidAs (as_ : ast.Arms) (xs : BoundArms) : Type 0 where
    written : ArmsGrown as_ → arms_movable xs ≡ true → ArmsWritten (named_arms entries xs)
    utf8 : ArmsGrown as_ → arms_movable xs ≡ true → ArmsHaveUtf8 xs
    flat : arms_levels (named_arms entries xs) ≡ arms_levels as_
    some : AreArms as_ → AreArms (named_arms entries xs)

  record ElseSaidAs (o : ast.Otherwise) (x : BoundOtherwise) : Type 0 where
    written : ElseGrown o → otherwise_movable x ≡ true → ElseWritten (named_otherwise entries x)
    utf8 : ElseGrown o → otherwise_movable x ≡ true → ElseHasUtf8 x
    flat : else_levels (named_otherwise entries x) ≡ else_levels o

  no_more_members : AreSaidAs no_expr bound.no_expr
  no_more_members = record { written = λ merged same g m. tt; utf8 = λ merged g m. tt; flat = refl; some = λ h. h; two = λ h. h }

  one_more_member : (e : Expr) (x : BoundExpr) (es : Exprs) (xs : BoundExprs) → IsSaidAs e x → AreSaidAs es xs → AreSaidAs (one_expr e es) (bound.one_expr x xs)
  one_more_member e x es xs a b =
      record {
        written = λ merged same g m. (let both = and_parts (movable x) (all_movable xs) m in (same e x a ∙ g.0, a.written g.1 both.0, b.written merged same g.2 both.1));
        utf8 = λ merged g m. (let both = and_parts (movable x) (all_movable xs) m in (a.utf8 g.1 both.0, b.utf8 merged g.2 both.1));
        flat = ap₂ max a.flat b.flat;
        some = λ h. tt;
        two = two_from e (named entries x) es (named_members entries xs) b.some;
      }

  no_more_arms : ArmsSaidAs ast.no_arm bound.no_arm
  no_more_arms = record { written = λ g m. tt; utf8 = λ g m. tt; flat = refl; some = λ h. h }

  one_more_arm : (e f : Expr) (x y : BoundExpr) (as_ : ast.Arms) (xs : BoundArms) → IsSaidAs e x → IsSaidAs f y → ArmsSaidAs as_ xs → ArmsSaidAs (ast.one_arm e f as_) (bound.one_arm x y xs)
  one_more_arm e f x y as_ xs a b c =
      record {
        written = λ g m. (let both = and_parts (movable x && movable y) (arms_movable xs) m in let each = and_parts (movable x) (movable y) both.0 in (a.written g.0 each.0, b.written g.1 each.1, c.written g.2 both.1));
        utf8 = λ g m. (let both = and_parts (movable x && movable y) (arms_movable xs) m in let each = and_parts (movable x) (movable y) both.0 in (a.utf8 g.0 each.0, b.utf8 g.1 each.1, c.utf8 g.2 both.1));
        flat = ap₂ max a.flat (ap₂ max b.flat c.flat);
        some = λ h. tt;
      }

  -- ---- operations

  compared : (op : compare.Comparison) (n : ℕ) (e f : Expr) (x y : BoundExpr) → IsSaidAs e x → IsSaidAs f y → IsSaidAs (ast.Comparison op n e f) (bound.Comparison op n x y)
  compared op n e f x y a b =
      record {
        written = λ g m. (let both = and_parts (movable x) (movable y) m in (a.written g.0 both.0, b.written g.1 both.1));
        utf8 = λ g m. (let both = and_parts (movable x) (movable y) m in (a.utf8 g.0 both.0, b.utf8 g.1 both.1));
        flat = ap₂ (λ i j. suc (max i j)) a.flat b.flat;
        same_and = refl;
        same_or = refl;
      }

  in_bounds : (negated : Bool) (n : ℕ) (e f g : Expr) (x y z : BoundExpr) → IsSaidAs e x → IsSaidAs f y → IsSaidAs g z → IsSaidAs (ast.Between negated n e f g) (bound.Between negated n x y z)
  in_bounds negated n e f g x y z a b c =
      record {
        written = λ grown m. (let both = and_parts (movable x) (movable y && movable z) m in let later = and_parts (movable y) (movable z) both.1 in (a.written grown.0 both.0, b.written grown.1 later.0, c.written grown.2 later.1));
        utf8 = λ grown m. (let both = and_parts (movable x) (movable y && movable z) m in let later = and_parts (movable y) (movable z) both.1 in (a.utf8 grown.0 both.0, b.utf8 grown.1 later.0, c.utf8 grown.2 later.1));
        flat = ap₂ (λ i j. suc (max i j)) a.flat (ap₂ max b.flat c.flat);
        same_and = refl;
        same_or = refl;
      }

  in_values : (negated : Bool) (n : ℕ) (ds : List Datum) (e : Expr) (x : BoundExpr) → IsSaidAs e x → IsSaidAs (ast.In negated n ds e) (bound.In negated n ds x)
  in_values negated n ds e x a =
      record {
        written = λ g m. (g.0, readable_literals ds g.1, a.written g.2 m);
        utf8 = λ g m. (readable_utf8 ds g.1, a.utf8 g.2 m);
        flat = ap (λ i. suc (max 1 i)) a.flat;
        same_and = refl;
        same_or = refl;
      }

  null_tested : (negated : Bool) (n : ℕ) (e : Expr) (x : BoundExpr) → IsSaidAs e x → IsSaidAs (ast.IsNull negated n e) (bound.IsNull negated n x)
  null_tested negated n e x a = record { written = a.written; utf8 = a.utf8; flat = ap suc a.flat; same_and = refl; same_or = refl }

  denied : (n : ℕ) (e : Expr) (x : BoundExpr) → IsSaidAs e x → IsSaidAs (ast.Not n e) (bound.Not n x)
  denied n e x a = record { written = a.written; utf8 = a.utf8; flat = ap (λ i. suc (suc i)) a.flat; same_and = refl; same_or = refl }

  all_of : (n : ℕ) (es : Exprs) (xs : BoundExprs) → AreSaidAs es xs → IsSaidAs (ast.And n es) (bound.And n xs)
  all_of n es xs a =
      record {
        written = λ g m. (a.two g.0, a.written is_and (λ e x k. k.same_and) g.1 m);
        utf8 = λ g m. a.utf8 is_and g.1 m;
        flat = ap suc a.flat;
        same_and = refl;
        same_or = refl;
      }

  some_of : (n : ℕ) (es : Exprs) (xs : BoundExprs) → AreSaidAs es xs → IsSaidAs (ast.Or n es) (bound.Or n xs)
  some_of n es xs a =
      record {
        written = λ g m. (a.two g.0, a.written is_or (λ e x k. k.same_or) g.1 m);
        utf8 = λ g m. a.utf8 is_or g.1 m;
        flat = ap suc a.flat;
        same_and = refl;
        same_or = refl;
      }

  chosen : (n : ℕ) (as_ : ast.Arms) (o : ast.Otherwise) (xs : BoundArms) (y : BoundOtherwise) → ArmsSaidAs as_ xs → ElseSaidAs o y → IsSaidAs (ast.Case n as_ o) (bound.Case n xs y)
  chosen n as_ o xs y a b =
      record {
        written = λ g m. (let both = and_parts (arms_movable xs) (otherwise_movable y) m in (a.some g.0, a.written g.1 both.0, b.written g.2 both.1));
        utf8 = λ g m. (let both = and_parts (arms_movable xs) (otherwise_movable y) m in (a.utf8 g.1 both.0, b.utf8 g.2 both.1));
        flat = ap₂ (λ i j. suc (suc (max i j))) a.flat b.flat;
        same_and = refl;
        same_or = refl;
      }

  -- one that may fault, of which nothing is said
  fragile : (e : Expr) (x : BoundExpr) → movable x ≡ false → levels (named entries x) ≡ levels e → is_and (named entries x) ≡ is_and e → is_or (named entries x) ≡ is_or e → IsSaidAs e x
  fragile e x f l a o = record { written = λ g m. absurd (cc); utf8 = λ g m. absurd (cc); flat = l; same_and = a; same_or = o }

  -- ---- what is bound

  module _ (scope : Scope) (found : (c : ast.ColumnRef) (id : ColumnId) → find_column entries scope c ≡ Ok id → IsNamed (name_of entries id).table (name_of entries id).name) where
    abbrev Says : Expr → Result BoundExpr BindError → Type 0
    Says e r = (x : BoundExpr) → r ≡ Ok x → IsSaidAs e x

    it_says : (e : Expr) (y : BoundExpr) → IsSaidAs e y → Says e (Ok y)
    it_says e y h x is = subst (IsSaidAs e) (ok_is y x is) h

    after : {X : Type 0} (e : Expr) (r : Result X BindError) (f : X → Result BoundExpr BindError) → ((y : X) → r ≡ Ok y → Says e (f y)) → Says e (and_then r f)
    after e r f h x is = let step = given f x r is in h step.0 step.1 x step.2

    mutual
      pub expr_said : (e : Expr) → Says e (bound_expr entries scope e)
      expr_said (ast.Column c) =
          after (ast.Column c) (find_column entries scope c) _ (λ id is. it_says (ast.Column c) (bound.Column id) (record { written = λ g m. found c id is; utf8 = λ g m. tt; flat = refl; same_and = refl; same_or = refl }))
      expr_said (ast.Literal d) = it_says (ast.Literal d) (bound.Literal d) (record { written = λ g m. g.0; utf8 = λ g m. g.1; flat = refl; same_and = refl; same_or = refl })
      expr_said ast.CurrentUser = it_says ast.CurrentUser bound.CurrentUser (record { written = λ g m. tt; utf8 = λ g m. tt; flat = refl; same_and = refl; same_or = refl })
      expr_said (ast.Negate n e) = after (ast.Negate n e) (bound_expr entries scope e) _ (λ x is. it_says (ast.Negate n e) (bound.Negate n x) (fragile (ast.Negate n e) (bound.Negate n x) refl refl refl refl))
      expr_said (ast.Arithmetic op n e f) =
          after (ast.Arithmetic op n e f) (bound_expr entries scope e) _ (λ x is_x. after (ast.Arithmetic op n e f) (bound_expr entries scope f) _ (λ y is_y.
          it_says (ast.Arithmetic op n e f) (bound.Arithmetic op n x y) (fragile (ast.Arithmetic op n e f) (bound.Arithmetic op n x y) refl refl refl refl)))
      expr_said (ast.Comparison op n e f) =
          after (ast.Comparison op n e f) (bound_expr entries scope e) _ (λ x is_x. after (ast.Comparison op n e f) (bound_expr entries scope f) _ (λ y is_y.
          it_says (ast.Comparison op n e f) (bound.Comparison op n x y) (compared op n e f x y (expr_said e x is_x) (expr_said f y is_y))))
      expr_said (ast.Between negated n e low high) =
          let whole : Expr = ast.Between negated n e low high in
          after whole (bound_expr entries scope e) _ (λ x is_x. after whole (bound_expr entries scope low) _ (λ y is_y. after whole (bound_expr entries scope high) _ (λ z is_z.
          it_says whole (bound.Between negated n x y z) (in_bounds negated n e low high x y z (expr_said e x is_x) (expr_said low y is_y) (expr_said high z is_z)))))
      expr_said (ast.In negated n values e) =
          after (ast.In negated n values e) (bound_expr entries scope e) _ (λ x is. it_says (ast.In negated n values e) (bound.In negated n values x) (in_values negated n values e x (expr_said e x is)))
      expr_said (ast.IsNull negated n e) = after (ast.IsNull negated n e) (bound_expr entries scope e) _ (λ x is. it_says (ast.IsNull negated n e) (bound.IsNull negated n x) (null_tested negated n e x (expr_said e x is)))
      expr_said (ast.Not n e) = after (ast.Not n e) (bound_expr entries scope e) _ (λ x is. it_says (ast.Not n e) (bound.Not n x) (denied n e x (expr_said e x is)))
      expr_said (ast.And n ms) = after (ast.And n ms) (bound_members entries scope ms) _ (λ xs is. it_says (ast.And n ms) (bound.And n (bound_exprs_of xs)) (all_of n ms (bound_exprs_of xs) (members_said ms xs is)))
      expr_said (ast.Or n ms) = after (ast.Or n ms) (bound_members entries scope ms) _ (λ xs is. it_says (ast.Or n ms) (bound.Or n (bound_exprs_of xs)) (some_of n ms (bound_exprs_of xs) (members_said ms xs is)))
      expr_said (ast.Cast n to e) = after (ast.Cast n to e) (bound_expr entries scope e) _ (λ x is. it_says (ast.Cast n to e) (bound.Cast n to x) (fragile (ast.Cast n to e) (bound.Cast n to x) refl refl refl refl))
      expr_said (ast.Case n as_ o) =
          after (ast.Case n as_ o) (bound_arms entries scope as_) _ (λ xs is_xs. after (ast.Case n as_ o) (bound_otherwise entries scope o) _ (λ y is_y.
          it_says (ast.Case n as_ o) (bound.Case n (bound_arms_of xs) y) (chosen n as_ o (bound_arms_of xs) y (arms_said as_ xs is_xs) (else_said o y is_y))))
      expr_said (ast.CountStar n) = it_says (ast.CountStar n) (bound.CountStar n) (fragile (ast.CountStar n) (bound.CountStar n) refl refl refl refl)
      expr_said (ast.Call f n e) = after (ast.Call f n e) (bound_expr entries scope e) _ (λ x is. it_says (ast.Call f n e) (bound.Call f n x) (fragile (ast.Call f n e) (bound.Call f n x) refl refl refl refl))

      members_said : (ms : Exprs) (xs : List BoundExpr) → bound_members entries scope ms ≡ Ok xs → AreSaidAs ms (bound_exprs_of xs)
      members_said no_expr xs is = subst (λ (xs : List BoundExpr). AreSaidAs no_expr (bound_exprs_of xs)) (ok_is [] xs is) no_more_members
      members_said (one_expr m ms) xs is =
          let step = first_given (bound_expr entries scope m) (bound_members entries scope ms) xs is in
          subst (λ (xs : List BoundExpr). AreSaidAs (one_expr m ms) (bound_exprs_of xs)) step.4
          (one_more_member m step.0 ms (bound_exprs_of step.1) (expr_said m step.0 step.2) (members_said ms step.1 step.3))

      arms_said : (as_ : ast.Arms) (xs : List (BoundExpr × BoundExpr)) → bound_arms entries scope as_ ≡ Ok xs → ArmsSaidAs as_ (bound_arms_of xs)
      arms_said ast.no_arm xs is = subst (λ (xs : List (BoundExpr × BoundExpr)). ArmsSaidAs ast.no_arm (bound_arms_of xs)) (ok_is [] xs is) no_more_arms
      arms_said (ast.one_arm when result as_) xs is =
          let step = first_given (pair (bound_expr entries scope when) (bound_expr entries scope result)) (bound_arms entries scope as_) xs is in
          let arm = pair_given (bound_expr entries scope when) (bound_expr entries scope result) step.0 step.2 in
          subst (λ (xs : List (BoundExpr × BoundExpr)). ArmsSaidAs (ast.one_arm when result as_) (bound_arms_of xs)) (ap (λ (p : BoundExpr × BoundExpr). p ∷ step.1) arm.4 ∙ step.4)
          (one_more_arm when result arm.0 arm.1 as_ (bound_arms_of step.1) (expr_said when arm.0 arm.2) (expr_said result arm.1 arm.3) (arms_said as_ step.1 step.3))

      else_said : (o : ast.Otherwise) (y : BoundOtherwise) → bound_otherwise entries scope o ≡ Ok y → ElseSaidAs o y
      else_said ast.Nothing y is = subst (ElseSaidAs ast.Nothing) (ok_is bound.Nothing y is) (record { written = λ g m. tt; utf8 = λ g m. tt; flat = refl })
      else_said (ast.Value e) y is =
          let step = given (λ x. Ok (bound.Value x)) y (bound_expr entries scope e) is in
          let it = expr_said e step.0 step.1 in
          subst (ElseSaidAs (ast.Value e)) (ok_is (bound.Value step.0) y step.2) (record { written = it.written; utf8 = it.utf8; flat = it.flat })
