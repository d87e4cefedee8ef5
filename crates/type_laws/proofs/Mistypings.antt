-- Type checking finds the least offset of an operation that is mistyped.
use Rattle.std.proofs.Common.{◌≡◌, ℕ, ◌&&◌, List, [], ◌∷◌, ◌++◌, map, Option, Some, None, Result, Ok, Err, refl, sym, ap, ◌∙◌, append_assoc}
use Rattle.memory.specs.Results.{and_then}
use Rattle.value.specs.declared.types.ColType.TheVariants.{Bigint, Boolean}
use Rattle.row_ast.specs.Ast as ast
use Rattle.scope.specs.declared.lookup.Scope.{Scope}
use Rattle.scope.specs.Entry.{Entry}
use Rattle.bags.specs.Least.{lesser}
use Rattle.std.specs.Ordering.{nat_cmp}
use Rattle.expr.specs.Offsets.{least_of}
use Rattle.typing.specs.Offsets.{both}
use Rattle.typing.specs.Clauses.{mistyped}
use Rattle.typing.specs.Typing.{Typed, aggregate_type, arm_type, between_type, can_cast, common, common_of, common_of_all, common_type, fits, is_condition, result_type, truth_if_common, type_if, type_of, typed, typed_arms, typed_members, typed_otherwise}
use Rattle.type_laws.specs.Faults.{MistypedIsLeast, inner_or_own, mistypings, mistypings_of_arms, mistypings_of_members, mistypings_of_otherwise}
use Rattle.type_laws.proofs.Leasts.{least_in, least_one, least_two}

-- ---- the offset of an error

abbrev pub error_at : {X : Type 0} → Result X ℕ → Option ℕ
error_at (Ok x) = None
error_at (Err offset) = Some offset

pub mistyped_at : (t : Typed) → mistyped t ≡ error_at t
mistyped_at (Ok t) = refl
mistyped_at (Err offset) = refl

pub both_at : {X Y : Type 0} (a : Result X ℕ) (b : Result Y ℕ) → error_at (both a b) ≡ least_of (error_at a) (error_at b)
both_at (Ok x) (Ok y) = refl
both_at (Ok x) (Err j) = refl
both_at (Err i) (Ok y) = refl
both_at (Err i) (Err j) = refl

-- f of the value of a part
abbrev made : {X Y : Type 0} → (X → Y) → Result X ℕ → Result Y ℕ
made f a = and_then a (λ x. Ok (f x))

made_at : {X Y : Type 0} (f : X → Y) (a : Result X ℕ) → error_at (made f a) ≡ error_at a
made_at f (Ok x) = refl
made_at f (Err i) = refl

-- ---- an operation, with the errors of its parts

none_is_not : (i : ℕ) (o : Option ℕ) → None ≡ lesser nat_cmp (Some i) o → ⊥
none_is_not i None h = cc
none_is_not i (Some j) h = cc

pub operation_least : {X : Type 0} (f : X → Typed) (a : Result X ℕ) (is : List ℕ) → error_at a ≡ least_in is → error_at (and_then a f) ≡ least_in (inner_or_own is (and_then a f))
operation_least f (Ok x) [] h = sym (mistyped_at (f x)) ∙ sym (least_one (mistyped (f x)))
operation_least f (Err i) [] h = absurd (cc)
operation_least f (Ok x) (i ∷ is) h = absurd (none_is_not i (least_in is) h)
operation_least f (Err j) (i ∷ is) h = h

module _ {X Y : Type 0} (a : Result X ℕ) (b : Result Y ℕ) (xs ys : List ℕ) where
  both_least : error_at a ≡ least_in xs → error_at b ≡ least_in ys → error_at (both a b) ≡ least_in (xs ++ ys)
  both_least h k = both_at a b ∙ least_two (error_at a) (error_at b) xs ys h k

  operation_of_two : (f : X × Y → Typed) → error_at a ≡ least_in xs → error_at b ≡ least_in ys → error_at (and_then (both a b) f) ≡ least_in (inner_or_own (xs ++ ys) (and_then (both a b) f))
  operation_of_two f h k = operation_least f (both a b) (xs ++ ys) (both_least h k)

between_least : (offset : ℕ) (a b c : Typed) (xs ys zs : List ℕ) → error_at a ≡ least_in xs → error_at b ≡ least_in ys → error_at c ≡ least_in zs
    → error_at (between_type offset a b c) ≡ least_in (inner_or_own (xs ++ (ys ++ zs)) (between_type offset a b c))
between_least offset a b c xs ys zs h k l =
    operation_least (λ p. truth_if_common offset (common_of p.0 (Some p.1))) (both (common_type a b) c) (xs ++ (ys ++ zs))
    (both_least (common_type a b) c (xs ++ ys) zs (made_at (λ p. common p.0 p.1) (both a b) ∙ both_least a b xs ys h k) l ∙ ap least_in (append_assoc xs ys zs))

-- ---- expressions

module _ (entries : List Entry) (scope : Scope) where
  abbrev type : ast.Expr → Typed
  type e = typed entries scope e

  abbrev all : ast.Expr → List ℕ
  all e = mistypings entries scope e

  mutual
    pub mistyped_least : (e : ast.Expr) → error_at (typed entries scope e) ≡ least_in (mistypings entries scope e)
    mistyped_least (ast.Column c) = refl
    mistyped_least (ast.Literal d) = refl
    mistyped_least ast.CurrentUser = refl
    mistyped_least (ast.Negate offset e) = operation_least (λ t. type_if offset (fits Bigint t) (Some Bigint)) (type e) (all e) (mistyped_least e)
    mistyped_least (ast.Arithmetic op offset e f) =
        operation_of_two (type e) (type f) (all e) (all f) (λ p. type_if offset (fits Bigint p.0 && fits Bigint p.1) (Some Bigint)) (mistyped_least e) (mistyped_least f)
    mistyped_least (ast.Comparison op offset e f) = operation_of_two (type e) (type f) (all e) (all f) (λ p. truth_if_common offset (common p.0 p.1)) (mistyped_least e) (mistyped_least f)
    mistyped_least (ast.Between negated offset e low high) = between_least offset (type e) (type low) (type high) (all e) (all low) (all high) (mistyped_least e) (mistyped_least low) (mistyped_least high)
    mistyped_least (ast.In negated offset values e) = operation_least (λ t. truth_if_common offset (common_of_all (t ∷ map type_of values))) (type e) (all e) (mistyped_least e)
    mistyped_least (ast.IsNull negated offset e) = operation_least (λ t. Ok (Some Boolean)) (type e) (all e) (mistyped_least e)
    mistyped_least (ast.Not offset e) = operation_least (λ t. type_if offset (fits Boolean t) (Some Boolean)) (type e) (all e) (mistyped_least e)
    mistyped_least (ast.And offset es) =
        operation_least (λ holds. type_if offset holds (Some Boolean)) (typed_members entries scope es) (mistypings_of_members entries scope es) (members_least es)
    mistyped_least (ast.Or offset es) =
        operation_least (λ holds. type_if offset holds (Some Boolean)) (typed_members entries scope es) (mistypings_of_members entries scope es) (members_least es)
    mistyped_least (ast.Cast offset to e) = operation_least (λ t. type_if offset (can_cast to t) (Some to)) (type e) (all e) (mistyped_least e)
    mistyped_least (ast.Case offset as_ o) =
        operation_of_two (typed_arms entries scope as_) (typed_otherwise entries scope o) (mistypings_of_arms entries scope as_) (mistypings_of_otherwise entries scope o) (λ p. result_type offset p.0.0 p.0.1 p.1)
        (arms_least as_) (otherwise_least o)
    mistyped_least (ast.CountStar offset) = refl
    mistyped_least (ast.Call f offset e) = operation_least (aggregate_type offset f) (type e) (all e) (mistyped_least e)

    members_least : (es : ast.Exprs) → error_at (typed_members entries scope es) ≡ least_in (mistypings_of_members entries scope es)
    members_least ast.no_expr = refl
    members_least (ast.one_expr e es) =
        made_at (λ p. p.0 && p.1) (both (is_condition (type e)) (typed_members entries scope es))
        ∙ both_least (is_condition (type e)) (typed_members entries scope es) (all e) (mistypings_of_members entries scope es) (made_at (fits Boolean) (type e) ∙ mistyped_least e) (members_least es)

    arms_least : (as_ : ast.Arms) → error_at (typed_arms entries scope as_) ≡ least_in (mistypings_of_arms entries scope as_)
    arms_least ast.no_arm = refl
    arms_least (ast.one_arm when result as_) =
        made_at (λ p. (p.0.0 && p.1.0, common_of p.0.1 p.1.1)) (both (arm_type (type when) (type result)) (typed_arms entries scope as_))
        ∙ both_least (arm_type (type when) (type result)) (typed_arms entries scope as_) (all when ++ all result) (mistypings_of_arms entries scope as_)
        (made_at (λ p. (fits Boolean p.0, Some p.1)) (both (type when) (type result)) ∙ both_least (type when) (type result) (all when) (all result) (mistyped_least when) (mistyped_least result)) (arms_least as_)

    otherwise_least : (o : ast.Otherwise) → error_at (typed_otherwise entries scope o) ≡ least_in (mistypings_of_otherwise entries scope o)
    otherwise_least ast.Nothing = refl
    otherwise_least (ast.Value e) = mistyped_least e

pub mistyped_is_least : MistypedIsLeast
mistyped_is_least entries scope e = mistyped_at (typed entries scope e) ∙ mistyped_least entries scope e
