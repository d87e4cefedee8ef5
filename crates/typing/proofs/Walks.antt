-- The steps of the checks over members, arms and items.
use Rattle.std.proofs.Common.{◌≡◌, ℕ, suc, ◌+◌, ◌<◌, ◌≤◌, Bool, true, false, ◌&&◌, List, [], ◌∷◌, length, map, get_or, drop, drop-cons, Option, Some, None, Result, Ok, Err, refl, sym, ap, ◌∙◌, arith}
use Rattle.std.proofs.Math.ListN.{drop_of_length-le}
use Rattle.memory.specs.Results.{and_then}
use Rattle.value.specs.declared.types.ColType.{ColType}
use Rattle.value.specs.declared.types.ColType.TheVariants.{Bigint, Text, Boolean}
use Rattle.row_ast.specs.View.{expr_of, exprs, arms}
use Rattle.row_ast.specs.declared.expr.Expr.{Expr}
use Rattle.row_ast.specs.declared.expr.Arm.{Arm}
use Rattle.scope.specs.declared.lookup.Scope.{Scope}
use Rattle.scope.specs.Entry.{Entry}
use Rattle.scope.specs.Lookup.{on_scope}
use Rattle.row_ast.proofs.Walks.{exprs_step, exprs_over, arms_step, arms_over}
use Rattle.typing.specs.Clauses.{mistyped_condition, mistyped_ons}
use Rattle.expr.specs.Offsets.{least_of}
use Rattle.typing.specs.Offsets.{both}
use Rattle.typing.specs.Typing.{ArmsTyped, TypeOf, Typed, arm_type, both_arms, both_hold, common, common_of, is_condition, typed, typed_members, typed_arms}
use Rattle.expr.proofs.Leasts.{least_assoc, least_of_assoc, least_of_none}

-- ---- parts that are typed, in whatever order they are read

module _ {X : Type 0} (op : X → X → X) where
  abbrev joined : Result X ℕ → Result X ℕ → Result X ℕ
  joined a b = and_then (both a b) (λ p. Ok (op p.0 p.1))

  joined_assoc : ((x y z : X) → op (op x y) z ≡ op x (op y z)) → (a b c : Result X ℕ) → joined (joined a b) c ≡ joined a (joined b c)
  joined_assoc assoc (Ok x) (Ok y) (Ok z) = ap Ok (assoc x y z)
  joined_assoc assoc (Ok x) (Ok y) (Err k) = refl
  joined_assoc assoc (Ok x) (Err j) (Ok z) = refl
  joined_assoc assoc (Ok x) (Err j) (Err k) = refl
  joined_assoc assoc (Err i) (Ok y) (Ok z) = refl
  joined_assoc assoc (Err i) (Ok y) (Err k) = refl
  joined_assoc assoc (Err i) (Err j) (Ok z) = refl
  joined_assoc assoc (Err i) (Err j) (Err k) = ap Err (least_assoc i j k)

  joined_after : (e : X) → ((x : X) → op x e ≡ x) → (a : Result X ℕ) → joined a (Ok e) ≡ a
  joined_after e unit (Ok x) = ap Ok (unit x)
  joined_after e unit (Err i) = refl

  joined_before : (e : X) → ((x : X) → op e x ≡ x) → (a : Result X ℕ) → joined (Ok e) a ≡ a
  joined_before e unit (Ok x) = ap Ok (unit x)
  joined_before e unit (Err i) = refl

and_assoc : (a b c : Bool) → ((a && b) && c) ≡ (a && (b && c))
and_assoc true b c = refl
and_assoc false b c = refl

and_true : (a : Bool) → (a && true) ≡ a
and_true true = refl
and_true false = refl

-- ---- the type in common

same_types : (a b c : ColType) → common_of (common (Some a) (Some b)) (Some (Some c)) ≡ common_of (Some (Some a)) (common (Some b) (Some c))
same_types Bigint Bigint Bigint = refl
same_types Bigint Bigint Text = refl
same_types Bigint Bigint Boolean = refl
same_types Bigint Text Bigint = refl
same_types Bigint Text Text = refl
same_types Bigint Text Boolean = refl
same_types Bigint Boolean Bigint = refl
same_types Bigint Boolean Text = refl
same_types Bigint Boolean Boolean = refl
same_types Text Bigint Bigint = refl
same_types Text Bigint Text = refl
same_types Text Bigint Boolean = refl
same_types Text Text Bigint = refl
same_types Text Text Text = refl
same_types Text Text Boolean = refl
same_types Text Boolean Bigint = refl
same_types Text Boolean Text = refl
same_types Text Boolean Boolean = refl
same_types Boolean Bigint Bigint = refl
same_types Boolean Bigint Text = refl
same_types Boolean Bigint Boolean = refl
same_types Boolean Text Bigint = refl
same_types Boolean Text Text = refl
same_types Boolean Text Boolean = refl
same_types Boolean Boolean Bigint = refl
same_types Boolean Boolean Text = refl
same_types Boolean Boolean Boolean = refl

none_after : (o : Option TypeOf) → common_of o None ≡ None
none_after None = refl
none_after (Some a) = refl

null_after : (o : Option TypeOf) → common_of o (Some None) ≡ o
null_after None = refl
null_after (Some None) = refl
null_after (Some (Some a)) = refl

null_before : (o : Option TypeOf) → common_of (Some None) o ≡ o
null_before None = refl
null_before (Some a) = refl

pub common_assoc : (a b c : Option TypeOf) → common_of (common_of a b) c ≡ common_of a (common_of b c)
common_assoc None b c = refl
common_assoc (Some a) None c = refl
common_assoc (Some a) (Some b) None = none_after (common a b)
common_assoc (Some None) (Some b) (Some c) = sym (null_before (common b c))
common_assoc (Some (Some a)) (Some None) (Some c) = refl
common_assoc (Some (Some a)) (Some (Some b)) (Some None) = null_after (common (Some a) (Some b))
common_assoc (Some (Some a)) (Some (Some b)) (Some (Some c)) = same_types a b c

pub common_alone : (o : Option TypeOf) → common_of o (Some None) ≡ o
common_alone = null_after

-- ---- members and arms

abbrev of_both : Bool × Option TypeOf → Bool × Option TypeOf → Bool × Option TypeOf
of_both p q = (p.0 && q.0, common_of p.1 q.1)

both_assoc : (p q r : Bool × Option TypeOf) → of_both (of_both p q) r ≡ of_both p (of_both q r)
both_assoc (a, s) (b, t) (c, u) = ap (λ (x : Bool). (x, common_of (common_of s t) u)) (and_assoc a b c) ∙ ap (λ (o : Option TypeOf). (a && (b && c), o)) (common_assoc s t u)

both_after : (p : Bool × Option TypeOf) → of_both p (true, Some None) ≡ p
both_after (a, s) = ap (λ (x : Bool). (x, common_of s (Some None))) (and_true a) ∙ ap (λ (o : Option TypeOf). (a, o)) (null_after s)

both_before : (p : Bool × Option TypeOf) → of_both (true, Some None) p ≡ p
both_before (a, s) = ap (λ (o : Option TypeOf). (a, o)) (null_before s)

pub members_whole : (r : Result Bool ℕ) → both_hold (Ok true) r ≡ r
members_whole = joined_before ◌&&◌ true (λ b. refl)

pub arms_whole : (r : ArmsTyped) → both_arms (Ok (true, Some None)) r ≡ r
arms_whole = joined_before of_both (true, Some None) both_before

module _ (entries : List Entry) (scope : Scope) {A : Type 0} where
  pub member_step : (es : List (Expr A)) (k : ℕ) (e : Expr A) (more : k < length es) (is : e ≡ get_or es k e) (known new here : Result Bool ℕ) (t : Typed) (whole : Result Bool ℕ)
      → both_hold known (typed_members entries scope (exprs (drop k es))) ≡ whole → t ≡ typed entries scope (expr_of e) → here ≡ is_condition t → new ≡ both_hold known here
      → both_hold new (typed_members entries scope (exprs (drop (k + 1) es))) ≡ whole
  member_step es k e more is known new here t whole so_far p q r =
      rw (r, q, p)
      (joined_assoc ◌&&◌ and_assoc known (is_condition (typed entries scope (expr_of e))) (typed_members entries scope (exprs (drop (k + 1) es)))
      ∙ ap (λ xs. both_hold known (typed_members entries scope xs)) (sym (exprs_step es k e more is)) ∙ so_far)

  pub member_over : (es : List (Expr A)) (k : ℕ) (known whole : Result Bool ℕ) → both_hold known (typed_members entries scope (exprs (drop k es))) ≡ whole → length es ≤ k → known ≡ whole
  member_over es k known whole so_far l = sym (joined_after ◌&&◌ true and_true known) ∙ ap (λ xs. both_hold known (typed_members entries scope xs)) (sym (exprs_over es k l)) ∙ so_far

  pub arm_step : (as_ : List (Arm A)) (k : ℕ) (a : Arm A) (more : k < length as_) (is : a ≡ get_or as_ k a) (known new here : ArmsTyped) (t u : Typed) (whole : ArmsTyped)
      → both_arms known (typed_arms entries scope (arms (drop k as_))) ≡ whole → t ≡ typed entries scope (expr_of a.when) → u ≡ typed entries scope (expr_of a.result) → here ≡ arm_type t u → new ≡ both_arms known here
      → both_arms new (typed_arms entries scope (arms (drop (k + 1) as_))) ≡ whole
  arm_step as_ k a more is known new here t u whole so_far p q r s =
      rw (s, r, p, q)
      (joined_assoc of_both both_assoc known (arm_type (typed entries scope (expr_of a.when)) (typed entries scope (expr_of a.result))) (typed_arms entries scope (arms (drop (k + 1) as_)))
      ∙ ap (λ xs. both_arms known (typed_arms entries scope xs)) (sym (arms_step as_ k a more is)) ∙ so_far)

  pub arm_over : (as_ : List (Arm A)) (k : ℕ) (known whole : ArmsTyped) → both_arms known (typed_arms entries scope (arms (drop k as_))) ≡ whole → length as_ ≤ k → known ≡ whole
  arm_over as_ k known whole so_far l = sym (joined_after of_both (true, Some None) both_after known) ∙ ap (λ xs. both_arms known (typed_arms entries scope xs)) (sym (arms_over as_ k l)) ∙ so_far

-- ---- the ONs, which count their entries

module _ (entries : List Entry) {Y : Type 0} (view : Y → Entry) (ys : List Y) (k : ℕ) (known whole : Option ℕ) (so_far : least_of known (mistyped_ons entries k (map view (drop k ys))) ≡ whole) where
  pub on_next : (y : Y) → k < length ys → y ≡ get_or ys k y → (new : Option ℕ) → new ≡ least_of known (mistyped_condition entries (on_scope k (view y)) (view y).on) → least_of new (mistyped_ons entries (k + 1) (map view (drop (k + 1) ys))) ≡ whole
  on_next y more is new n =
      let s : k + 1 ≡ suc k = omega arith in
      let e : map view (drop k ys) ≡ view y ∷ map view (drop (k + 1) ys) = rw (s, drop-cons ys k y more, ← is) refl in
      rw n (least_of_assoc known (mistyped_condition entries (on_scope k (view y)) (view y).on) (mistyped_ons entries (k + 1) (map view (drop (k + 1) ys))) ∙ ap (λ es. least_of known (mistyped_ons entries k es)) (sym e) ∙ so_far)

  pub ons_over : length ys ≤ k → known ≡ whole
  ons_over l = let e : drop k ys ≡ [] = drop_of_length-le ys l in sym (least_of_none known) ∙ ap (λ zs. least_of known (mistyped_ons entries k (map view zs))) (sym e) ∙ so_far

-- ---- the known part after a list, by a function that takes one item at a time

pub known_over : {B Y W : Type 0} (all : B → List W → B) (g : Y → W) (ys : List Y) (k : ℕ) → ((b : B) → all b [] ≡ b) → (known whole : B) → all known (map g (drop k ys)) ≡ whole → length ys ≤ k → known ≡ whole
known_over all g ys k law known whole so_far l = let e : drop k ys ≡ [] = drop_of_length-le ys l in sym (law known) ∙ ap (λ zs. all known (map g zs)) (sym e) ∙ so_far
