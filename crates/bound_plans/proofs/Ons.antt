-- The ONs of a plan and those of the left entries.
use Rattle.std.proofs.Common.{◌≡◌, ◌≢◌, ℕ, suc, ◌==◌, ◌+◌, ◌<◌, Bool, true, false, ◌&&◌, List, [], ◌∷◌, ◌++◌, length, map, drop, drop-cons, get_or, append_assoc, refl, sym, ap, ap₂, ◌∙◌, arith}
use Rattle.std.proofs.lemmas.Bool.{eq-eqb, ne_eqb}
use Rattle.expr.specs.Bound.{BoundExpr}
use Rattle.scope.specs.Entry.{Entry}
use Rattle.plan_texts.specs.Plans.{OnCondition}
use Rattle.plan_texts.specs.Reading.{on_without_offsets}
use Rattle.bound_plans.specs.Filters.{is_filter}
use Rattle.bound_plans.specs.LeftJoins.{inner_count, are_numbered, are_conditions, named_ons_from, named_ons}
use Rattle.bound_plans.specs.Named.{named}
use Rattle.bound_plans.proofs.Compared.{and_false}

-- as many ONs as conditions are needed
pub not_as_many_ons : (entries : List Entry) (os : List OnCondition) (cs : List BoundExpr) → length os ≢ length cs → are_conditions entries os cs ≡ false
not_as_many_ons entries [] [] h = absurd (h refl)
not_as_many_ons entries [] (c ∷ cs) h = refl
not_as_many_ons entries (o ∷ os) [] h = refl
not_as_many_ons entries (o ∷ os) (c ∷ cs) h = ap (λ b. is_filter entries o.condition c && b) (not_as_many_ons entries os cs (λ e. h (ap suc e))) ∙ and_false (is_filter entries o.condition c)

-- ---- numbers

module _ {Y : Type 0} (view : Y → OnCondition) (ys : List Y) (inner k : ℕ) (whole : Bool) (so_far : are_numbered (inner + 1 + k) (map view (drop k ys)) ≡ whole) (y : Y) (more : k < length ys) (is : y ≡ get_or ys k y) where
  split : map view (drop k ys) ≡ view y ∷ map view (drop (k + 1) ys)
  split = let e : k + 1 ≡ suc k = omega arith in rw (e, drop-cons ys k y more, ← is) refl

  here : whole ≡ (((view y).entry == inner + 1 + k) && are_numbered (suc (inner + 1 + k)) (map view (drop (k + 1) ys)))
  here = sym so_far ∙ ap (are_numbered (inner + 1 + k)) split

  pub number_next : (view y).entry ≡ inner + 1 + k → are_numbered (inner + 1 + (k + 1)) (map view (drop (k + 1) ys)) ≡ whole
  number_next e =
      let n : inner + 1 + (k + 1) ≡ suc (inner + 1 + k) = omega arith in
      ap (λ m. are_numbered m (map view (drop (k + 1) ys))) n ∙ sym (here ∙ ap (λ b. b && are_numbered (suc (inner + 1 + k)) (map view (drop (k + 1) ys))) (eq-eqb (view y).entry (inner + 1 + k) e))

  pub other_number : ((view y).entry ≡ inner + 1 + k → ⊥) → false ≡ whole
  other_number e = sym (here ∙ ap (λ b. b && are_numbered (suc (inner + 1 + k)) (map view (drop (k + 1) ys))) (ne_eqb (view y).entry (inner + 1 + k) e))

-- ---- the ONs that are named

pub named_start : {Y : Type 0} (view : Y → OnCondition) (entries : List Entry) (lefts : List BoundExpr) (ons : List Y) (inner : ℕ) → ons ≡ [] → inner ≡ inner_count entries lefts → map view ons ++ named_ons_from entries (inner + 1 + 0) lefts ≡ named_ons entries lefts
named_start view entries lefts ons inner e f =
    let n : inner + 1 + 0 ≡ suc (inner_count entries lefts) = omega (arith, f) in
    ap (λ os. map view os ++ named_ons_from entries (inner + 1 + 0) lefts) e ∙ ap (λ m. named_ons_from entries m lefts) n

pub named_next : {Y : Type 0} (view : Y → OnCondition) (entries : List Entry) (lefts : List BoundExpr) (inner k : ℕ) (known : List OnCondition) (whole : List OnCondition) → known ++ named_ons_from entries (inner + 1 + k) (drop k lefts) ≡ whole
    → (c : BoundExpr) → k < length lefts → c ≡ get_or lefts k c → (ons : List Y) → map view ons ≡ known ++ record { entry = inner + 1 + k; condition = named entries c } ∷ [] → map view ons ++ named_ons_from entries (inner + 1 + (k + 1)) (drop (k + 1) lefts) ≡ whole
named_next view entries lefts inner k known whole so_far c more is ons e =
    let next : k + 1 ≡ suc k = omega arith in
    let split : drop k lefts ≡ c ∷ drop (k + 1) lefts = rw (next, drop-cons lefts k c more, ← is) refl in
    let n : inner + 1 + (k + 1) ≡ suc (inner + 1 + k) = omega arith in
    let on : OnCondition = record { entry = inner + 1 + k; condition = named entries c } in
    let rest = named_ons_from entries (suc (inner + 1 + k)) (drop (k + 1) lefts) in
    ap₂ (λ os m. os ++ named_ons_from entries m (drop (k + 1) lefts)) e n ∙ append_assoc known (on ∷ []) rest ∙ ap (λ cs. known ++ named_ons_from entries (inner + 1 + k) cs) (sym split) ∙ so_far

-- ---- the ONs that are read

pub numbers_are : (entries : List Entry) (number : ℕ) (cs : List BoundExpr) → are_numbered number (map on_without_offsets (named_ons_from entries number cs)) ≡ true
numbers_are entries number [] = refl
numbers_are entries number (c ∷ cs) = ap₂ (λ a b. a && b) (eq-eqb number number refl) (numbers_are entries (suc number) cs)
