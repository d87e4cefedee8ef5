-- The least of several offsets, in whatever order they are read.
use Rattle.std.proofs.Common.{◌≡◌, ℕ, ◌<◌, Bool, true, false, cond, List, ◌∷◌, map, Option, Some, None, refl, sym, ap, ◌∙◌, arith, is_gt, nat_cmp}
use Rattle.std.specs.Prelude.{nat_lt}
use Rattle.std.proofs.lemmas.Cmp.{nat_cmp_total}
use Rattle.std.proofs.lemmas.Bool.{eq-eqb, ltb-false, ltb-true, ne_eqb}
use Rattle.bags.specs.Least.{lesser}
use Rattle.bags.proofs.Least.{lesser_assoc}
use Rattle.memory.proofs.Cases.{some_is}
use Rattle.expr.specs.Offsets.{least, least_of, least_of_all}

-- two tests whether an offset is the greater
is_greater : (i j : ℕ) → is_gt (nat_cmp i j) ≡ nat_lt j i
is_greater i j = go (nat_lt i j) (nat_lt j i) refl refl
  where
    go : (a b : Bool) → nat_lt i j ≡ a → nat_lt j i ≡ b → is_gt (nat_cmp i j) ≡ b
    go true true h k = absurd (omega (arith, ltb-true i j h, ltb-true j i k))
    go true false h k = rw h refl
    go false true h k = let l : j < i = ltb-true j i k in rw (h, ne_eqb i j (λ e. omega (arith, e))) refl
    go false false h k = let l : i ≡ j = omega (arith, ltb-false i j h, ltb-false j i k) in rw (h, eq-eqb i j l) refl

pub lesser_is : (a b : Option ℕ) → lesser nat_cmp a b ≡ least_of a b
lesser_is None b = refl
lesser_is (Some i) None = refl
lesser_is (Some i) (Some j) = ap (λ greater. Some (cond greater j i)) (is_greater i j)

pub least_of_assoc : (a b c : Option ℕ) → least_of (least_of a b) c ≡ least_of a (least_of b c)
least_of_assoc a b c =
    sym (ap (λ o. lesser nat_cmp o c) (lesser_is a b) ∙ lesser_is (least_of a b) c) ∙ (lesser_assoc nat_cmp nat_cmp_total a b c ∙ (ap (lesser nat_cmp a) (lesser_is b c) ∙ lesser_is a (least_of b c)))

pub least_assoc : (i j k : ℕ) → least (least i j) k ≡ least i (least j k)
least_assoc i j k = some_is (least (least i j) k) (least i (least j k)) (least_of_assoc (Some i) (Some j) (Some k))

pub least_of_none : (o : Option ℕ) → least_of o None ≡ o
least_of_none None = refl
least_of_none (Some i) = refl

-- the offsets of some parts, after those that are known
abbrev pub least_after : {W : Type 0} → (W → Option ℕ) → Option ℕ → List W → Option ℕ
least_after f known ws = least_of known (least_of_all (map f ws))

pub least_next : {W : Type 0} (f : W → Option ℕ) (known : Option ℕ) (w : W) (ws : List W) → least_after f known (w ∷ ws) ≡ least_after f (least_of known (f w)) ws
least_next f known w ws = sym (least_of_assoc known (f w) (least_of_all (map f ws)))
