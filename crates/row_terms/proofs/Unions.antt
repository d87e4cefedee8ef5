-- The union of combinations: either side may come first, of three the last two may be exchanged, and it has the slots of both.
use Rattle.std.proofs.Common.{◌≡◌, ℕ, zero, suc, Bool, true, false, List, [], ◌∷◌, Option, Some, None, refl, sym, ap, ◌∙◌, subst}
use Rattle.memory.proofs.Cases.{some_is}
use Rattle.bags.specs.Products.{then_union}
use Rattle.tuples.specs.declared.slot.Slot.{Slot}
use Rattle.tuples.specs.declared.slot.Slot.TheVariants.{Absent, NullRow, Row}
use Rattle.tuples.specs.Slots.{slot_at}
use Rattle.row_terms.specs.Means.{either, with_slot, union}

-- ---- one slot

pub either-swap : (a b : Slot) → either a b ≡ either b a
either-swap Absent Absent = refl
either-swap Absent NullRow = refl
either-swap Absent (Row n) = refl
either-swap NullRow Absent = refl
either-swap NullRow NullRow = refl
either-swap NullRow (Row n) = refl
either-swap (Row m) Absent = refl
either-swap (Row m) NullRow = refl
either-swap (Row m) (Row n) = refl

abbrev then_either : Option Slot → Slot → Option Slot
then_either None c = None
then_either (Some s) c = either s c

either-exchange : (a b c : Slot) → then_either (either a b) c ≡ then_either (either a c) b
either-exchange Absent b c = either-swap b c
either-exchange NullRow Absent Absent = refl
either-exchange NullRow Absent NullRow = refl
either-exchange NullRow Absent (Row n) = refl
either-exchange NullRow NullRow Absent = refl
either-exchange NullRow NullRow NullRow = refl
either-exchange NullRow NullRow (Row n) = refl
either-exchange NullRow (Row m) Absent = refl
either-exchange NullRow (Row m) NullRow = refl
either-exchange NullRow (Row m) (Row n) = refl
either-exchange (Row l) Absent Absent = refl
either-exchange (Row l) Absent NullRow = refl
either-exchange (Row l) Absent (Row n) = refl
either-exchange (Row l) NullRow Absent = refl
either-exchange (Row l) NullRow NullRow = refl
either-exchange (Row l) NullRow (Row n) = refl
either-exchange (Row l) (Row m) Absent = refl
either-exchange (Row l) (Row m) NullRow = refl
either-exchange (Row l) (Row m) (Row n) = refl

-- ---- all slots

pub union-swap : (xs ys : List Slot) → union xs ys ≡ union ys xs
union-swap [] [] = refl
union-swap [] (y ∷ ys) = refl
union-swap (x ∷ xs) [] = refl
union-swap (x ∷ xs) (y ∷ ys) = ap (λ s. with_slot s (union xs ys)) (either-swap x y) ∙ ap (with_slot (either y x)) (union-swap xs ys)

then-nil : (o : Option (List Slot)) → then_union union o [] ≡ o
then-nil None = refl
then-nil (Some []) = refl
then-nil (Some (x ∷ xs)) = refl

no_slots : (s : Option Slot) → with_slot s None ≡ None
no_slots None = refl
no_slots (Some s) = refl

then-cons : (s : Option Slot) (o : Option (List Slot)) (z : Slot) (zs : List Slot) → then_union union (with_slot s o) (z ∷ zs) ≡ with_slot (then_either s z) (then_union union o zs)
then-cons None None z zs = refl
then-cons None (Some u) z zs = refl
then-cons (Some s) None z zs = sym (no_slots (either s z))
then-cons (Some s) (Some u) z zs = refl

pub union-exchange : (xs ys zs : List Slot) → then_union union (union xs ys) zs ≡ then_union union (union xs zs) ys
union-exchange [] ys zs = union-swap ys zs
union-exchange (x ∷ xs) [] [] = refl
union-exchange (x ∷ xs) [] (z ∷ zs) = sym (then-nil (union (x ∷ xs) (z ∷ zs)))
union-exchange (x ∷ xs) (y ∷ ys) [] = then-nil (union (x ∷ xs) (y ∷ ys))
union-exchange (x ∷ xs) (y ∷ ys) (z ∷ zs) =
    then-cons (either x y) (union xs ys) z zs
    ∙ ap (λ s. with_slot s (then_union union (union xs ys) zs)) (either-exchange x y z)
    ∙ ap (with_slot (then_either (either x z) y)) (union-exchange xs ys zs)
    ∙ sym (then-cons (either x z) (union xs zs) y ys)

-- ---- the slots of the left side

abbrev pub is_there : Slot → Bool
is_there Absent = false
is_there NullRow = true
is_there (Row number) = true

-- the combination has a row, or the null row, of the entry
abbrev pub HasSlot : ℕ → List Slot → Type 0
HasSlot entry slots = is_there (slot_at slots entry) ≡ true

either-left : (x y s : Slot) → is_there x ≡ true → either x y ≡ Some s → s ≡ x
either-left Absent y s h e = absurd (cc)
either-left NullRow Absent s h e = sym (some_is _ _ e)
either-left NullRow NullRow s h e = absurd (cc)
either-left NullRow (Row n) s h e = absurd (cc)
either-left (Row m) Absent s h e = sym (some_is _ _ e)
either-left (Row m) NullRow s h e = absurd (cc)
either-left (Row m) (Row n) s h e = absurd (cc)

with-parts : (s : Option Slot) (o : Option (List Slot)) (z : List Slot) → with_slot s o ≡ Some z → (c : Slot) × (u : List Slot) × (s ≡ Some c) × (o ≡ Some u) × (c ∷ u ≡ z)
with-parts None None z e = absurd (cc)
with-parts None (Some u) z e = absurd (cc)
with-parts (Some c) None z e = absurd (cc)
with-parts (Some c) (Some u) z e = (c, u, refl, refl, some_is _ _ e)

-- a union has the slots of its left side
pub left_slot : (xs ys z : List Slot) (i : ℕ) → union xs ys ≡ Some z → HasSlot i xs → slot_at z i ≡ slot_at xs i
left_slot [] ys z i e h = absurd (cc)
left_slot (x ∷ xs) [] z i e h = ap (λ l. slot_at l i) (sym (some_is (x ∷ xs) z e))
left_slot (x ∷ xs) (y ∷ ys) z zero e h =
    let p = with-parts (either x y) (union xs ys) z e in
    subst (λ l. slot_at l 0 ≡ x) p.4 (either-left x y p.0 h p.2)
left_slot (x ∷ xs) (y ∷ ys) z (suc i) e h =
    let p = with-parts (either x y) (union xs ys) z e in
    subst (λ l. slot_at l (suc i) ≡ slot_at xs i) p.4 (left_slot xs ys p.1 i p.3 h)

pub left_has : (i : ℕ) (x y z : List Slot) → HasSlot i x → union x y ≡ Some z → HasSlot i z
left_has i x y z h e = ap is_there (left_slot x y z i e h) ∙ h

pub right_slot : (xs ys z : List Slot) (i : ℕ) → union xs ys ≡ Some z → HasSlot i ys → slot_at z i ≡ slot_at ys i
right_slot xs ys z i e h = left_slot ys xs z i (union-swap ys xs ∙ e) h

pub right_has : (i : ℕ) (x y z : List Slot) → HasSlot i y → union x y ≡ Some z → HasSlot i z
right_has i x y z h e = ap is_there (right_slot x y z i e h) ∙ h
