-- Distinct numbers are counted by marks, one for each number from the least on.
use Rattle.std.proofs.Common.{◌≡◌, ℕ, ◌+◌, ◌<◌, Bool, true, false, cond, ◌||◌, ℤ, pos, ◌+ℤ◌, ◌-ℤ◌, ◌≤ℤ◌, ◌<ℤ◌, FitsSigned, w64, to_z, of_z, List, [], ◌∷◌, ◌++◌, length, set, take, get_or, refl, sym, ap, ◌∙◌, arith, Ordering, Less, Equal, Greater, eqb, is_eq, true≢false}
use Rattle.std.specs.Bool.{Decides}
use Rattle.std.specs.Ordering.{int_cmp}
use Rattle.std.specs.Int.RustNames.{unsigned_abs}
use Rattle.std.proofs.lemmas.Bool.Decides.{Decides-eqb}
use Rattle.std.proofs.lemmas.Cmp.{int_cmp_total, tied_itself}
use Rattle.std.proofs.lemmas.Int.{ints}
use Rattle.std.proofs.lemmas.List.{get_or-set_other, get_or-set_same, take_more}
use Rattle.std.proofs.lemmas.List.Folds.{list_any_more}
use Rattle.std.proofs.lemmas.List.Sorted.{IsPermutation-to_front}
use Rattle.std.proofs.lemmas.Map.Lookups.{exact_signed}
use Rattle.bags.proofs.Order.{sorted_by-IsPermutation}
use Rattle.stats.specs.Repeats.{is_repeated, without_repeats}
use Rattle.stats.proofs.Distinct.{added, count_kept, count_sorted}

-- the place of a number is how far it is above the least
pub placed : (n least : ℤ) (place places : ℕ) → FitsSigned w64 n → FitsSigned w64 least → (least ≤ℤ n) × (n <ℤ (least +ℤ pos places)) → place ≡ unsigned_abs (to_z w64 (of_z w64 n) -ℤ to_z w64 (of_z w64 least))
    → (to_z w64 (of_z w64 least) +ℤ pos place ≡ n) × (place < places)
placed n least place places f g within is = (omega (arith, ints), omega (arith, ints))

abbrev distinct : List ℤ → ℕ
distinct ns = length (without_repeats int_cmp ns)

-- one more number adds one, unless it is among those before it
count_next : (ns : List ℤ) (n : ℤ) → distinct (ns ++ n ∷ []) ≡ added int_cmp n ns + distinct ns
count_next ns n =
    sym (count_sorted int_cmp int_cmp_total (ns ++ n ∷ []))
    ∙ ap distinct (sorted_by-IsPermutation int_cmp int_cmp_total exact_signed (ns ++ n ∷ []) (n ∷ ns) (IsPermutation-to_front ns n))
    ∙ count_sorted int_cmp int_cmp_total (n ∷ ns)
    ∙ count_kept int_cmp n ns

module _ (ns : List ℤ) (least : ℤ) (places : ℕ) where
  -- a place is marked where one of the first so many numbers has it
  abbrev pub AreMarked : List Bool → ℕ → Type 0
  AreMarked marks count = (k : ℕ) → k < places → get_or marks k false ≡ is_repeated int_cmp (least +ℤ pos k) (take count ns)

  module _ (i : ℕ) (n : ℤ) (marks : List Bool) (place : ℕ) (lt : i < length ns) (is : n ≡ get_or ns i n) (at : least +ℤ pos place ≡ n) (below : place < places) (so_far : AreMarked marks i) where
    here : get_or marks place false ≡ is_repeated int_cmp n (take i ns)
    here = so_far place below ∙ ap (λ m. is_repeated int_cmp m (take i ns)) at

    next : distinct (take (i + 1) ns) ≡ cond (get_or marks place false) 0 1 + distinct (take i ns)
    next =
        ap distinct (take_more ns i n lt)
        ∙ ap (λ m. distinct (take i ns ++ m ∷ [])) (sym is)
        ∙ count_next (take i ns) n
        ∙ ap (λ b. cond b 0 1 + distinct (take i ns)) (sym here)

    count_new : get_or marks place false ≡ false → distinct (take i ns) + 1 ≡ distinct (take (i + 1) ns)
    count_new new = let e = next ∙ ap (λ b. cond b 0 1 + distinct (take i ns)) new in omega (arith, e)

    count_again : get_or marks place false ≡ true → distinct (take i ns) ≡ distinct (take (i + 1) ns)
    count_again again = let e = next ∙ ap (λ b. cond b 0 1 + distinct (take i ns)) again in omega (arith, e)

    repeated_next : (m : ℤ) → is_repeated int_cmp m (take (i + 1) ns) ≡ (is_repeated int_cmp m (take i ns) || is_eq (int_cmp m n))
    repeated_next m =
        list_any_more (λ y. is_eq (int_cmp m y)) ns i n lt
        ∙ ap (λ y. is_repeated int_cmp m (take i ns) || is_eq (int_cmp m y)) (sym is)

    or_true : (b : Bool) → true ≡ (b || true)
    or_true true = refl
    or_true false = refl

    or_false : (b : Bool) → b ≡ (b || false)
    or_false true = refl
    or_false false = refl

    -- the number's own place
    own : is_repeated int_cmp (least +ℤ pos place) (take (i + 1) ns) ≡ true
    own =
        ap (λ m. is_repeated int_cmp m (take (i + 1) ns)) at
        ∙ repeated_next n
        ∙ ap (λ o. is_repeated int_cmp n (take i ns) || is_eq o) (tied_itself int_cmp_total n)
        ∙ sym (or_true (is_repeated int_cmp n (take i ns)))

    -- another place
    other : (k : ℕ) → k < places → (k ≡ place → ⊥) → get_or marks k false ≡ is_repeated int_cmp (least +ℤ pos k) (take (i + 1) ns)
    other k few apart =
        so_far k few
        ∙ or_false _
        ∙ ap (λ b. is_repeated int_cmp (least +ℤ pos k) (take i ns) || b) (sym (go (int_cmp (least +ℤ pos k) n) refl))
        ∙ sym (repeated_next (least +ℤ pos k))
      where
        go : (o : Ordering) → int_cmp (least +ℤ pos k) n ≡ o → is_eq o ≡ false
        go Less e = refl
        go Greater e = refl
        go Equal e = let same = exact_signed (least +ℤ pos k) n e in absurd (apart (omega (arith, ints, same, at)))

    marked_new : place < length marks → AreMarked (set marks place true) (i + 1)
    marked_new long k few = go (eqb k place) (Decides-eqb k place)
      where
        go : (b : Bool) → Decides b (k ≡ place) → get_or (set marks place true) k false ≡ is_repeated int_cmp (least +ℤ pos k) (take (i + 1) ns)
        go true same = rw (same.0 refl) (get_or-set_same marks place true false long ∙ sym own)
        go false same = let apart : (k ≡ place → ⊥) = λ e. true≢false (sym (same.1 e)) in get_or-set_other marks place k true false apart ∙ other k few apart

    marked_again : get_or marks place false ≡ true → AreMarked marks (i + 1)
    marked_again again k few = go (eqb k place) (Decides-eqb k place)
      where
        go : (b : Bool) → Decides b (k ≡ place) → get_or marks k false ≡ is_repeated int_cmp (least +ℤ pos k) (take (i + 1) ns)
        go true same = rw (same.0 refl) (again ∙ sym own)
        go false same = other k few (λ e. true≢false (sym (same.1 e)))

    -- where the number's place is not marked, one more is distinct
    pub step_new : place < length marks → get_or marks place false ≡ false → (distinct (take i ns) + 1 ≡ distinct (take (i + 1) ns)) × AreMarked (set marks place true) (i + 1)
    step_new long new = (count_new new, marked_new long)

    -- where it is, no more
    pub step_again : get_or marks place false ≡ true → (distinct (take i ns) ≡ distinct (take (i + 1) ns)) × AreMarked marks (i + 1)
    step_again again = (count_again again, marked_again again)
