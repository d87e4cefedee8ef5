-- Fields that lie one after the other in bytes.
use Rattle.std.proofs.Common.{◌≡◌, ◌≢◌, ℕ, zero, suc, ◌+◌, ◌-◌, ◌<◌, ◌≤◌, List, [], ◌∷◌, ◌++◌, length, take, drop, get_or, Some, None, refl, sym, ap, ◌∙◌, arith}
use Rattle.std.proofs.lemmas.List.{drop-append-le, drop_all, take-append-le, take_all, length-append, length-drop}
use Rattle.std.proofs.lemmas.Option.{slice_get_past}
use Rattle.std.specs.List.{slice_range, slice_get}
use Rattle.csv_records.specs.Fields.{EndsWithin, fields_from, start_after, start_of}

-- ---- a part of bytes

pub part_of_front : (xs ys : List ℕ) (a b : ℕ) → a ≤ b → b ≤ length xs → slice_range (xs ++ ys) a b ≡ slice_range xs a b
part_of_front xs ys a b ordered le =
    ap (take (b - a)) (drop-append-le a xs ys (omega arith)) ∙ take-append-le (b - a) (drop a xs) ys (omega (arith, length-drop a xs))

last_part : (xs ys : List ℕ) (a : ℕ) → a ≤ length xs → slice_range (xs ++ ys) a (length xs) ≡ drop a xs
last_part xs ys a le = part_of_front xs ys a (length xs) le (omega arith) ∙ take_all (length xs - a) (drop a xs) (omega (arith, length-drop a xs))

-- ---- ends

pub ends_wider : (len more start : ℕ) (ends : List ℕ) → len ≤ more → EndsWithin len start ends → EndsWithin more start ends
unfolding EndsWithin
ends_wider len more start [] le within = tt
ends_wider len more start (end ∷ ends) le within = (within.0, omega (arith, le, within.1), ends_wider len more (end + 1) ends le within.2)

pub one_more_end : (len start end : ℕ) (ends : List ℕ) → EndsWithin len start ends → start_after start ends ≤ end → end ≤ len → EndsWithin len start (ends ++ end ∷ [])
unfolding EndsWithin start_after
one_more_end len start end [] within le last = (le, last, tt)
one_more_end len start end (e ∷ ends) within le last = (within.0, within.1, one_more_end len (e + 1) end ends within.2 le last)

pub start_after-last : (start end : ℕ) (ends : List ℕ) → start_after start (ends ++ end ∷ []) ≡ end + 1
unfolding start_after
start_after-last start end [] = refl
start_after-last start end (e ∷ ends) = start_after-last (e + 1) end ends

-- ---- fields

pub length-fields : (bytes : List ℕ) (start : ℕ) (ends : List ℕ) → length (fields_from bytes start ends) ≡ length ends
unfolding fields_from
length-fields bytes start [] = refl
length-fields bytes start (end ∷ ends) = ap suc (length-fields bytes (end + 1) ends)

pub one_more_field : (bytes : List ℕ) (start end : ℕ) (ends : List ℕ) → fields_from bytes start (ends ++ end ∷ []) ≡ fields_from bytes start ends ++ slice_range bytes (start_after start ends) end ∷ []
unfolding fields_from start_after
one_more_field bytes start end [] = refl
one_more_field bytes start end (e ∷ ends) = ap (λ fs. slice_range bytes start e ∷ fs) (one_more_field bytes (e + 1) end ends)

pub same_fields : (xs ys : List ℕ) (start : ℕ) (ends : List ℕ) → EndsWithin (length xs) start ends → fields_from (xs ++ ys) start ends ≡ fields_from xs start ends
unfolding fields_from EndsWithin
same_fields xs ys start [] within = refl
same_fields xs ys start (end ∷ ends) within = λ i. part_of_front xs ys start end within.0 within.1 i ∷ same_fields xs ys (end + 1) ends within.2 i

-- ---- the field at an index

start_of-next : (start end : ℕ) (ends : List ℕ) (i : ℕ) → start_of start (end ∷ ends) (suc i) ≡ start_of (end + 1) ends i
unfolding start_of
start_of-next start end ends zero = refl
start_of-next start end ends (suc i) = refl

pub start_of-first : (start : ℕ) (ends : List ℕ) (i : ℕ) → i ≡ 0 → start ≡ start_of start ends i
unfolding start_of
start_of-first start ends zero is = refl
start_of-first start ends (suc i) is = cc is

pub start_of-later : (start : ℕ) (ends : List ℕ) (i : ℕ) → i ≢ 0 → get_or ends (i - 1) 0 + 1 ≡ start_of start ends i
unfolding start_of
start_of-later start ends zero other = absurd (other refl)
start_of-later start ends (suc i) other = ap (λ n. get_or ends n 0 + 1) (omega arith)

pub field_within : (len start : ℕ) (ends : List ℕ) (i : ℕ) → EndsWithin len start ends → i < length ends → (start_of start ends i ≤ get_or ends i 0) × (get_or ends i 0 ≤ len)
unfolding EndsWithin start_of
field_within len start [] i within lt = absurd (omega arith)
field_within len start (end ∷ ends) zero within lt = (within.0, within.1)
field_within len start (end ∷ ends) (suc i) within lt =
    let h = field_within len (end + 1) ends i within.2 (omega (arith, lt)) in
    (omega (arith, h.0, start_of-next start end ends i), h.1)

pub field_at : (bytes : List ℕ) (start : ℕ) (ends : List ℕ) (i : ℕ) → i < length ends → slice_get (fields_from bytes start ends) i ≡ Some (slice_range bytes (start_of start ends i) (get_or ends i 0))
unfolding fields_from start_of
field_at bytes start [] i lt = absurd (omega arith)
field_at bytes start (end ∷ ends) zero lt = refl
field_at bytes start (end ∷ ends) (suc i) lt =
    field_at bytes (end + 1) ends i (omega (arith, lt)) ∙ ap (λ n. Some (slice_range bytes n (get_or ends i 0))) (sym (start_of-next start end ends i))

pub no_field_at : (bytes : List ℕ) (start : ℕ) (ends : List ℕ) (i : ℕ) → length ends ≤ i → slice_get (fields_from bytes start ends) i ≡ None
no_field_at bytes start ends i le = slice_get_past (fields_from bytes start ends) i (omega (arith, le, length-fields bytes start ends))

-- ---- fields that are copied

-- the fields end within the bytes, and the next one starts there
abbrev pub Holds : List ℕ → List ℕ → Type 0
Holds bytes ends = EndsWithin (length bytes) 0 ends × (start_after 0 ends ≤ length bytes)

pub none_hold : (bytes ends : List ℕ) → ends ≡ [] → Holds bytes ends
unfolding EndsWithin start_after
none_hold bytes ends none = rw none (tt, omega arith)

pub no_fields : (bytes ends : List ℕ) → ends ≡ [] → fields_from bytes 0 ends ≡ []
unfolding fields_from
no_fields bytes ends none = rw none refl

pub joined_hold : (bytes new : List ℕ) (byte : ℕ) (ends : List ℕ) → new ≡ bytes ++ byte ∷ [] → Holds bytes ends → Holds new ends
joined_hold bytes new byte ends is (within, le) = rw is (
  ends_wider (length bytes) _ 0 ends (omega (arith, length-append bytes (byte ∷ []))) within,
  omega (arith, le, length-append bytes (byte ∷ [])),
)

pub joined_fields : (bytes new : List ℕ) (byte : ℕ) (ends : List ℕ) → new ≡ bytes ++ byte ∷ [] → Holds bytes ends → fields_from new 0 ends ≡ fields_from bytes 0 ends
joined_fields bytes new byte ends is (within, le) = rw is (same_fields bytes (byte ∷ []) 0 ends within)

pub joined_field : (bytes new : List ℕ) (byte : ℕ) (ends : List ℕ) → new ≡ bytes ++ byte ∷ [] → Holds bytes ends → drop (start_after 0 ends) new ≡ drop (start_after 0 ends) bytes ++ byte ∷ []
joined_field bytes new byte ends is (within, le) = rw is (drop-append-le (start_after 0 ends) bytes (byte ∷ []) le)

pub ended_hold : (bytes new : List ℕ) (byte : ℕ) (ends more : List ℕ) → new ≡ bytes ++ byte ∷ [] → more ≡ ends ++ length bytes ∷ [] → Holds bytes ends → Holds new more
ended_hold bytes new byte ends more is last (within, le) = rw (is, last) (
  one_more_end _ 0 (length bytes) ends (ends_wider (length bytes) _ 0 ends (omega (arith, length-append bytes (byte ∷ []))) within) le (omega (arith, length-append bytes (byte ∷ []))),
  omega (arith, start_after-last 0 (length bytes) ends, length-append bytes (byte ∷ [])),
)

-- the field at hand is the last one
pub ended_fields : (bytes new : List ℕ) (byte : ℕ) (ends more : List ℕ) → new ≡ bytes ++ byte ∷ [] → more ≡ ends ++ length bytes ∷ [] → Holds bytes ends
    → fields_from new 0 more ≡ fields_from bytes 0 ends ++ drop (start_after 0 ends) bytes ∷ []
ended_fields bytes new byte ends more is last (within, le) = rw (is, last) (
    one_more_field (bytes ++ byte ∷ []) 0 (length bytes) ends
    ∙ (λ i. same_fields bytes (byte ∷ []) 0 ends within i ++ last_part bytes (byte ∷ []) (start_after 0 ends) le i ∷ [])
    )

-- and none is at hand
pub ended_field : (bytes new : List ℕ) (byte : ℕ) (ends more : List ℕ) → new ≡ bytes ++ byte ∷ [] → more ≡ ends ++ length bytes ∷ [] → drop (start_after 0 more) new ≡ []
ended_field bytes new byte ends more is last = rw (is, last) (drop_all _ (bytes ++ byte ∷ []) (omega (arith, start_after-last 0 (length bytes) ends, length-append bytes (byte ∷ []))))
