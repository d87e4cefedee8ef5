-- The bytes that a buffer holds.
use Rattle.std.proofs.Common.{◌≡◌, ℕ, nat_lt, Bool, true, false, if◌then◌else◌, suc, ◌+◌, ◌-◌, ◌<◌, ◌≤◌, ◌⊎◌, inl, inr, List, [], ◌∷◌, ◌++◌, length, take, drop, get_or, Option, Some, None, option_map, refl, sym, ap, ◌∙◌, arith}
use Rattle.std.proofs.lemmas.List.{append-nil, drop-append-le, drop-take, drop_more, length-drop, length-take-le, take-append-le, append_assoc}
use Rattle.std.proofs.lemmas.Bool.{ltb-false, ltb-true}
use Rattle.std.proofs.Math.Seq.{drop-append_seam, drop-drop, take-add, take-length}
use Rattle.std.specs.Prelude.{IfSome}
use Rattle.std.specs.List.{slice_range}
use Rattle.std.specs.Io.KnownBytes.{Consumes, IsAtEnd, Keeps, prepend_known}
use Rattle.csv.specs.Reading.{is_bom, strip_bom}
use Rattle.csv_records.specs.Unread.{AllAreHeld, StartsLeft, TakesByte, Unread, has_mark}

-- ---- bytes are passed over

pub length-part : (xs : List ℕ) (a b : ℕ) → b ≤ length xs → length (slice_range xs a b) ≡ b - a
length-part xs a b le = length-take-le (b - a) (drop a xs) (omega (arith, le, length-drop a xs))

pub part_drop : (xs : List ℕ) (a n b : ℕ) → a + n ≤ b → slice_range xs (a + n) b ≡ drop n (slice_range xs a b)
part_drop xs a n b le =
    (λ i. take (b - (a + n)) (sym (drop-drop n a xs) i))
    ∙ sym (drop-take n (b - (a + n)) (drop a xs))
    ∙ ap (λ m. drop n (take m (drop a xs))) (omega (arith, le))

pub left_drop : (held : List ℕ) (n : ℕ) (known : Option (List ℕ)) → n ≤ length held → prepend_known (drop n held) known ≡ option_map (drop n) (prepend_known held known)
left_drop held n None le = refl
left_drop held n (Some xs) le = ap Some (sym (drop-append-le n held xs le))

-- ---- more bytes are read

-- what is held with bytes that were read after it
pub more_held : (bytes buf rest : List ℕ) (at filled count : ℕ) → at ≡ 0 → filled ≤ length bytes → count ≤ length buf
    → slice_range (take filled bytes ++ (buf ++ rest)) at (filled + count) ≡ slice_range bytes at filled ++ take count buf
more_held bytes buf rest at filled count start le few = rw start (whole ∙ sym front) where
  all : List ℕ
  all = take filled bytes ++ (buf ++ rest)

  long : length (take filled bytes) ≡ filled
  long = length-take-le filled bytes le

  whole : slice_range all 0 (filled + count) ≡ take filled bytes ++ take count buf
  whole =
      ap (λ n. take n all) (omega arith)
      ∙ take-add filled count all
      ∙ (λ i. front_of i ++ take count (back_of i))
      ∙ ap (λ l. take filled bytes ++ l) (take-append-le count buf rest few) where
        front_of : take filled all ≡ take filled bytes
        front_of = take-append-le filled (take filled bytes) (buf ++ rest) (omega (arith, long)) ∙ ap (λ n. take n (take filled bytes)) (sym long) ∙ take-length (take filled bytes)

        back_of : drop filled all ≡ buf ++ rest
        back_of = ap (λ n. drop n all) (sym long) ∙ drop-append_seam (take filled bytes) (buf ++ rest)

  front : slice_range bytes 0 filled ++ take count buf ≡ take filled bytes ++ take count buf
  front = ap (λ n. take n bytes ++ take count buf) (omega arith)

pub more_kept : (held more : List ℕ) (old new : Option (List ℕ)) → Consumes old new more → Keeps (prepend_known held old) (prepend_known (held ++ more) new)
more_kept held more None new reads = tt
more_kept held more (Some xs) None reads = absurd reads
more_kept held more (Some xs) (Some ys) reads = append_assoc held more ys ∙ ap (λ l. held ++ l) (sym reads)

pub none_read : (n : ℕ) → nat_lt 0 n ≡ false → n ≡ 0
none_read n h = omega (arith, ltb-false 0 n h)

-- where none was read, those that are held are all
pub none_held : (held buf : List ℕ) (count : ℕ) → count ≡ 0 → held ++ take count buf ≡ held
none_held held buf count none = ap (λ n. held ++ take n buf) none ∙ append-nil held

pub all_held : (held : List ℕ) (known : Option (List ℕ)) → IsAtEnd known → IfSome (prepend_known held known) (λ xs. xs ≡ held)
all_held held None end = tt
all_held held (Some xs) end = ap (λ l. held ++ l) end ∙ append-nil held

pub starts_left : (held : List ℕ) (known : Option (List ℕ)) → IfSome (prepend_known held known) (λ xs. (more : List ℕ) × (xs ≡ held ++ more))
starts_left held None = tt
starts_left held (Some xs) = (xs, refl)

pub room_left : (bytes buf : List ℕ) (filled k : ℕ) → length buf ≡ length (take k (drop filled bytes)) → filled + k ≤ length bytes → length buf ≡ k
room_left bytes buf filled k is le = is ∙ length-take-le k (drop filled bytes) (omega (arith, le, length-drop filled bytes))

-- ---- a byte is taken

part_more : (xs : List ℕ) (a b : ℕ) → a < b → b ≤ length xs → slice_range xs a b ≡ get_or xs a 0 ∷ slice_range xs (a + 1) b
part_more xs a b lt le =
    (λ i. take (more i) (drop_more xs a 0 (omega (arith, lt, le)) i)) where
      more : b - a ≡ suc (b - (a + 1))
      more = omega (arith, lt)

pub byte_taken : (xs : List ℕ) (a b : ℕ) (known : Option (List ℕ)) → a < b → b ≤ length xs → Consumes (prepend_known (slice_range xs a b) known) (prepend_known (slice_range xs (a + 1) b) known) (get_or xs a 0 ∷ [])
byte_taken xs a b None lt le = tt
byte_taken xs a b (Some ys) lt le = ap (λ l. l ++ ys) (part_more xs a b lt le)

-- no byte is left
pub none_taken : (u : Unread) (old : Option (List ℕ)) → Keeps old u.left → u.held ≡ [] → AllAreHeld u → TakesByte old u.left None
none_taken u old kept none all = of_known old u.left kept all where
  of_known : (old new : Option (List ℕ)) → Keeps old new → IfSome new (λ xs. xs ≡ u.held) → TakesByte old new None
  of_known None None kept all = (tt, λ _. tt)
  of_known None (Some ys) kept all = (tt, λ _. all ∙ none)
  of_known (Some xs) None kept all = absurd kept
  of_known (Some xs) (Some ys) kept all = (sym kept, λ _. all ∙ none)

pub one_taken : (old mid new : Option (List ℕ)) (byte : ℕ) → Keeps old mid → Consumes mid new (byte ∷ []) → TakesByte old new (Some byte)
one_taken None mid new byte kept taken = (tt, λ e. cc e)
one_taken (Some xs) None new byte kept taken = absurd kept
one_taken (Some xs) (Some ys) None byte kept taken = absurd taken
one_taken (Some xs) (Some ys) (Some zs) byte kept taken = (sym kept ∙ taken, λ e. cc e)

-- ---- a byte order mark is passed over

strip_is : (xs : List ℕ) → strip_bom xs ≡ (if has_mark xs then drop 3 xs else xs)
unfolding strip_bom has_mark
strip_is [] = refl
strip_is (a ∷ []) = refl
strip_is (a ∷ b ∷ []) = refl
strip_is (a ∷ b ∷ c ∷ rest) = refl

pub mark_of_three : (xs : List ℕ) → 3 ≤ length xs → is_bom (get_or xs 0 0) (get_or xs 1 0) (get_or xs 2 0) ≡ has_mark xs
unfolding has_mark
mark_of_three [] le = absurd (omega (arith, le))
mark_of_three (a ∷ []) le = absurd (omega (arith, le))
mark_of_three (a ∷ b ∷ []) le = absurd (omega (arith, le))
mark_of_three (a ∷ b ∷ c ∷ rest) le = refl

pub mark_of_few : (xs : List ℕ) → length xs < 3 → false ≡ has_mark xs
unfolding has_mark
mark_of_few [] lt = refl
mark_of_few (a ∷ []) lt = refl
mark_of_few (a ∷ b ∷ []) lt = refl
mark_of_few (a ∷ b ∷ c ∷ rest) lt = absurd (omega (arith, lt))

pub three_held : (xs : List ℕ) → has_mark xs ≡ true → 3 ≤ length xs
three_held xs is = by_cases (nat_lt (length xs) 3) refl where
  by_cases : (b : Bool) → nat_lt (length xs) 3 ≡ b → 3 ≤ length xs
  by_cases false e = ltb-false (length xs) 3 e
  by_cases true e = cc (mark_of_few xs (ltb-true (length xs) 3 e), is)

same_mark : (held more : List ℕ) → 3 ≤ length held → has_mark (held ++ more) ≡ has_mark held
unfolding has_mark
same_mark [] more le = absurd (omega (arith, le))
same_mark (a ∷ []) more le = absurd (omega (arith, le))
same_mark (a ∷ b ∷ []) more le = absurd (omega (arith, le))
same_mark (a ∷ b ∷ c ∷ rest) more le = refl

mark_of_all : (held xs : List ℕ) → ((3 ≤ length held) ⊎ (xs ≡ held)) → (more : List ℕ) → xs ≡ held ++ more → has_mark xs ≡ has_mark held
mark_of_all held xs (inl le) more is = ap has_mark is ∙ same_mark held more le
mark_of_all held xs (inr all) more is = ap has_mark all

-- what is left after a mark, if there is one
pub after_mark : (u : Unread) (old : Option (List ℕ)) → Keeps old u.left → StartsLeft u → ((3 ≤ length u.held) ⊎ AllAreHeld u) → (b : Bool) → b ≡ has_mark u.held
    → Keeps (option_map strip_bom old) (if b then option_map (drop 3) u.left else u.left)
after_mark u None kept starts enough b is = tt
after_mark u (Some xs) kept starts enough b is = of_left u.left kept starts enough where
  of_left : (left : Option (List ℕ)) → Keeps (Some xs) left → IfSome left (λ ys. (more : List ℕ) × (ys ≡ u.held ++ more)) → ((3 ≤ length u.held) ⊎ IfSome left (λ ys. ys ≡ u.held))
      → Keeps (Some (strip_bom xs)) (if b then option_map (drop 3) left else left)
  of_left None kept starts enough = absurd kept
  of_left (Some ys) kept (more, starts) enough = by_test b (is ∙ sym (mark_of_all u.held ys enough more starts)) where
    by_test : (b : Bool) → b ≡ has_mark ys → Keeps (Some (strip_bom xs)) (if b then Some (drop 3 ys) else Some ys)
    by_test true e = sym (ap strip_bom (sym kept) ∙ strip_is ys ∙ ap (λ t. if t then drop 3 ys else ys) (sym e))
    by_test false e = sym (ap strip_bom (sym kept) ∙ strip_is ys ∙ ap (λ t. if t then drop 3 ys else ys) (sym e))
