-- The string literals of a text in UTF-8 are in UTF-8.
use Rattle.std.proofs.Common.{◌≡◌, ◌≢◌, ℕ, suc, ◌+◌, ◌-◌, ◌<◌, ◌==◌, nat_lt, Bool, true, false, List, [], ◌∷◌, ◌++◌, length, get_or, take, drop, slice_index, refl, sym, ap, ap₂, ◌∙◌, subst, append_assoc, arith}
use Rattle.std.specs.Str.{IsUtf8, all_scalars, encode_utf8_all}
use Rattle.std.proofs.Math.Utf8.{encode, scalar}
use Rattle.std.proofs.lemmas.Bool.{and_parts, eqb-false, eqb-true, ltb-true}
use Rattle.std.proofs.lemmas.List.{drop_at, get_or_append_left, get_or_at, length-append, take-append-drop, take_at}
use Rattle.std.proofs.lemmas.Str.{IsCharBoundary-after_ascii, IsCharBoundary-before_ascii, IsUtf8-append, IsUtf8-drop, IsUtf8-encode, IsUtf8-nil, IsUtf8-take, encode_ascii, inside_one, len_utf8_bounds, length-encode}
use Rattle.row_tokens.specs.Tokens.{in_quotes, quoted_value, undoubled}
use Rattle.row_tokens.proofs.Quotes.{between_both, ends_with}

-- ---- each doubled quote once

-- a byte that is no quote is kept
no_quote : (b : ℕ) (bs : List ℕ) → (b == 39) ≡ false → undoubled (b ∷ bs) ≡ b ∷ undoubled bs
no_quote b [] e = refl
no_quote b (c ∷ bs) e = rw e refl

-- so is a quote before no other
lone_quote : (bs : List ℕ) → (get_or bs 0 0 == 39) ≡ false → undoubled (39 ∷ bs) ≡ 39 ∷ undoubled bs
lone_quote [] e = refl
lone_quote (b ∷ bs) e = rw e refl

-- and so are several bytes that are no quotes
no_quotes : (bs rest : List ℕ) → ((k : ℕ) → k < length bs → get_or bs k 0 ≢ 39) → undoubled (bs ++ rest) ≡ bs ++ undoubled rest
no_quotes [] rest h = refl
no_quotes (b ∷ bs) rest h = no_quote b (bs ++ rest) (is_other b (h 0 (omega arith))) ∙ ap (λ l. b ∷ l) (no_quotes bs rest (λ k less. h (suc k) (omega arith)))
  where
    is_other : (b : ℕ) → b ≢ 39 → (b == 39) ≡ false
    is_other b differs = go (b == 39) refl
      where
        go : (t : Bool) → (b == 39) ≡ t → t ≡ false
        go true e = absurd (differs (eqb-true b 39 e))
        go false e = refl

-- the bytes of a character that is no quote are none
other_bytes : (c : ℕ) → c ≢ 39 → (k : ℕ) → k < length (encode c) → get_or (encode c) k 0 ≢ 39
other_bytes c differs k less is =
    let whole : encode c ++ [] ≡ encode c ++ [] = refl in
    let same : get_or (encode c ++ []) k 0 ≡ 39 = get_or_append_left (encode c) [] 0 k less ∙ is in
    differs (inside_one c [] (encode c ++ []) k whole less (omega (arith, same)) ∙ same)

other_first : (c : ℕ) (rest : List ℕ) → c ≢ 39 → (get_or (encode c ++ rest) 0 0 == 39) ≡ false
other_first c rest differs = go (get_or (encode c ++ rest) 0 0 == 39) refl
  where
    go : (t : Bool) → (get_or (encode c ++ rest) 0 0 == 39) ≡ t → t ≡ false
    go true e =
        let is : get_or (encode c ++ rest) 0 0 ≡ 39 = eqb-true _ 39 e in
        absurd (differs (inside_one c rest (encode c ++ rest) 0 refl (omega (arith, length-encode c, (len_utf8_bounds c).0)) (omega (arith, is)) ∙ is))
    go false e = refl

quote_utf8 : IsUtf8 (39 ∷ [])
quote_utf8 = subst IsUtf8 (encode_ascii 39 (omega arith)) (IsUtf8-encode 39 refl)

quote_before : (bs : List ℕ) → IsUtf8 bs → IsUtf8 (39 ∷ bs)
quote_before bs u = IsUtf8-append (39 ∷ []) bs quote_utf8 u

-- what characters there are stays characters
char_kept : (c : ℕ) (rest : List ℕ) → scalar c ≡ true → c ≢ 39 → IsUtf8 (undoubled rest) → IsUtf8 (undoubled (encode c ++ rest))
char_kept c rest s differs u = subst IsUtf8 (sym (no_quotes (encode c) rest (other_bytes c differs))) (IsUtf8-append (encode c) (undoubled rest) (IsUtf8-encode c s) u)

after_quote : (c : ℕ) (rest : List ℕ) → c ≢ 39 → IsUtf8 (undoubled (encode c ++ rest)) → IsUtf8 (undoubled (39 ∷ (encode c ++ rest)))
after_quote c rest differs u = subst IsUtf8 (sym (lone_quote (encode c ++ rest) (other_first c rest differs))) (quote_before (undoubled (encode c ++ rest)) u)

is_quote : (c : ℕ) → c ≡ 39 → encode c ≡ 39 ∷ []
is_quote c e = ap encode e ∙ encode_ascii 39 (omega arith)

characters_kept : (cs : List ℕ) → all_scalars cs ≡ true → IsUtf8 (undoubled (encode_utf8_all cs))
characters_kept [] s = IsUtf8-nil
characters_kept (c ∷ []) s = by_first (c == 39) refl
  where
    first : scalar c ≡ true
    first = (and_parts (scalar c) true s).0

    by_first : (t : Bool) → (c == 39) ≡ t → IsUtf8 (undoubled (encode c ++ []))
    by_first true e = subst (λ bs. IsUtf8 (undoubled (bs ++ []))) (sym (is_quote c (eqb-true c 39 e))) quote_utf8
    by_first false e = char_kept c [] first (eqb-false c 39 e) IsUtf8-nil
characters_kept (c ∷ d ∷ cs) s = by_both (c == 39) (d == 39) refl refl (characters_kept (d ∷ cs) parts.1) (characters_kept cs more.1)
  where
    parts : (scalar c ≡ true) × (all_scalars (d ∷ cs) ≡ true)
    parts = and_parts (scalar c) (all_scalars (d ∷ cs)) s

    more : (scalar d ≡ true) × (all_scalars cs ≡ true)
    more = and_parts (scalar d) (all_scalars cs) parts.1

    by_both : (t u : Bool) → (c == 39) ≡ t → (d == 39) ≡ u → IsUtf8 (undoubled (encode d ++ encode_utf8_all cs)) → IsUtf8 (undoubled (encode_utf8_all cs))
        → IsUtf8 (undoubled (encode c ++ (encode d ++ encode_utf8_all cs)))
    by_both false u e f next rest = char_kept c (encode d ++ encode_utf8_all cs) parts.0 (eqb-false c 39 e) next
    by_both true true e f next rest =
        let first = is_quote c (eqb-true c 39 e) in
        let second = is_quote d (eqb-true d 39 f) in
        subst (λ bs. IsUtf8 (undoubled (bs ++ (encode d ++ encode_utf8_all cs)))) (sym first)
        (subst (λ bs. IsUtf8 (undoubled (39 ∷ (bs ++ encode_utf8_all cs)))) (sym second) (quote_before (undoubled (encode_utf8_all cs)) rest))
    by_both true false e f next rest =
        subst (λ bs. IsUtf8 (undoubled (bs ++ (encode d ++ encode_utf8_all cs)))) (sym (is_quote c (eqb-true c 39 e))) (after_quote d (encode_utf8_all cs) (eqb-false d 39 f) next)

undoubled_utf8 : (bs : List ℕ) → IsUtf8 bs → IsUtf8 (undoubled bs)
undoubled_utf8 bs u = subst (λ l. IsUtf8 (undoubled l)) u.1.1 (characters_kept u.0 u.1.0)

-- ---- the bytes between quotes

between_utf8 : (before bytes after : List ℕ) → IsUtf8 (before ++ (39 ∷ (bytes ++ (39 ∷ after)))) → IsUtf8 bytes
between_utf8 before bytes after u =
    let n = length before in
    let rest : List ℕ = bytes ++ (39 ∷ after) in
    let text : List ℕ = before ++ (39 ∷ rest) in
    let long = length-append before (39 ∷ rest) in
    let long' = length-append bytes (39 ∷ after) in
    let opening : get_or text n 0 ≡ 39 = get_or_at before 39 rest 0 n refl in
    let closing : get_or rest (length bytes) 0 ≡ 39 = get_or_at bytes 39 after 0 (length bytes) refl in
    let tail : drop (n + 1) text ≡ rest = ap (drop (n + 1)) (sym (append_assoc before (39 ∷ []) rest)) ∙ drop_at (before ++ 39 ∷ []) rest (n + 1) (length-append before (39 ∷ [])) in
    let open_ : IsUtf8 rest = subst IsUtf8 tail (IsUtf8-drop text (n + 1) u (IsCharBoundary-after_ascii text n u (omega (arith, long)) (omega (arith, opening)))) in
    subst IsUtf8 (take_at bytes (39 ∷ after) (length bytes) refl) (IsUtf8-take rest (length bytes) open_ (IsCharBoundary-before_ascii rest (length bytes) (omega (arith, long')) (omega (arith, closing))))

quoted_split : (bs : List ℕ) → in_quotes bs ≡ true → (ds : List ℕ) × (bs ≡ 39 ∷ (ds ++ 39 ∷ []))
quoted_split [] e = absurd (cc)
quoted_split (b ∷ cs) e =
    let parts = and_parts _ (slice_index (b ∷ cs) (length (b ∷ cs) - 1) == 39) e in
    let front = and_parts (nat_lt 1 (length (b ∷ cs))) (b == 39) parts.0 in
    let long : 1 < length (b ∷ cs) = ltb-true 1 (length (b ∷ cs)) front.0 in
    let step : length (b ∷ cs) - 1 ≡ suc (length cs - 1) = omega arith in
    let last : get_or cs (length cs - 1) 0 ≡ 39 = sym (ap (λ k. get_or (b ∷ cs) k 0) step) ∙ eqb-true _ 39 parts.1 in
    (take (length cs - 1) cs, ap₂ ◌∷◌ (eqb-true b 39 front.1) (ends_with cs last (omega arith)))

-- the value of a string literal that stands in a text
pub literal_utf8 : (text bytes : List ℕ) (at : ℕ) → IsUtf8 text → take (length bytes) (drop at text) ≡ bytes → in_quotes bytes ≡ true → IsUtf8 (quoted_value bytes)
literal_utf8 text bytes at u stands quotes =
    let split = quoted_split bytes quotes in
    let ds = split.0 in
    let more = drop (length bytes) (drop at text) in
    let here : drop at text ≡ 39 ∷ (ds ++ (39 ∷ more)) =
    sym (take-append-drop (length bytes) (drop at text)) ∙ ap (λ l. l ++ more) (stands ∙ split.1) ∙ ap (λ l. 39 ∷ l) (append_assoc ds (39 ∷ []) more) in
    let whole : text ≡ take at text ++ (39 ∷ (ds ++ (39 ∷ more))) = sym (take-append-drop at text) ∙ ap (λ l. take at text ++ l) here in
    subst (λ l. IsUtf8 (undoubled l)) (between_both bytes (ds ++ 39 ∷ []) ds split.1 refl) (undoubled_utf8 ds (between_utf8 (take at text) ds more (subst IsUtf8 whole u)))
