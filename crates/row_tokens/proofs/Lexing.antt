-- The tokens of a text that starts with the bytes of a token: the token, and the tokens of the text after it.
use Rattle.std.proofs.Common.{◌≡◌, ◌≢◌, ℕ, suc, ◌+◌, ◌≤◌, ◌==◌, ◌&&◌, ◌||◌, Bool, true, false, if◌then◌else◌, Some, List, [], ◌∷◌, ◌++◌, length, take, drop, codes, refl, sym, ap, ◌∙◌, arith}
use Rattle.std.specs.Prelude.{flat_map}
use Rattle.std.specs.Char.{is_ascii_digit}
use Rattle.std.specs.List.{list_all, prefix_len, take_while}
use Rattle.std.specs.Str.Parse.{digits_value}
use Rattle.std.proofs.Math.Seq.{take-append_seam, drop-append_seam, take-append-add}
use Rattle.std.proofs.lemmas.Bool.{eqb-true, le-ltb, and_parts}
use Rattle.std.proofs.lemmas.Bool.Decides.{nat_tests}
use Rattle.std.proofs.lemmas.Slice.Eq.{bytes_eq-Decides}
use Rattle.std.proofs.lemmas.List.{length-append, append_assoc}
use Rattle.std.specs.Str.{bytes_eq}
use Rattle.row_tokens.specs.declared.lexeme.Lexeme.{Lexeme}
use Rattle.row_tokens.specs.declared.token.TokenKind.{TokenKind}
use Rattle.row_tokens.specs.declared.token.TokenKind.TheVariants as k
use Rattle.row_tokens.specs.Tokens.{after_space, closing, doubled_quote, first_number, goes_on, is_letter, is_number, is_space, kind_of_word, lexeme, minus_kind, minus_lexeme, most_name_bytes, number_lexeme, number_of, one_more, quoted, quoted_lexeme, quoted_value, starts, starts_number, undoubled, word_lexeme}
use Rattle.row_tokens.proofs.Starts.{token_of, plain, seam}
use Rattle.row_tokens.proofs.Quotes.{between_both, closing_past}
use Rattle.row_tokens.specs.WithoutOffsets.{words_without_offsets}

-- ---- runs

-- a run ends before a byte that is not of it
pub run_ends : (p : ℕ → Bool) (w rest : List ℕ) → list_all p w ≡ true → starts p rest ≡ false → prefix_len p (w ++ rest) ≡ length w
run_ends p [] [] all ends = refl
run_ends p [] (b ∷ bs) all ends = rw ends refl
run_ends p (b ∷ w) rest all ends =
    let both = and_parts (p b) (list_all p w) all in
    rw both.0 (let more = run_ends p w rest both.1 ends in omega (arith, more))

pub run_is : (p : ℕ → Bool) (w rest : List ℕ) → list_all p w ≡ true → starts p rest ≡ false → take_while p (w ++ rest) ≡ w
run_is p w rest all ends = ap (λ n. take n (w ++ rest)) (run_ends p w rest all ends) ∙ take-append_seam w rest

-- ---- words

-- letters are no white space
letter_solid : (b : ℕ) → is_letter b ≡ true → is_space b ≡ false
letter_solid b e = grind (arith, nat_tests)

letters : (b : ℕ) (bs : List ℕ) → is_letter b ≡ true → lexeme (b ∷ bs) ≡ word_lexeme (take_while goes_on (b ∷ bs))
unfolding lexeme
letters b bs e = rw e refl

short_word : (w : List ℕ) → length w ≤ most_name_bytes → word_lexeme w ≡ record { kind = kind_of_word w; size = length w; number = 0 }
short_word w short = rw (le-ltb _ _ short) refl

-- a word, before a byte that does not go on with it
pub word_first : (name rest : List ℕ) → starts is_letter name ≡ true → list_all goes_on name ≡ true → length name ≤ most_name_bytes → starts goes_on rest ≡ false
    → words_without_offsets (name ++ rest) ≡ plain (kind_of_word name) name ∷ words_without_offsets rest
word_first [] rest first all short ends = cc
word_first (b ∷ w) rest first all short ends =
    seam b w rest (record { kind = kind_of_word (b ∷ w); size = length (b ∷ w); number = 0 }) (letter_solid b first)
    (letters b (w ++ rest) first ∙ ap word_lexeme (run_is goes_on (b ∷ w) rest all ends) ∙ short_word (b ∷ w) short)
    refl

-- ---- signs

abbrev sign : TokenKind → Lexeme
sign kind = record { kind = kind; size = 1; number = 0 }

pub open_first : (rest : List ℕ) → words_without_offsets (40 ∷ rest) ≡ plain k.Open (codes "(") ∷ words_without_offsets rest
unfolding lexeme
open_first rest = seam 40 [] rest (sign k.Open) refl refl refl

pub close_first : (rest : List ℕ) → words_without_offsets (41 ∷ rest) ≡ plain k.Close (codes ")") ∷ words_without_offsets rest
unfolding lexeme
close_first rest = seam 41 [] rest (sign k.Close) refl refl refl

pub comma_first : (rest : List ℕ) → words_without_offsets (44 ∷ rest) ≡ plain k.Comma (codes ",") ∷ words_without_offsets rest
unfolding lexeme
comma_first rest = seam 44 [] rest (sign k.Comma) refl refl refl

pub dot_first : (rest : List ℕ) → words_without_offsets (46 ∷ rest) ≡ plain k.Dot (codes ".") ∷ words_without_offsets rest
unfolding lexeme
dot_first rest = seam 46 [] rest (sign k.Dot) refl refl refl

-- ---- numbers

digit_solid : (b : ℕ) → is_ascii_digit b ≡ true → is_space b ≡ false
digit_solid b e = grind (arith, nat_tests)

digit_letter : (b : ℕ) → is_ascii_digit b ≡ true → is_letter b ≡ false
digit_letter b e = grind (arith, nat_tests)

digit_minus : (b : ℕ) → is_ascii_digit b ≡ true → (b == 45) ≡ false
digit_minus b e = grind (arith, nat_tests)

no_more : (p q : ℕ → Bool) (bs : List ℕ) → ((b : ℕ) → p b ≡ false → q b ≡ false) → starts p bs ≡ false → starts q bs ≡ false
no_more p q [] h e = refl
no_more p q (b ∷ bs) h e = h b e

or_left_false : (a b : Bool) → (a || b) ≡ false → a ≡ false
or_left_false true b e = cc
or_left_false false b e = refl

or_right_false : (a b : Bool) → (a || b) ≡ false → b ≡ false
or_right_false true b e = cc
or_right_false false b e = e

no_letter : (bs : List ℕ) → starts goes_on bs ≡ false → starts is_letter bs ≡ false
no_letter bs e = no_more goes_on is_letter bs (λ b h. or_left_false (is_letter b) (is_ascii_digit b) h) e

no_digit : (bs : List ℕ) → starts goes_on bs ≡ false → starts is_ascii_digit bs ≡ false
no_digit bs e = no_more goes_on is_ascii_digit bs (λ b h. or_right_false (is_letter b) (is_ascii_digit b) h) e

number_is : (d : ℕ) (ds rest : List ℕ) → list_all is_ascii_digit (d ∷ ds) ≡ true → starts goes_on rest ≡ false
    → first_number ((d ∷ ds) ++ rest) ≡ number_of (digits_value 10 (d ∷ ds)) (length (d ∷ ds))
number_is d ds rest all ends =
    let size = run_ends is_ascii_digit (d ∷ ds) rest all (no_digit rest ends) in
    let digits = run_is is_ascii_digit (d ∷ ds) rest all (no_digit rest ends) in
    let after : drop (prefix_len is_ascii_digit ((d ∷ ds) ++ rest)) ((d ∷ ds) ++ rest) ≡ rest = ap (λ n. drop n ((d ∷ ds) ++ rest)) size ∙ drop-append_seam (d ∷ ds) rest in
    ap (λ w. number_lexeme w (starts is_letter (drop (prefix_len is_ascii_digit ((d ∷ ds) ++ rest)) ((d ∷ ds) ++ rest)))) digits
    ∙ ap (λ bs. number_lexeme (d ∷ ds) (starts is_letter bs)) after
    ∙ ap (number_lexeme (d ∷ ds)) (no_letter rest ends)

digits_lexeme : (d : ℕ) (bs : List ℕ) → is_ascii_digit d ≡ true → lexeme (d ∷ bs) ≡ first_number (d ∷ bs)
unfolding lexeme
digits_lexeme d bs e = rw (digit_letter d e) (rw e refl)

-- digits that are a number
pub digits_first : (d : ℕ) (ds rest : List ℕ) (l : Lexeme) → list_all is_ascii_digit (d ∷ ds) ≡ true → starts goes_on rest ≡ false
    → number_of (digits_value 10 (d ∷ ds)) (length (d ∷ ds)) ≡ l → l.size ≡ suc (length ds)
    → words_without_offsets ((d ∷ ds) ++ rest) ≡ token_of l (d ∷ ds) ∷ words_without_offsets rest
digits_first d ds rest l all ends is size =
    let digit = (and_parts (is_ascii_digit d) (list_all is_ascii_digit ds) all).0 in
    seam d ds rest l (digit_solid d digit) (digits_lexeme d (ds ++ rest) digit ∙ number_is d ds rest all ends ∙ is) size

-- a minus before them
minus_is : (d : ℕ) (bs : List ℕ) → is_ascii_digit d ≡ true → is_number (first_number (d ∷ bs)).kind ≡ true → minus_lexeme (d ∷ bs) ≡ sign k.SignedMinus
minus_is d bs e n = rw (digit_minus d e) (ap (λ kind. let l : Lexeme = sign kind in l) (kind_is e n)) where
  here : is_space d ≡ false → after_space (d ∷ bs) ≡ d ∷ bs
  here h = rw h refl

  ahead : (b : Bool) → is_ascii_digit d ≡ true → b ≡ true → (is_ascii_digit d && b) ≡ true
  ahead b e n = rw e n

  kind_is : is_ascii_digit d ≡ true → is_number (first_number (d ∷ bs)).kind ≡ true → minus_kind (d ∷ bs) ≡ k.SignedMinus
  kind_is e n =
      ap (λ t. if starts_number t then k.SignedMinus else k.Minus) (here (digit_solid d e))
      ∙ ap (λ b. if b then k.SignedMinus else k.Minus) (ahead (is_number (first_number (d ∷ bs)).kind) e n)

pub minus_first : (d : ℕ) (ds rest : List ℕ) → list_all is_ascii_digit (d ∷ ds) ≡ true → starts goes_on rest ≡ false
    → is_number (number_of (digits_value 10 (d ∷ ds)) (length (d ∷ ds))).kind ≡ true
    → words_without_offsets (45 ∷ (d ∷ ds) ++ rest) ≡ plain k.SignedMinus (codes "-") ∷ words_without_offsets ((d ∷ ds) ++ rest)
unfolding lexeme
minus_first d ds rest all ends n =
    let digit = (and_parts (is_ascii_digit d) (list_all is_ascii_digit ds) all).0 in
    seam 45 [] ((d ∷ ds) ++ rest) (sign k.SignedMinus) refl (minus_is d (ds ++ rest) digit (ap (λ l. is_number l.kind) (number_is d ds rest all ends) ∙ n)) refl

-- ---- string literals

abbrev pub doubled : List ℕ → List ℕ
doubled t = flat_map doubled_quote t

closing_now : (rest : List ℕ) → starts (λ b. b == 39) rest ≡ false → closing (39 ∷ rest) ≡ Some 1
closing_now [] e = refl
closing_now (c ∷ bs) e = rw e refl

-- the first quote that is not doubled
closes : (t rest : List ℕ) → starts (λ b. b == 39) rest ≡ false → closing (doubled t ++ 39 ∷ rest) ≡ Some (length (doubled t) + 1)
closes [] rest e = closing_now rest e
closes (b ∷ t) rest e = go (b == 39) refl (closes t rest e) where
  go : (q : Bool) → (b == 39) ≡ q → closing (doubled t ++ 39 ∷ rest) ≡ Some (length (doubled t) + 1) → closing (doubled (b ∷ t) ++ 39 ∷ rest) ≡ Some (length (doubled (b ∷ t)) + 1)
  go true h later = rw h (rw later (let n : length (doubled t) + 1 + 1 + 1 ≡ suc (suc (length (doubled t))) + 1 = omega arith in ap Some n))
  go false h later = rw h (closing_past b (doubled t ++ 39 ∷ rest) h ∙ rw later (let n : length (doubled t) + 1 + 1 ≡ suc (length (doubled t)) + 1 = omega arith in ap Some n))

undoubled_past : (b : ℕ) (bs : List ℕ) → (b == 39) ≡ false → undoubled (b ∷ bs) ≡ b ∷ undoubled bs
undoubled_past b [] e = refl
undoubled_past b (c ∷ bs) e = rw e refl

pub undoubles : (t : List ℕ) → undoubled (doubled t) ≡ t
undoubles [] = refl
undoubles (b ∷ t) = go (b == 39) refl (undoubles t) where
  go : (q : Bool) → (b == 39) ≡ q → undoubled (doubled t) ≡ t → undoubled (doubled (b ∷ t)) ≡ b ∷ t
  go true h later = rw h (let same = eqb-true b 39 h in rw same (ap (λ u. 39 ∷ u) later))
  go false h later = rw h (undoubled_past b (doubled t) h ∙ ap (λ u. b ∷ u) later)

-- the bytes of a string literal that would mean null
abbrev pub null_mark : List ℕ
null_mark = 92 ∷ 78 ∷ []

pub quoted_is : (t : List ℕ) → quoted_value (quoted t) ≡ t
quoted_is t = ap undoubled (sym (between_both (quoted t) (doubled t ++ 39 ∷ []) (doubled t) refl refl)) ∙ undoubles t

no_mark : (t : List ℕ) → t ≢ null_mark → bytes_eq (doubled t ++ 39 ∷ []) (92 ∷ 78 ∷ 39 ∷ []) ≡ false
no_mark t h = go (bytes_eq (doubled t ++ 39 ∷ []) (92 ∷ 78 ∷ 39 ∷ [])) refl where
  go : (q : Bool) → bytes_eq (doubled t ++ 39 ∷ []) (92 ∷ 78 ∷ 39 ∷ []) ≡ q → q ≡ false
  go false e = refl
  go true e =
      let same : doubled t ++ 39 ∷ [] ≡ 92 ∷ 78 ∷ 39 ∷ [] = (bytes_eq-Decides (doubled t ++ 39 ∷ []) (92 ∷ 78 ∷ 39 ∷ [])).0 e in
      let size : length (doubled t) ≡ 2 = omega (arith, ap length same, length-append (doubled t) (39 ∷ [])) in
      let front : doubled t ≡ 92 ∷ 78 ∷ [] = sym (take-append_seam (doubled t) (39 ∷ [])) ∙ ap (take (length (doubled t))) same ∙ ap (λ n. take n (92 ∷ 78 ∷ 39 ∷ [])) size in
      absurd (h (sym (undoubles t) ∙ ap undoubled front))

quoted_lexeme_is : (t rest : List ℕ) → t ≢ null_mark → starts (λ b. b == 39) rest ≡ false
    → quoted_lexeme (doubled t ++ 39 ∷ rest) (closing (doubled t ++ 39 ∷ rest)) ≡ record { kind = k.Quoted; size = length (doubled t) + 1 + 1; number = 0 }
quoted_lexeme_is t rest h e =
    let bytes : take (length (doubled t) + 1) (doubled t ++ 39 ∷ rest) ≡ doubled t ++ 39 ∷ [] = take-append-add (doubled t) (39 ∷ rest) 1 in
    rw (closes t rest e) (rw bytes (rw (no_mark t h) refl))

-- a string literal, before a byte that is no quote
pub quoted_first : (t rest : List ℕ) → t ≢ null_mark → starts (λ b. b == 39) rest ≡ false → words_without_offsets (quoted t ++ rest) ≡ plain k.Quoted (quoted t) ∷ words_without_offsets rest
unfolding lexeme
quoted_first t rest h e =
    ap (λ bs. words_without_offsets (39 ∷ bs)) (append_assoc (doubled t) (39 ∷ []) rest ∙ sym (append_assoc (doubled t) (39 ∷ []) rest))
    ∙ seam 39 (doubled t ++ 39 ∷ []) rest (record { kind = k.Quoted; size = length (doubled t) + 1 + 1; number = 0 }) refl
    (ap (λ bs. quoted_lexeme bs (closing bs)) (append_assoc (doubled t) (39 ∷ []) rest) ∙ quoted_lexeme_is t rest h e)
    (omega (arith, length-append (doubled t) (39 ∷ [])))
