-- The tokens that may be names: their words in lower case have the form of names.
use Rattle.std.proofs.Common.{◌≡◌, ℕ, zero, suc, ◌+◌, ◌-◌, ◌≤◌, ◌==◌, ◌^◌, nat_lt, Bool, true, false, if◌then◌else◌, cond, List, [], ◌∷◌, ◌++◌, length, take, drop, Option, Some, None, refl, sym, ap, ap₂, ◌∙◌, subst, arith}
use Rattle.std.specs.Prelude.{All}
use Rattle.std.specs.Char.{is_ascii_digit, to_ascii_lowercase}
use Rattle.std.specs.List.{list_all, prefix_len, take_while}
use Rattle.std.specs.Str.{bytes_eq, str_to_ascii_lowercase}
use Rattle.std.specs.Str.Parse.{digits_value}
use Rattle.std.proofs.lemmas.Bool.{and_from, and_parts, cond_both, ltb-false}
use Rattle.std.proofs.lemmas.Bool.Decides.{nat_tests}
use Rattle.std.proofs.lemmas.List.{length-map}
use Rattle.std.proofs.lemmas.List.Elements.{All-cons, All-nil}
use Rattle.std.proofs.lemmas.List.Folds.{length-prefix_len}
use Rattle.std.proofs.lemmas.List.Sums.{take_while-cons}
use Rattle.std.proofs.lemmas.Str.Ascii.{lowercase-lowercase}
use Rattle.row_tokens.specs.declared.lexeme.Lexeme.{Lexeme}
use Rattle.row_tokens.specs.declared.token.TokenKind.{TokenKind}
use Rattle.row_tokens.specs.declared.token.TokenKind.TheVariants as k
use Rattle.row_tokens.specs.Tokens.{Token, after_space, bad, closing, first_number, folded, goes_on, is_letter, is_space, keyword_in, kind_of_word, lexeme, minus_lexeme, most_name_bytes, number_of, plain, quoted_lexeme, reserved, sign_lexeme, starts, starts_number, unreserved, word_lexeme, words, words_from}
use Rattle.row_reader.specs.Language.{is_name, name_of}
use Rattle.expr_texts.specs.Filters.{IsName}

-- ---- words in lower case

lower_letter : (b : ℕ) → is_letter b ≡ true → is_letter (to_ascii_lowercase b) ≡ true
lower_letter b e =
    cond_both (nat_lt b 65) b (cond (nat_lt b 91) (b + 32) b) (λ c. is_letter c ≡ true) (λ _. e)
    (λ low. cond_both (nat_lt b 91) (b + 32) b (λ c. is_letter c ≡ true) (λ high. grind (arith, nat_tests)) (λ _. e))

lower_goes_on : (b : ℕ) → goes_on b ≡ true → goes_on (to_ascii_lowercase b) ≡ true
lower_goes_on b e =
    cond_both (nat_lt b 65) b (cond (nat_lt b 91) (b + 32) b) (λ c. goes_on c ≡ true) (λ _. e)
    (λ low. cond_both (nat_lt b 91) (b + 32) b (λ c. goes_on c ≡ true) (λ high. grind (arith, nat_tests)) (λ _. e))

folded_goes_on : (w : List ℕ) → list_all goes_on w ≡ true → list_all goes_on (folded w) ≡ true
folded_goes_on [] h = refl
folded_goes_on (b ∷ bs) h =
    let both = and_parts (goes_on b) (list_all goes_on bs) h in
    and_from (goes_on (to_ascii_lowercase b)) (list_all goes_on (folded bs)) (lower_goes_on b both.0) (folded_goes_on bs both.1)

folded_starts : (w : List ℕ) → starts is_letter w ≡ true → starts is_letter (folded w) ≡ true
folded_starts [] h = h
folded_starts (b ∷ bs) h = lower_letter b h

folded_again : (w : List ℕ) → folded (folded w) ≡ folded w
folded_again [] = refl
folded_again (b ∷ bs) = ap₂ ◌∷◌ (lowercase-lowercase b) (folded_again bs)

same_keyword : (es : List (List ℕ × TokenKind)) (other : TokenKind) (w : List ℕ) → keyword_in es other (folded w) ≡ keyword_in es other w
same_keyword [] other w = refl
same_keyword (e ∷ es) other w =
    ap₂ (λ (t : Bool) (kind : TokenKind). if t then e.1 else kind) (ap (λ l. bytes_eq l (str_to_ascii_lowercase e.0)) (folded_again w)) (same_keyword es other w)

same_kind : (w : List ℕ) → kind_of_word (folded w) ≡ kind_of_word w
unfolding kind_of_word
same_kind w = same_keyword (reserved ++ unreserved) k.Name w

folded_name : (w : List ℕ) → starts is_letter w ≡ true → list_all goes_on w ≡ true → length w ≤ most_name_bytes → is_name (kind_of_word w) ≡ true → IsName (folded w)
folded_name w letter goes short free =
    let long = length-map w to_ascii_lowercase in
    record {
      starts_well = folded_starts w letter;
      goes_well = folded_goes_on w goes;
      short = omega arith;
      in_lower_case = folded_again w;
      not_reserved = ap is_name (same_kind w) ∙ free;
    }

-- ---- the word at the start of a text

all_taken : (p : ℕ → Bool) (bs : List ℕ) → list_all p (take_while p bs) ≡ true
all_taken p [] = refl
all_taken p (b ∷ bs) = ap (list_all p) (take_while-cons p b bs) ∙ go (p b) refl (all_taken p bs)
  where
    go : (t : Bool) → p b ≡ t → list_all p (take_while p bs) ≡ true → list_all p (cond t (b ∷ take_while p bs) []) ≡ true
    go true e more = and_from (p b) (list_all p (take_while p bs)) e more
    go false e more = refl

letter_goes_on : (b : ℕ) → is_letter b ≡ true → goes_on b ≡ true
letter_goes_on b e = rw e refl

word_starts : (b : ℕ) (bs : List ℕ) → is_letter b ≡ true → starts is_letter (take_while goes_on (b ∷ bs)) ≡ true
word_starts b bs e =
    ap (starts is_letter) (take_while-cons goes_on b bs) ∙ ap (λ (t : Bool). starts is_letter (cond t (b ∷ take_while goes_on bs) [])) (letter_goes_on b e) ∙ e

-- ---- lexemes

-- where it may be a name, its bytes in lower case are one
abbrev Names : List ℕ → Lexeme → Type 0
Names bs l = is_name l.kind ≡ true → IsName (folded (take l.size bs))

no_name : (bs : List ℕ) (l : Lexeme) → is_name l.kind ≡ false → Names bs l
no_name bs l e h = absurd (cc)

word_names : (b : ℕ) (bs : List ℕ) → is_letter b ≡ true → Names (b ∷ bs) (word_lexeme (take_while goes_on (b ∷ bs)))
word_names b bs e =
    let w = take_while goes_on (b ∷ bs) in
    cond_both (nat_lt most_name_bytes (length w)) bad (plain (kind_of_word w) (length w)) (Names (b ∷ bs)) (λ _. no_name (b ∷ bs) bad refl)
    (λ short free.
    let whole : take (length w) (b ∷ bs) ≡ w = ap (λ n. take n (b ∷ bs)) (length-prefix_len goes_on (b ∷ bs)) in
    subst (λ v. IsName (folded v)) (sym whole) (folded_name w (word_starts b bs e) (all_taken goes_on (b ∷ bs)) (ltb-false most_name_bytes (length w) short) free))

-- a lexeme that is no name
abbrev IsUnnamed : Lexeme → Type 0
IsUnnamed l = is_name l.kind ≡ false

unnamed_either : (t : Bool) (l m : Lexeme) → IsUnnamed l → IsUnnamed m → IsUnnamed (if t then l else m)
unnamed_either t l m h h' = cond_both t l m IsUnnamed (λ _. h) (λ _. h')

number_unnamed : (bs : List ℕ) → IsUnnamed (first_number bs)
number_unnamed bs =
    let value = digits_value 10 (take_while is_ascii_digit bs) in
    let size = length (take_while is_ascii_digit bs) in
    unnamed_either (starts is_letter (drop (prefix_len is_ascii_digit bs) bs)) bad (number_of value size) refl
    (unnamed_either (nat_lt value (2 ^ 63)) (record { kind = k.Number; size = size; number = value }) _ refl (unnamed_either (value == (2 ^ 63)) (record { kind = k.MinMagnitude; size = size; number = value }) bad refl refl))

quoted_unnamed : (bs : List ℕ) (o : Option ℕ) → IsUnnamed (quoted_lexeme bs o)
quoted_unnamed bs None = refl
quoted_unnamed bs (Some n) = unnamed_either (bytes_eq (take n bs) (92 ∷ 78 ∷ 39 ∷ [])) bad (plain k.Quoted (n + 1)) refl refl

minus_unnamed : (bs : List ℕ) → IsUnnamed (minus_lexeme bs)
minus_unnamed bs =
    unnamed_either (starts (λ c. c == 45) bs) bad _ refl
    (cond_both (starts_number (after_space bs)) k.SignedMinus k.Minus (λ kind. is_name kind ≡ false) (λ _. refl) (λ _. refl))

sign_unnamed : (b : ℕ) (bs : List ℕ) → IsUnnamed (sign_lexeme b bs)
sign_unnamed b bs =
    unnamed_either (b == 40) _ _ refl (unnamed_either (b == 41) _ _ refl (unnamed_either (b == 44) _ _ refl (unnamed_either (b == 46) _ _ refl (unnamed_either (b == 59) _ _ refl
    (unnamed_either (b == 42) _ _ refl (unnamed_either (b == 37) _ _ refl (unnamed_either (b == 43) _ _ refl (unnamed_either (b == 61) _ _ refl
    (unnamed_either (b == 47) _ _ (unnamed_either (starts (λ c. c == 42) bs) _ _ refl refl)
    (unnamed_either (b == 60) _ _ (unnamed_either (starts (λ c. c == 61) bs) _ _ refl (unnamed_either (starts (λ c. c == 62) bs) _ _ refl refl))
    (unnamed_either (b == 62) _ _ (unnamed_either (starts (λ c. c == 61) bs) _ _ refl refl) refl)))))))))))

lexeme_names : (bs : List ℕ) → Names bs (lexeme bs)
unfolding lexeme
lexeme_names [] = no_name [] bad refl
lexeme_names (b ∷ bs) =
    let P : Lexeme → Type 0 = Names (b ∷ bs) in
    cond_both (is_letter b) _ _ P (λ e. word_names b bs e)
    (λ _. cond_both (is_ascii_digit b) _ _ P (λ _. no_name (b ∷ bs) (first_number (b ∷ bs)) (number_unnamed (b ∷ bs)))
    (λ _. cond_both (b == 39) _ _ P (λ _. no_name (b ∷ bs) (quoted_lexeme bs (closing bs)) (quoted_unnamed bs (closing bs)))
    (λ _. cond_both (b == 45) _ _ P (λ _. no_name (b ∷ bs) (minus_lexeme bs) (minus_unnamed bs)) (λ _. no_name (b ∷ bs) (sign_lexeme b bs) (sign_unnamed b bs)))))

-- ---- the tokens of a text

-- where the token may be a name, its word in lower case is one
abbrev pub IsWellNamed : Token → Type 0
IsWellNamed w = is_name w.kind ≡ true → IsName (name_of w)

names_from : (skip at : ℕ) (bs : List ℕ) → All IsWellNamed (words_from skip at bs)
unfolding words_from
names_from skip at [] = All-nil IsWellNamed
names_from (suc n) at (b ∷ bs) = names_from n (at + 1) bs
names_from zero at (b ∷ bs) =
    cond_both (is_space b) _ _ (All IsWellNamed) (λ _. names_from zero (at + 1) bs)
    (λ _. All-cons IsWellNamed _ _ (lexeme_names (b ∷ bs))
    (cond_both ((lexeme (b ∷ bs)).size == 0) _ _ (All IsWellNamed) (λ _. All-nil IsWellNamed) (λ _. names_from ((lexeme (b ∷ bs)).size - 1) (at + 1) bs)))

pub well_named : (text : List ℕ) → All IsWellNamed (words text)
well_named text = names_from 0 0 text
