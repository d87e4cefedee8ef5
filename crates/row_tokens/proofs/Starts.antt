-- The tokens of a text that starts with white space or a token: the tokens of the text after it.
use Rattle.std.proofs.Common.{◌≡◌, ℕ, zero, suc, ◌+◌, ◌-◌, ◌==◌, Bool, true, false, if◌then◌else◌, List, [], ◌∷◌, ◌++◌, length, take, drop, Some, None, slice_get, IsUtf8, refl, sym, ap, ◌∙◌, subst, append_assoc, arith}
use Rattle.std.specs.Prelude.{map}
use Rattle.std.specs.Str.{IsCharBoundary}
use Rattle.std.proofs.Math.Seq.{take-append_seam, drop-append_seam}
use Rattle.std.proofs.lemmas.Bool.{ne_eqb, eq-eqb}
use Rattle.std.proofs.lemmas.List.{append-nil, map_push}
use Rattle.std.proofs.lemmas.Str.{IsUtf8-drop}
use Rattle.row_tokens.specs.declared.lexeme.Lexeme.{Lexeme}
use Rattle.row_tokens.specs.declared.token.Token.{Token as Lexed}
use Rattle.row_tokens.specs.declared.token.TokenKind.{TokenKind}
use Rattle.row_tokens.specs.WithoutOffsets.{without_offset, words_without_offsets}
use Rattle.row_tokens.specs.View.{word_of, words_of}
use Rattle.row_tokens.specs.Tokens.{Token, is_space, lexeme, word_at, words_from}
use Rattle.row_tokens.proofs.Ends.{after_ascii, boundary, lexeme_ends, space_ascii}
use Rattle.row_tokens.proofs.Steps.{first_and_rest, words_past}

-- the tokens are the same wherever the text starts
pub anywhere : (skip at at' : ℕ) (bs : List ℕ) → map without_offset (words_from skip at bs) ≡ map without_offset (words_from skip at' bs)
unfolding words_from
anywhere skip at at' [] = refl
anywhere (suc n) at at' (b ∷ bs) = anywhere n (at + 1) (at' + 1) bs
anywhere zero at at' (b ∷ bs) =
    go (is_space b) ((lexeme (b ∷ bs)).size == 0) _ _ _ _ (anywhere zero (at + 1) (at' + 1) bs) (anywhere ((lexeme (b ∷ bs)).size - 1) (at + 1) (at' + 1) bs)
  where
    w : ℕ → Token
    w n = word_at n (lexeme (b ∷ bs)) (b ∷ bs)

    go : (s z : Bool) (ps ps' qs qs' : List Token) → map without_offset ps ≡ map without_offset ps' → map without_offset qs ≡ map without_offset qs'
        → map without_offset (if s then ps else w at ∷ (if z then [] else qs)) ≡ map without_offset (if s then ps' else w at' ∷ (if z then [] else qs'))
    go true z ps ps' qs qs' p q = p
    go false true ps ps' qs qs' p q = refl
    go false false ps ps' qs qs' p q = ap (λ ws. without_offset (w at) ∷ ws) q

-- a token without its offset
abbrev pub token_of : Lexeme → List ℕ → Token
token_of l bytes = record { kind = l.kind; bytes = bytes; number = l.number; at = 0 }

abbrev pub plain : TokenKind → List ℕ → Token
plain kind bytes = record { kind = kind; bytes = bytes; number = 0; at = 0 }

-- white space is passed over
pub space : (b : ℕ) (bs : List ℕ) → is_space b ≡ true → words_without_offsets (b ∷ bs) ≡ words_without_offsets bs
unfolding words_from
space b bs e = rw e (anywhere 0 1 0 bs)

-- so many bytes are the first token
pub step : (b : ℕ) (bs : List ℕ) (l : Lexeme) (n : ℕ) → is_space b ≡ false → lexeme (b ∷ bs) ≡ l → l.size ≡ suc n
    → words_without_offsets (b ∷ bs) ≡ token_of l (take (suc n) (b ∷ bs)) ∷ words_without_offsets (drop n bs)
unfolding words_from
step b bs l n solid e s =
    let some : (l.size == 0) ≡ false = ne_eqb l.size 0 (λ z. omega (arith, z, s)) in
    let less : l.size - 1 ≡ n = omega (arith, s) in
    rw solid (rw e (rw some (rw less (rw s (ap (λ ws. token_of l (take (suc n) (b ∷ bs)) ∷ ws) (ap (map without_offset) (words_past n 1 bs) ∙ anywhere 0 (1 + n) 0 (drop n bs)))))))

-- a token of known bytes
pub seam : (b : ℕ) (w rest : List ℕ) (l : Lexeme) → is_space b ≡ false → lexeme (b ∷ (w ++ rest)) ≡ l → l.size ≡ suc (length w)
    → words_without_offsets (b ∷ (w ++ rest)) ≡ token_of l (b ∷ w) ∷ words_without_offsets rest
seam b w rest l solid e s =
    step b (w ++ rest) l (length w) solid e s
    ∙ ap (λ bytes. token_of l (b ∷ bytes) ∷ words_without_offsets (drop (length w) (w ++ rest))) (take-append_seam w rest)
    ∙ ap (λ bs. token_of l (b ∷ w) ∷ words_without_offsets bs) (drop-append_seam w rest)

-- no token is known behind one that is none
pub last_step : (b : ℕ) (bs : List ℕ) (l : Lexeme) → is_space b ≡ false → lexeme (b ∷ bs) ≡ l → l.size ≡ 0 → words_without_offsets (b ∷ bs) ≡ token_of l (take l.size (b ∷ bs)) ∷ []
unfolding words_from
last_step b bs l solid e s =
    let none : (l.size == 0) ≡ true = eq-eqb l.size 0 s in
    rw solid (rw e (rw none refl))

-- tokens ts of a text have been found, and rest is left
pub record Found (text : List ℕ) (ts : List Lexed) (rest : List ℕ) : Type 0 where
  pub found : words_of ts ++ words_without_offsets rest ≡ words_without_offsets text
  pub utf8 : IsUtf8 rest

module _ {text : List ℕ} {ts : List Lexed} {rest : List ℕ} (seen : Found text ts rest) (b : ℕ) (first : Some b ≡ slice_get rest 0) where
  split : rest ≡ b ∷ drop 1 rest
  split = first_and_rest rest b first

  pub space_ends : is_space b ≡ true → IsCharBoundary rest 1
  space_ends blank = after_ascii rest b (drop 1 rest) split seen.utf8 (space_ascii b blank)

  pub past_space : is_space b ≡ true → Found text ts (drop 1 rest)
  past_space blank = record {
    found = ap (λ ws. words_of ts ++ ws) (sym (ap words_without_offsets split ∙ space b (drop 1 rest) blank)) ∙ seen.found;
    utf8 = IsUtf8-drop rest 1 seen.utf8 (space_ends blank);
  }

  pub token_ends : IsCharBoundary rest (lexeme rest).size
  token_ends = boundary rest _ seen.utf8 (lexeme_ends rest)

  -- the token that the code makes of a lexeme
  module _ (l : Lexeme) (t : Lexed) (lexes : l ≡ lexeme rest) (solid : is_space b ≡ false) (is : word_of t ≡ token_of l (take l.size rest)) where
    joined : (ws : List Token) → words_without_offsets rest ≡ token_of l (take l.size rest) ∷ ws → words_of (ts ++ t ∷ []) ++ ws ≡ words_without_offsets text
    joined ws next =
        ap (λ us. us ++ ws) (map_push word_of ts t) ∙ append_assoc (words_of ts) (word_of t ∷ []) ws ∙ ap (λ w. words_of ts ++ w ∷ ws) is
        ∙ ap (λ us. words_of ts ++ us) (sym next) ∙ seen.found

    next : (n : ℕ) → l.size ≡ suc n → words_without_offsets rest ≡ token_of l (take l.size rest) ∷ words_without_offsets (drop l.size rest)
    next n s =
        let P : List ℕ → Type 0 = λ bs. l ≡ lexeme bs → words_without_offsets bs ≡ token_of l (take l.size bs) ∷ words_without_offsets (drop l.size bs) in
        subst P (sym split) (λ e. step b (drop 1 rest) l n solid (sym e) s ∙ rw s refl) lexes

    pub past_token : (us : List Lexed) (left : List ℕ) → us ≡ ts ++ t ∷ [] → left ≡ drop l.size rest → (l.size ≡ 0 → ⊥) → Found text us left
    past_token us left pushed cut some = rw (pushed, cut) (go l.size refl)
      where
        go : (n : ℕ) → l.size ≡ n → Found text (ts ++ t ∷ []) (drop l.size rest)
        go zero e = absurd (some e)
        go (suc n) e = record {
          found = joined (words_without_offsets (drop l.size rest)) (next n e);
          utf8 = IsUtf8-drop rest l.size seen.utf8 (subst (λ (m : Lexeme). IsCharBoundary rest m.size) (sym lexes) token_ends);
        }

    pub past_last : (us : List Lexed) → us ≡ ts ++ t ∷ [] → l.size ≡ 0 → words_of us ≡ words_without_offsets text
    past_last us pushed none =
        let P : List ℕ → Type 0 = λ bs. l ≡ lexeme bs → words_without_offsets bs ≡ token_of l (take l.size bs) ∷ [] in
        rw pushed (sym (append-nil (words_of (ts ++ t ∷ []))) ∙ joined [] (subst P (sym split) (λ e. last_step b (drop 1 rest) l solid (sym e) none) lexes))

nothing : (bs : List ℕ) → None ≡ slice_get bs 0 → words_without_offsets bs ≡ []
unfolding words_from
nothing [] e = refl
nothing (b ∷ bs) e = cc

pub past_all : (text : List ℕ) (ts : List Lexed) (rest : List ℕ) → Found text ts rest → None ≡ slice_get rest 0 → words_of ts ≡ words_without_offsets text
past_all text ts rest seen none = sym (append-nil (words_of ts)) ∙ ap (λ ws. words_of ts ++ ws) (sym (nothing rest none)) ∙ seen.found
