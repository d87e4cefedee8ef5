-- What the code finds in a line: its first part, a number, the end of a line.
use Rattle.std.proofs.Common.{◌≡◌, ℕ, suc, ◌==◌, ◌+◌, ◌-◌, get_or, drop-cons, ◌<◌, ◌≤◌, Bool, true, false, not, if◌then◌else◌, cond, List, [], ◌∷◌, ◌++◌, length, take, drop, refl, sym, ap, ◌∙◌, arith}
use Rattle.std.specs.List.{position_or_len, before_first, after_first}
use Rattle.std.proofs.lemmas.Bool.{eqb-true}
use Rattle.std.proofs.lemmas.List.{append-nil, take_all, length-drop, take_more}
use Rattle.std.proofs.Math.ListN.{drop_of_length-le}
use Rattle.std.proofs.lemmas.List.Splits.{slice_split_first}
use Rattle.row_grammar.proofs.Facts.{and_left, and_right}
use Rattle.plan_texts.specs.Reading.{parts}
use Rattle.plan_texts.specs.Lines.{Lines, ends, quotes, ended, with_byte, lines_from, lines_of}
use Rattle.plan_texts.proofs.Pieces.{split_none, Lacks}

-- ---- parts

pub cut_some : (bs first rest : List ℕ) → position_or_len (λ b. b == 32) bs < length bs → first ≡ before_first (λ b. b == 32) bs → rest ≡ after_first (λ b. b == 32) bs → parts bs ≡ first ∷ parts rest
cut_some bs first rest l e f = rw (e, f) (slice_split_first (λ b. b == 32) bs 0 l)

lacks_all : (bs : List ℕ) → position_or_len (λ b. b == 32) bs ≡ length bs → Lacks (λ b. b == 32) bs
lacks_all [] e = tt
lacks_all (b ∷ bs) e = go (b == 32) refl e (lacks_all bs)
  where
    go : (t : Bool) → (b == 32) ≡ t → cond (not t) (1 + position_or_len (λ c. c == 32) bs) 0 ≡ suc (length bs) → (position_or_len (λ c. c == 32) bs ≡ length bs → Lacks (λ c. c == 32) bs) → ((b == 32) ≡ false) × Lacks (λ c. c == 32) bs
    go true h e ih = absurd (omega arith)
    go false h e ih = (h, ih (omega arith))

pub cut_none : (bs : List ℕ) → position_or_len (λ b. b == 32) bs ≡ length bs → parts bs ≡ bs ∷ []
cut_none bs e = split_none (λ b. b == 32) bs (lacks_all bs e)

-- ---- lines

-- more bytes at the front of the first line
abbrev pub with_bytes : List ℕ → Lines → Lines
with_bytes [] ls = ls
with_bytes (b ∷ bs) ls = with_byte b (with_bytes bs ls)

pub one_more_byte : (bs : List ℕ) (b : ℕ) (ls : Lines) → with_bytes (bs ++ b ∷ []) ls ≡ with_bytes bs (with_byte b ls)
one_more_byte [] b ls = refl
one_more_byte (c ∷ bs) b ls = ap (with_byte c) (one_more_byte bs b ls)

onto_line : (bs l : List ℕ) (ls : List (List ℕ)) (rest : List ℕ) → with_bytes bs (l ∷ ls, rest) ≡ ((bs ++ l) ∷ ls, rest)
onto_line [] l ls rest = refl
onto_line (b ∷ bs) l ls rest = ap (with_byte b) (onto_line bs l ls rest)

onto_rest : (bs : List ℕ) → with_bytes bs ([], []) ≡ ([], bs)
onto_rest [] = refl
onto_rest (b ∷ bs) = ap (with_byte b) (onto_rest bs)

-- so many bytes of a text have been passed, with quotes open after them or not
pub record Passed (text : List ℕ) (index : ℕ) (quoted : Bool) : Type 0 where
  pub known : lines_of text ≡ with_bytes (take index text) (lines_from quoted (drop index text))

pub at_start : (text : List ℕ) → Passed text 0 false
at_start text = record { known = refl }

at_end : (text : List ℕ) (n : ℕ) → take (length text - n) (drop n text) ≡ drop n text
at_end text n = take_all (length text - n) (drop n text) (let size = length-drop n text in omega arith)

ends_by : (b : ℕ) (quoted : Bool) → ends b quoted ≡ true → (b ≡ 10) × (quoted ≡ false)
ends_by b true e = let never = and_right (b == 10) false e in cc
ends_by b false e = (eqb-true b 10 (and_left (b == 10) true e), refl)

-- the bytes before an LF that ends a line, and those after it
pub line_is : (text : List ℕ) (index : ℕ) (quoted : Bool) → Passed text index quoted → index < length text → ends (get_or text index 0) quoted ≡ true
    → lines_of text ≡ (take index text ∷ (lines_of (take (length text - (index + 1)) (drop (index + 1) text))).0, (lines_of (take (length text - (index + 1)) (drop (index + 1) text))).1)
line_is text index quoted p l e =
    let by = ends_by (get_or text index 0) quoted e in
    let step : suc index ≡ index + 1 = omega arith in
    let split : drop index text ≡ 10 ∷ drop (index + 1) text = drop-cons text index 0 l ∙ ap (λ b. b ∷ drop (suc index) text) by.0 ∙ ap (λ n. 10 ∷ drop n text) step in
    rw (at_end text (index + 1))
    (p.known ∙ ap (λ bs. with_bytes (take index text) (lines_from quoted bs)) split ∙ ap (λ q. with_bytes (take index text) (lines_from q (10 ∷ drop (index + 1) text))) by.1
    ∙ onto_line (take index text) [] (lines_of (drop (index + 1) text)).0 (lines_of (drop (index + 1) text)).1
    ∙ ap (λ bs. let x : Lines = (bs ∷ (lines_of (drop (index + 1) text)).0, (lines_of (drop (index + 1) text)).1) in x) (append-nil (take index text)))

-- any other byte
pub byte_passed : (text : List ℕ) (index : ℕ) (quoted next : Bool) → Passed text index quoted → index < length text → ends (get_or text index 0) quoted ≡ false → next ≡ quotes (get_or text index 0) quoted → Passed text (index + 1) next
byte_passed text index quoted next p l other n = record {
  known =
      let b = get_or text index 0 in
      let step : suc index ≡ index + 1 = omega arith in
      p.known ∙ ap (λ bs. with_bytes (take index text) (lines_from quoted bs)) (drop-cons text index 0 l ∙ ap (λ m. b ∷ drop m text) step)
      ∙ ap (λ ls. with_bytes (take index text) ls) (go (ends b quoted) other)
      ∙ sym (one_more_byte (take index text) b (lines_from next (drop (index + 1) text))) ∙ ap (λ bs. with_bytes bs (lines_from next (drop (index + 1) text))) (sym (take_more text index 0 l));
}
  where
    go : (t : Bool) → t ≡ false → (if t then ended (lines_from false (drop (index + 1) text)) else with_byte (get_or text index 0) (lines_from (quotes (get_or text index 0) quoted) (drop (index + 1) text)))
        ≡ with_byte (get_or text index 0) (lines_from next (drop (index + 1) text))
    go true q = cc
    go false q = ap (λ m. with_byte (get_or text index 0) (lines_from m (drop (index + 1) text))) (sym n)

pub no_line : (text : List ℕ) (index : ℕ) (quoted : Bool) → Passed text index quoted → length text ≤ index → lines_of text ≡ ([], text)
no_line text index quoted p l =
    p.known ∙ ap (λ bs. with_bytes bs (lines_from quoted (drop index text))) (take_all index text l) ∙ ap (λ bs. with_bytes text (lines_from quoted bs)) (drop_of_length-le text l) ∙ onto_rest text
