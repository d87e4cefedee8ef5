-- The reading of a plan, line by line.
use Rattle.std.proofs.Common.{◌≡◌, ℕ, suc, ◌+◌, ◌<◌, ◌≤◌, Bool, true, false, if◌then◌else◌, length, refl, arith, List, [], ◌∷◌, Some, None, Result, Err, ap, ◌∙◌}
use Rattle.std.specs.Prelude.{option_and_then}
use Rattle.std.specs.Str.{is_utf8, IsUtf8}
use Rattle.std.proofs.lemmas.Str.{is_utf8-from_IsUtf8, IsUtf8-from_is_utf8}
use Rattle.plan_texts.specs.Lines.{Lines, lines_of}
use Rattle.plan_texts.specs.Plans.{PlanEntry, Plan}
use Rattle.plan_texts.specs.Reading.{Draft, with_line, plan_in, or_stops, content_at, line_at, read_lines, plan_at, Begun}

-- the plan of a draft and the rest of a text
abbrev pub read_rest : List PlanEntry → ℕ → Draft → List ℕ → Result Plan ℕ
read_rest entries number draft rest = read_lines entries number draft (lines_of rest).0 (lines_of rest).1

-- a line, and the lines of the rest after it
abbrev pub IsNext : List ℕ → List ℕ → List ℕ → Type 0
IsNext text line rest = lines_of text ≡ (line ∷ (lines_of rest).0, (lines_of rest).1)

module _ (entries : List PlanEntry) (number : ℕ) (draft : Draft) (text : List ℕ) where
  read_first : (line rest : List ℕ) → IsNext text line rest
      → read_rest entries number draft text ≡ or_stops number (option_and_then (with_line draft) (line_at entries line)) (λ next. read_rest entries (suc number) next rest)
  read_first line rest e = ap (λ (ls : Lines). read_lines entries number draft ls.0 ls.1) e

  pub reads_on : (line rest : List ℕ) (next : Draft) → IsNext text line rest → option_and_then (with_line draft) (line_at entries line) ≡ Some next
      → read_rest entries number draft text ≡ read_rest entries (number + 1) next rest
  reads_on line rest next e f =
      let step : suc number ≡ number + 1 = omega arith in
      read_first line rest e ∙ ap (λ o. or_stops number o (λ d. read_rest entries (suc number) d rest)) f ∙ ap (λ n. read_rest entries n next rest) step

  pub stops : (line rest : List ℕ) → IsNext text line rest → option_and_then (with_line draft) (line_at entries line) ≡ None → read_rest entries number draft text ≡ Err number
  stops line rest e f = read_first line rest e ∙ ap (λ o. or_stops number o (λ d. read_rest entries (suc number) d rest)) f

  pub ends : lines_of text ≡ ([], text) → read_rest entries number draft text ≡ plan_in number draft text
  ends e = ap (λ (ls : Lines). read_lines entries number draft ls.0 ls.1) e

-- a draft of the lines before the rest of a text, by the number of the next line
pub record Reads (entries : List PlanEntry) (text : List ℕ) (number : ℕ) (draft : Draft) (rest : List ℕ) : Type 0 where
  pub known : plan_at entries text ≡ read_rest entries number draft rest
  -- a line that is read has a byte and its LF
  pub near : number + number + length rest ≤ length text + 2

-- an empty line is unreadable
nothing_read : (entries : List PlanEntry) → line_at entries [] ≡ None
nothing_read entries = go (is_utf8 []) where
  go : (b : Bool) → (if b then content_at entries [] else None) ≡ None
  go true = refl
  go false = refl

pub some_byte : (entries : List PlanEntry) (draft next : Draft) (line : List ℕ) → option_and_then (with_line draft) (line_at entries line) ≡ Some next → 0 < length line
some_byte entries draft next [] e = let none = ap (option_and_then (with_line draft)) (nothing_read entries) in cc
some_byte entries draft next (b ∷ bs) e = omega arith

pub at_start : (entries : List PlanEntry) (text : List ℕ) → Reads entries text 1 Begun text
at_start entries text = record { known = refl; near = omega arith }

-- ---- UTF-8

pub in_utf8 : (entries : List PlanEntry) (l : List ℕ) → IsUtf8 l → line_at entries l ≡ content_at entries l
in_utf8 entries l u = rw (is_utf8-from_IsUtf8 l u) refl

pub not_utf8 : (entries : List PlanEntry) (l : List ℕ) → (IsUtf8 l → ⊥) → line_at entries l ≡ None
not_utf8 entries l broken = go (is_utf8 l) refl
  where
    go : (b : Bool) → is_utf8 l ≡ b → (if b then content_at entries l else None) ≡ None
    go true e = absurd (broken (IsUtf8-from_is_utf8 l e))
    go false e = refl
