-- A text is cut at its first colon.
use Rattle.std.proofs.Common.{◌≡◌, ◌≢◌, ℕ, suc, ◌+◌, ◌==◌, ◌<◌, false, map, drop, drop-cons, get_or, List, [], ◌∷◌, ◌++◌, append_assoc, length, Option, Some, None, refl, sym, ap, ◌∙◌, arith}
use denote.Ref.{Bor}
use Rattle.std.specs.Prelude.{⊤, option_and_then, option_map}
use Rattle.std.proofs.lemmas.Bool.{ne_eqb}
use Rattle.std.proofs.lemmas.Str.Pattern.{IsSplitOnceResult, split_parts}
use Rattle.std.proofs.lemmas.List.{map-append}
use Rattle.clap.specs.Words.{Text}
use Rattle.command_line.specs.View.{allowed_of}
use Rattle.command_line.specs.declared.arguments.Allowed.{Allowed}
use Rattle.command_line.specs.Requests.{pair_in, pairs_in}

abbrev pub NoColon : Text → Type 0
NoColon [] = ⊤
NoColon (b ∷ bs) = ((b == 58) ≡ false) × NoColon bs

none_from : (bs : Text) → ((i : ℕ) → i < length bs → get_or bs i 0 ≢ 58) → NoColon bs
none_from [] h = tt
none_from (b ∷ bs) h = (ne_eqb b 58 (h 0 (omega arith)), none_from bs (λ i l. h (suc i) (omega arith)))

no_pair : (bs : Text) → NoColon bs → pair_in bs ≡ None
no_pair [] l = refl
no_pair (b ∷ bs) l = rw (l.0, no_pair bs l.1) refl

pair_at : (front after : Text) → NoColon front → pair_in (front ++ 58 ∷ after) ≡ Some (front, after)
pair_at [] after l = refl
pair_at (b ∷ bs) after l = rw (l.0, pair_at bs after l.1) refl

abbrev both : Bor Text × Bor Text → Text × Text
both p = (p.0.now, p.1.now)

pub pair_is : (bs : Text) (r : Option (Bor Text × Bor Text)) → IsSplitOnceResult 58 bs r → option_map both r ≡ pair_in bs
pair_is bs None s = sym (no_pair bs (none_from bs (split_parts 58 bs None s (omega arith))))
pair_is bs (Some x) s = let m = split_parts 58 bs (Some x) s (omega arith) in sym (ap pair_in m.0 ∙ pair_at x.0.now x.1.now (none_from x.0.now m.1))

-- the pairs of the first texts, and those of the others, if each of them is one
abbrev pub all_after : List (Text × Text) → Option (List (Text × Text)) → Option (List (Text × Text))
all_after front others = option_map (λ more. front ++ more) others

go_on : (front : List (Text × Text)) (pair : Text × Text) (others : Option (List (Text × Text)))
    → all_after (front ++ pair ∷ []) others ≡ all_after front (option_map (λ more. pair ∷ more) others)
go_on front pair None = refl
go_on front pair (Some more) = ap Some (append_assoc front (pair ∷ []) more)

-- one more pair was found
pub step : (front : List (Text × Text)) (text : Text) (rest : List Text) (pair : Text × Text) → Some pair ≡ pair_in text
    → all_after (front ++ pair ∷ []) (pairs_in rest) ≡ all_after front (pairs_in (text ∷ rest))
step front text rest pair e = go_on front pair (pairs_in rest) ∙ rw (← e) (ap (all_after front) (shape pair (pairs_in rest)))
  where
    shape : (pair : Text × Text) (others : Option (List (Text × Text))) → option_map (λ more. pair ∷ more) others ≡ option_and_then (λ more. Some (pair ∷ more)) others
    shape pair None = refl
    shape pair (Some more) = refl

abbrev now : Bor Text → Text
now t = t.now

pub kept : (texts : List (Bor Text)) (i : ℕ) (d : Bor Text) (front new : List Allowed) (p : Allowed) (whole : Option (List (Text × Text))) → i < length texts
    → new ≡ front ++ p ∷ [] → Some (allowed_of p) ≡ pair_in (get_or texts i d).now
    → all_after (map allowed_of front) (pairs_in (map now (drop i texts))) ≡ whole → all_after (map allowed_of new) (pairs_in (map now (drop (i + 1) texts))) ≡ whole
kept texts i d front new p whole less made is so_far =
    let n : i + 1 ≡ suc i = omega arith in
    let s : drop i texts ≡ get_or texts i d ∷ drop (i + 1) texts = rw (n) (drop-cons texts i d less) in
    let rest = map now (drop (i + 1) texts) in
    ap (λ l. all_after (map allowed_of l) (pairs_in rest)) made
    ∙ ap (λ l. all_after l (pairs_in rest)) (map-append allowed_of front (p ∷ []))
    ∙ step (map allowed_of front) (get_or texts i d).now rest (allowed_of p) is
    ∙ ap (λ l. all_after (map allowed_of front) (pairs_in (map now l))) (sym s)
    ∙ so_far
