-- The line that is reported as unreadable is the first with which no plan's text goes on.
use Rattle.std.proofs.Common.{◌≡◌, ◌∙◌, ◌<◌, ◌≤◌, ◌+◌, ◌++◌, ℕ, zero, suc, refl, sym, ap, List, [], ◌∷◌, length, take, Option, Some, None, Ok, Err, arith}
use Rattle.std.specs.Prelude.{codes, option_and_then}
use Rattle.std.specs.Fmt.{decimal}
use Rattle.plan_texts.specs.Lines.{lines_of}
use Rattle.plan_texts.specs.Plans.{Empty, Plan, PlanEntry}
use Rattle.plan_texts.specs.Reading.{Draft, Begun, Costed, Conditioned, Coded, Sorted, Whole, CostLine, EmptyLine, TrailLine, line_at, or_stops, plan_in, read_lines, with_line}
use Rattle.plan_texts.specs.UnreadableLines.{UnreadableIsFirst}
use Rattle.plan_texts.proofs.LinesBack.{cost_back}
use Rattle.plan_texts.proofs.PlansBack.{Goes, begun, both, code_goes, one, stays, trail_goes}
use Rattle.plan_texts.proofs.Quiet.{both_quiet, cost_quiet, decimal_quiet, empty_quiet, trail_quiet}

module _ (entries : List PlanEntry) where
  -- the lines that make a draft whole
  whole_from : (d : Draft) → (lines : List (List ℕ)) × (p : Plan) × Goes entries d lines (Whole p)
  whole_from (Whole p) = ([], p, stays entries (Whole p))
  whole_from (Sorted n es os code c) = (
    codes "trail" ∷ [],
    begun entries n es os code (Some c) [],
    one entries (Sorted n es os code c) (Whole (begun entries n es os code (Some c) [])) (codes "trail") TrailLine trail_quiet refl refl,
  )
  whole_from (Coded n es os code) = (codes "trail" ∷ [], begun entries n es os code None [], trail_goes entries n es os code None tt)
  whole_from (Conditioned n es os) = (
    codes "empty" ∷ codes "trail" ∷ [],
    begun entries n es os Empty None [],
    both entries (Conditioned n es os) (Coded n es os Empty) (Whole (begun entries n es os Empty None [])) (codes "empty" ∷ []) (codes "trail" ∷ []) (one entries (Conditioned n es os) (Coded n es os Empty) (codes "empty") EmptyLine empty_quiet refl refl) (trail_goes entries n es os Empty None tt),
  )
  whole_from (Costed n es) = (
    codes "empty" ∷ codes "trail" ∷ [],
    begun entries n es [] Empty None [],
    both entries (Costed n es) (Coded n es [] Empty) (Whole (begun entries n es [] Empty None [])) (codes "empty" ∷ []) (codes "trail" ∷ []) (code_goes entries n es [] Empty tt) (trail_goes entries n es [] Empty None tt),
  )
  whole_from Begun = (
    (codes "cost " ++ decimal 0) ∷ codes "empty" ∷ codes "trail" ∷ [],
    begun entries 0 [] [] Empty None [],
    both entries Begun (Costed 0 []) (Whole (begun entries 0 [] [] Empty None [])) ((codes "cost " ++ decimal 0) ∷ []) (codes "empty" ∷ codes "trail" ∷ [])
        (one entries Begun (Costed 0 []) (codes "cost " ++ decimal 0) (CostLine 0) (both_quiet (codes "cost ") (decimal 0) cost_quiet (decimal_quiet 0 (omega arith))) (cost_back entries 0 (omega arith)) refl)
        (both entries (Costed 0 []) (Coded 0 [] [] Empty) (Whole (begun entries 0 [] [] Empty None [])) (codes "empty" ∷ []) (codes "trail" ∷ []) (code_goes entries 0 [] [] Empty tt) (trail_goes entries 0 [] [] Empty None tt)),
  )

  -- a plan's lines go on from a draft with these
  abbrev GoesOn : ℕ → Draft → List (List ℕ) → Type 0
  GoesOn number d lines = (more : List (List ℕ)) × (p : Plan) × (read_lines entries number d (lines ++ more) [] ≡ Ok p)

  goes_on : (number : ℕ) (d : Draft) → GoesOn number d []
  goes_on number d = let w = whole_from d in (w.0 ++ [], w.1, (w.2 number [] []).1)

  -- so many lines go on from a draft, and with one more none do
  record IsFirst (number : ℕ) (d : Draft) (lines : List (List ℕ)) (line before : ℕ) : Type 0 where
    its : line ≡ number + before
    there : before ≤ length lines
    begins : GoesOn number d (take before lines)
    ends : before < length lines → GoesOn number d (take (suc before) lines) → ⊥

  abbrev HasFirst : ℕ → Draft → List (List ℕ) → ℕ → Type 0
  HasFirst number d lines line = (before : ℕ) × IsFirst number d lines line before

  missing : (number : ℕ) (d : Draft) (rest : List ℕ) (line : ℕ) → plan_in number d rest ≡ Err line → line ≡ number
  missing number (Whole p) [] line e = absurd (cc)
  missing number (Whole p) (b ∷ bs) line e = cc
  missing number Begun rest line e = cc
  missing number (Costed n es) rest line e = cc
  missing number (Conditioned n es os) rest line e = cc
  missing number (Coded n es os code) rest line e = cc
  missing number (Sorted n es os code c) rest line e = cc

  first_from : (number : ℕ) (d : Draft) (lines : List (List ℕ)) (rest : List ℕ) (line : ℕ) → read_lines entries number d lines rest ≡ Err line → HasFirst number d lines line
  first_from number d [] rest line e = (
    0,
    record {
      its = (let m = missing number d rest line e in omega (arith, m));
      there = omega arith;
      begins = goes_on number d;
      ends = λ more. absurd (omega (arith, more));
    },
  )
  first_from number d (l ∷ ls) rest line e = go (option_and_then (with_line d) (line_at entries l)) refl e (λ next. first_from (suc number) next ls rest line)
    where
      go : (o : Option Draft) → option_and_then (with_line d) (line_at entries l) ≡ o → or_stops number o (λ next. read_lines entries (suc number) next ls rest) ≡ Err line
          → ((next : Draft) → read_lines entries (suc number) next ls rest ≡ Err line → HasFirst (suc number) next ls line) → HasFirst number d (l ∷ ls) line
      go None none e later = (
        0,
        record {
          its = (let m : line ≡ number = cc in omega (arith, m));
          there = omega arith;
          begins = goes_on number d;
          ends = λ more on. let stopped = ap (λ o. or_stops number o (λ next. read_lines entries (suc number) next on.0 [])) none in let whole = on.2 in absurd (cc);
        },
      )
      go (Some next) some e later =
          let first = later next e in
          let n = first.0 in
          let is = first.1 in (
            suc n,
            record {
              its = (let m = is.its in omega (arith, m));
              there = (let m = is.there in omega (arith, m));
              begins = (is.begins.0, is.begins.1, ap (λ o. or_stops number o (λ d'. read_lines entries (suc number) d' (take n ls ++ is.begins.0) [])) some ∙ is.begins.2);
              ends = λ more on. is.ends (omega (arith, more)) (on.0, on.1, sym (ap (λ o. or_stops number o (λ d'. read_lines entries (suc number) d' (take (suc n) ls ++ on.0) [])) some) ∙ on.2);
            },
          )

pub unreadable_is_first : UnreadableIsFirst
unreadable_is_first entries text line e =
    let first = first_from entries 1 Begun (lines_of text).0 (lines_of text).1 line e in
    let is = first.1 in
    (first.0, (let m = is.its in omega (arith, m)), record { there = is.there; begins = is.begins; ends = is.ends })
