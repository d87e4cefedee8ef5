-- Drafts with one more line.
use Rattle.std.proofs.Common.{◌≡◌, ℕ, ◌==◌, ◌+◌, true, false, if◌then◌else◌, List, [], ◌∷◌, length, Option, None, Ok, Err, refl, sym, arith}
use Rattle.std.specs.Prelude.{map}
use Rattle.std.proofs.lemmas.Bool.{eq-eqb, eqb-true, ne_eqb}
use Rattle.std.proofs.lemmas.List.{length-map}
use Rattle.row_ast.specs.Ast.{Expr}
use Rattle.plan_texts.specs.declared.line.Line as lines
use Rattle.plan_texts.specs.declared.line.Line.TheVariants as line
use Rattle.plan_texts.specs.declared.plan.SortColumn.{SortColumn}
use Rattle.plan_texts.specs.Plans.{OnCondition, PlanCode, Plan}
use Rattle.plan_texts.specs.Reading.{Draft, Costed, Coded, Sorted, Whole, after_filters, with_line, plan_in}
use Rattle.plan_texts.specs.View.{line_of}

-- the filter has the number that comes next, or not
pub is_next : {X Y : Type 0} (f : X → Y) (number : ℕ) (xs : List X) (d : Option Draft) → number ≡ length xs + 1 → d ≡ (if number == length (map f xs) + 1 then d else None)
is_next f number xs d e = rw (eq-eqb number (length (map f xs) + 1) (let same = length-map xs f in omega (arith, same, e))) refl

pub not_next : {X Y : Type 0} (f : X → Y) (number : ℕ) (xs : List X) (d : Option Draft) → (number ≡ length xs + 1 → ⊥) → None ≡ (if number == length (map f xs) + 1 then d else None)
not_next f number xs d e = rw (ne_eqb number (length (map f xs) + 1) (λ h. let same = length-map xs f in e (omega (arith, same, h)))) refl

-- ---- lines that may not stand there

module _ {A : Type 0} (l : lines.Line A) where
  pub not_filter : (n : ℕ) (es : List Expr) → ((k : _) (f : _) → l ≡ line.Filter k f → ⊥) → after_filters n es [] (line_of l) ≡ with_line (Costed n es) (line_of l)
  not_filter n es no_filter = go l refl
    where
      go : (m : lines.Line A) → l ≡ m → after_filters n es [] (line_of m) ≡ with_line (Costed n es) (line_of m)
      go (line.Cost k) e = refl
      go (line.Filter k f) e = absurd (no_filter k f e)
      go (line.On k f) e = refl
      go line.Empty e = refl
      go (line.First s) e = refl
      go (line.Join s) e = refl
      go (line.Sort c) e = refl
      go line.Trail e = refl
      go (line.Step s) e = refl

  pub other_conditioned : (n : ℕ) (es : List Expr) (os : List OnCondition) → ((k : _) (f : _) → l ≡ line.On k f → ⊥) → (l ≡ line.Empty → ⊥) → ((s : _) → l ≡ line.First s → ⊥) → None ≡ after_filters n es os (line_of l)
  other_conditioned n es os no_on no_empty no_first = go l refl
    where
      go : (m : lines.Line A) → l ≡ m → None ≡ after_filters n es os (line_of m)
      go (line.Cost k) e = refl
      go (line.Filter k f) e = refl
      go (line.On k f) e = absurd (no_on k f e)
      go line.Empty e = absurd (no_empty e)
      go (line.First s) e = absurd (no_first s e)
      go (line.Join s) e = refl
      go (line.Sort c) e = refl
      go line.Trail e = refl
      go (line.Step s) e = refl

  pub other_coded : (n : ℕ) (es : List Expr) (os : List OnCondition) (code : PlanCode) → ((s : _) → l ≡ line.Join s → ⊥) → ((c : _) → l ≡ line.Sort c → ⊥) → (l ≡ line.Trail → ⊥) → None ≡ with_line (Coded n es os code) (line_of l)
  other_coded n es os code no_join no_sort no_trail = go l refl
    where
      go : (m : lines.Line A) → l ≡ m → None ≡ with_line (Coded n es os code) (line_of m)
      go (line.Cost k) e = refl
      go (line.Filter k f) e = refl
      go (line.On k f) e = refl
      go line.Empty e = refl
      go (line.First s) e = refl
      go (line.Join s) e = absurd (no_join s e)
      go (line.Sort c) e = absurd (no_sort c e)
      go line.Trail e = absurd (no_trail e)
      go (line.Step s) e = refl

  pub other_sorted : (n : ℕ) (es : List Expr) (os : List OnCondition) (code : PlanCode) (c : SortColumn) → (l ≡ line.Trail → ⊥) → None ≡ with_line (Sorted n es os code c) (line_of l)
  other_sorted n es os code c no_trail = go l refl
    where
      go : (m : lines.Line A) → l ≡ m → None ≡ with_line (Sorted n es os code c) (line_of m)
      go (line.Cost k) e = refl
      go (line.Filter k f) e = refl
      go (line.On k f) e = refl
      go line.Empty e = refl
      go (line.First s) e = refl
      go (line.Join s) e = refl
      go (line.Sort c) e = refl
      go line.Trail e = absurd (no_trail e)
      go (line.Step s) e = refl

  pub other_whole : (p : Plan) → ((s : _) → l ≡ line.Step s → ⊥) → None ≡ with_line (Whole p) (line_of l)
  other_whole p no_step = go l refl
    where
      go : (m : lines.Line A) → l ≡ m → None ≡ with_line (Whole p) (line_of m)
      go (line.Cost k) e = refl
      go (line.Filter k f) e = refl
      go (line.On k f) e = refl
      go line.Empty e = refl
      go (line.First s) e = refl
      go (line.Join s) e = refl
      go (line.Sort c) e = refl
      go line.Trail e = refl
      go (line.Step s) e = absurd (no_step s e)

-- ---- the end of the text

pub at_end : (next : ℕ) (p : Plan) (rest : List ℕ) → true ≡ (length rest == 0) → plan_in next (Whole p) rest ≡ Ok p
at_end next p [] e = refl
at_end next p (b ∷ bs) e = absurd (let none = eqb-true (length (b ∷ bs)) 0 (sym e) in omega (arith, none))

pub before_end : (next : ℕ) (p : Plan) (rest : List ℕ) → false ≡ (length rest == 0) → plan_in next (Whole p) rest ≡ Err next
before_end next p [] e = cc
before_end next p (b ∷ bs) e = refl
