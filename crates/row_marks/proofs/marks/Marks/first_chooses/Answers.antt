use Rattle.std.proofs.Common.{Bool, true, false, true≢false, ◌&&◌, ◌==◌, ◌≡◌, ℕ, None, Option, Some, ap, get_or, not, refl, slice_get, subst, sym, ◌∙◌}
use Rattle.std.proofs.lemmas.Option.{get_or_from_slice_get, slice_get_within}
use Rattle.std.specs.Option.{option_eq}
use Rattle.row_marks.specs.Marked.{drops_first, is_entry}
use Rattle.row_marks.proofs.Marking.{first_drops, first_entry}
use Rattle.row_marks.proofs.marks.Marks.first_chooses.Goals as goal

-- no row of another entry is dropped
kept : (is lt dropping : Bool) → is ≡ false → not ((is && lt) && dropping) ≡ true
kept false lt dropping other = refl
kept true lt dropping other = absurd (true≢false other)

same_entry : (o : Option ℕ) (entry : ℕ) → option_eq (λ a b. a == b) o (Some entry) ≡ is_entry o entry
same_entry None entry = refl
same_entry (Some own) entry = refl

pub returns-in-Some : goal.returns-in-Some
returns-in-Some g c = λ w are other number.
    let ms = c.args.self.now.conditions.items in
    let first = c.in-Some.first.now in
    let there : slice_get ms 0 ≡ Some first = sym (c.in-Some.ensures.value ∙ ap (λ l. slice_get l 0) c.deref.ensures.value) in
    let is : first ≡ get_or ms 0 first = sym (get_or_from_slice_get ms 0 first first there) in
    let lt = slice_get_within ms 0 first there in
    let drops = first_drops w ms first c.args.entry number lt is ∙ ap (λ es. drops_first w es c.args.entry number) are.conditions in
    let entry = first_entry w ms first lt is are.entries in
    subst (λ d. not d ≡ true) drops (kept _ _ _ (subst (λ e. is_entry e c.args.entry ≡ false) entry (sym (c.eq.ensures ∙ same_entry first.entry c.args.entry) ∙ other)))
