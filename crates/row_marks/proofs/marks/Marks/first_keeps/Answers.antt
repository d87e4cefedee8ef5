use Rattle.std.proofs.Common.{◌≡◌, IfOk, Some, ap, get_or, not, slice_get, subst, sym, ◌∙◌}
use Rattle.std.proofs.lemmas.Option.{get_or_from_slice_get, slice_get_within}
use Rattle.tuples.specs.View.{world_of}
use Rattle.row_marks.specs.Marked.{drops_first}
use Rattle.row_marks.proofs.Marking.{first_drops, first_entry, marked_at}
use Rattle.row_marks.proofs.marks.Marks.first_keeps.Goals as goal

pub returns-in-Some : goal.returns-in-Some
returns-in-Some g c = λ are.
    let w = world_of c.args.world.now in
    let ms = c.args.self.now.conditions.items in
    let first = c.in-Some.first.now in
    let there : slice_get ms 0 ≡ Some first = sym (c.in-Some.ensures.value ∙ ap (λ l. slice_get l 0) c.deref.ensures.value) in
    let is : first ≡ get_or ms 0 first = sym (get_or_from_slice_get ms 0 first first there) in
    let lt = slice_get_within ms 0 first there in
    let drops = first_drops w ms first c.args.entry c.args.number lt is ∙ ap (λ es. drops_first w es c.args.entry c.args.number) are.conditions in
    subst (λ d. IfOk c.keeps.result (λ b. b ≡ not d)) drops (c.keeps.ensures (marked_at w ms 0 first lt is are.marked_conditions) (first_entry w ms first lt is are.entries))
