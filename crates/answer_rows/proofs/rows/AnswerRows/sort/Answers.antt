use Rattle.std.proofs.lemmas.List.Sorted.{All-permutation}
use Rattle.answer_rows.specs.View.{IsWithin}
use Rattle.answer_rows.proofs.rows.AnswerRows.sort.Goals as goal

pub invariant_of-self : goal.invariant_of-self
invariant_of-self g c =
    let old = c.self.inside in
    record { few = c.self.invariant.few; texts = c.self.invariant.texts; unfinished = c.self.invariant.unfinished; places = All-permutation (IsWithin _) old.places.items c.sort_places.new.places.items c.sort_places.ensures.same c.self.invariant.places }
