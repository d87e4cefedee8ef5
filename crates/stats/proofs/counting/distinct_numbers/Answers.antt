use Rattle.std.proofs.Common.{FitsSigned, w64, to_z, of_z, ap, sym, ◌∙◌, rules}
use Rattle.std.proofs.lemmas.Int.{to_z-of_z}
use Rattle.stats.specs.Statistics.{bounds_of}
use Rattle.stats.proofs.Bounded.{none_bounded, places_reach}
use Rattle.stats.proofs.counting.distinct_numbers.Goals as goal

pub returns-in_default : goal.returns-in_default
returns-in_default g c = sym (none_bounded c.args.numbers.now.items (sym c.in_default.is ∙ c.requires))

pub distinct_by_marks-requires : goal.distinct_by_marks-requires
distinct_by_marks-requires g c =
    let bounds = c.in-Some.bounds in
    let fit : FitsSigned w64 bounds.least = search rules in
    places_reach c.deref.result.now bounds (to_z w64 (of_z w64 bounds.least)) c.in-Some-few_places.places
    (sym c.in-Some.is ∙ c.requires ∙ ap bounds_of (sym c.deref.ensures.value))
    (to_z-of_z w64 bounds.least fit)
    c.in-Some-few_places.ensures
