use Rattle.rewrite.proofs.Places.{places_each}
use Rattle.rewrite.proofs.laws.law_places_each.Goals as goal

pub returns : goal.returns
returns c = places_each
