use Rattle.code_costs.proofs.Guards.{admissible_alike, cost_alike}
use Rattle.code_costs.proofs.laws.law_guards_play_no_part.Goals as goal

pub returns : goal.returns
returns c =
    λ p q code frames indexes conditions lefts statistics wanted. (admissible_alike p.setting q.setting code frames indexes conditions lefts, cost_alike p q code conditions lefts statistics wanted)
