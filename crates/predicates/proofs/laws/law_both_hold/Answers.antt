use Rattle.predicates.proofs.Connected.{both_movable, both_hold}
use Rattle.predicates.proofs.laws.law_both_hold.Goals as goal

pub returns : goal.returns
returns c = record { stays_movable = both_movable; same_rows = λ e f cells role. both_hold cells role e f }
