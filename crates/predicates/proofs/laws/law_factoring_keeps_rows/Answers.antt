use Rattle.predicates.proofs.Connected.{factored_movable, factored_holds}
use Rattle.predicates.proofs.laws.law_factoring_keeps_rows.Goals as goal

pub returns : goal.returns
returns c = record { stays_movable = factored_movable; same_rows = λ e f h q cells role. factored_holds cells role e f h q }
