use Rattle.predicates.proofs.Sides.{not_null_movable, not_null_holds}
use Rattle.predicates.proofs.laws.law_not_null_keeps_rows.Goals as goal

pub returns : goal.returns
returns c = record { stays_movable = not_null_movable; same_rows = λ e f h q cells role. not_null_holds cells role e f q }
