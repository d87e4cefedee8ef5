use Rattle.bound_plans.proofs.Marks.{marks_are_right}
use Rattle.bound_plans.proofs.laws.law_marks_are_right.Goals as goal

pub returns : goal.returns
returns c = marks_are_right
