use Rattle.row_objects.proofs.Loops.{none_after, none_among, none_at_first}
use Rattle.row_objects.proofs.memberships.law_no_loop.Goals as goal

pub returns : goal.returns
returns c = record { first = none_at_first; granted = λ ms m none no. none_after ms m none no; revoked = λ ms all among none. none_among ms all among none }
