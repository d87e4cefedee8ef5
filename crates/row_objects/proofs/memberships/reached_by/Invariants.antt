use Rattle.std.proofs.Common.{◌≡◌, true, not, map}
use Rattle.std.specs.List.{count_by}
use Rattle.row_objects.specs.Reached.{is_marked}
use Rattle.row_objects.specs.MembershipView.{membership_of}
use Rattle.row_objects.proofs.Marks.{IsSound}
use Rattle.row_objects.proofs.memberships.reached_by.Given as goal

abbrev pub invariant-loop-next : goal.invariant-loop-next
invariant-loop-next g l = record {
  sound : IsSound l.roles (map (λ m. membership_of m) l.memberships) l.fn.r l.marks;
  start : is_marked l.roles l.marks l.fn.r ≡ true;
}

abbrev pub decreases-loop-next : goal.decreases-loop-next
decreases-loop-next g l = count_by not l.marks
