use Rattle.std.proofs.Common.{◌≡◌, drop, map}
use Rattle.row_objects.specs.Reached.{next_group}
use Rattle.row_objects.specs.MembershipView.{membership_of}
use Rattle.row_objects.proofs.memberships.next_group.Given as goal

abbrev pub invariant-loop-m : goal.invariant-loop-m
invariant-loop-m g l = next_group l.roles l.marks (map (λ m. membership_of m) (drop l.m-index l.memberships)) ≡ next_group l.roles l.marks (map (λ m. membership_of m) l.memberships)
