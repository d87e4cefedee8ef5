use Rattle.std.proofs.Common.{◌≡◌, drop, map}
use Rattle.std.specs.List.{list_any}
use Rattle.row_objects.specs.Memberships.{is_membership}
use Rattle.row_objects.specs.MembershipView.{membership_of}
use Rattle.row_objects.proofs.memberships.is_there.Given as goal

abbrev pub invariant-loop-m : goal.invariant-loop-m
invariant-loop-m g l = list_any (is_membership l.group l.member) (map (λ m. membership_of m) (drop l.m-index l.memberships)) ≡ list_any (is_membership l.group l.member) (map (λ m. membership_of m) l.memberships)
