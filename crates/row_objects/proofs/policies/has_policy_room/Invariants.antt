use Rattle.std.proofs.Common.{◌≡◌, length}
use Rattle.row_objects.proofs.Room.{IsRoom}
use Rattle.row_objects.proofs.policies.has_policy_room.Given as goal

abbrev pub invariant-loop-index : goal.invariant-loop-index
invariant-loop-index g l = (l.index-end ≡ length l.tables) × IsRoom l.tables l.index l.room
