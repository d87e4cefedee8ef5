use Rattle.row_objects.proofs.Room.{no_room, room_goes_on}
use Rattle.row_objects.proofs.policies.has_policy_room.Goals as goal

pub returns-then-count-room : goal.returns-then-count-room
returns-then-count-room g c = no_room c.args.tables.now c.loop-index.index c.loop-index.room c.loop-index.invariant.1 c.at.result.now c.len-count.result c.at.ensures c.len-count.ensures c.if-count-room.true

pub loop-index-preserved : goal.loop-index-preserved
loop-index-preserved g c = (c.loop-index.invariant.0, room_goes_on c.args.tables.now c.loop-index.index c.loop-index.room c.loop-index.invariant.1 c.at.result.now c.len-count.result c.at.ensures c.len-count.ensures c.if-count-room.false)
