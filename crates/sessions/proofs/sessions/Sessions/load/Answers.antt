use Rattle.std.proofs.Common.{◌≡◌, nat_le, false, rules, subst}
use Rattle.sessions.specs.Events.{load}
use Rattle.sessions.specs.State.{State, most_counted}
use Rattle.sessions.specs.Taking.{Takes}
use Rattle.sessions.proofs.Loads.{data_refused}
use Rattle.sessions.proofs.Steps.{state}
use Rattle.sessions.proofs.sessions.Sessions.load.Goals as goal

pub returns-in-Err-Error-Data-clause-takes : goal.returns-in-Err-Error-Data-clause-takes
returns-in-Err-Error-Data-clause-takes g c =
    let below : nat_le most_counted c.self.inside.loads ≡ false = search rules in
    let s : State = state c.self.inside.store c.self.inside.sessions.items c.self.inside.next_session c.self.inside.loads 0 c.self.inside.sessions.items in
    let new : State = state c.load_bytes.new.store c.self.inside.sessions.items c.self.inside.next_session c.self.inside.loads 0 c.self.inside.sessions.items in
    subst (λ (old : State). Takes (load old c.args.table.now c.args.bytes.now) old new c.data_refusal.result) c.self.view_is
    (data_refused s c.args.table.now c.args.bytes.now below c.in-Err-Error-Data.error c.data_refusal.result c.load_bytes.new.store c.in-Err-Error-Data.ensures.unchanged c.data_refusal.ensures (rw (c.in-Err-Error-Data.field-0-is, c.in-Err-Error-Data.field-0-0-is) at c.in-Err-Error-Data.ensures.loaded))
