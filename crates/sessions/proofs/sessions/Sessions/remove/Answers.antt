use Rattle.std.proofs.Common.{◌∙◌, ap}
use Rattle.sessions.proofs.Steps.{dropped, state, undropped}
use Rattle.sessions.proofs.sessions.Sessions.remove.Goals as goal

pub returns-in-Some : goal.returns-in-Some
returns-in-Some g c =
    rw (← c.self.view_is) (ap (state c.self.inside.store c.self.inside.sessions.items c.self.inside.next_session c.self.inside.loads c.args.number) c.remove.ensures.items
    ∙ dropped c.self.inside.store c.self.inside.sessions.items c.self.inside.next_session c.self.inside.loads c.args.number _ c.deref.ensures.value c.in-Some.i c.in-Some.ensures.index)

pub returns-in_default : goal.returns-in_default
returns-in_default g c =
    rw (← c.self.view_is) (undropped c.self.inside.store c.self.inside.sessions.items c.self.inside.next_session c.self.inside.loads c.args.number _ c.deref.ensures.value c.in_default.ensures.index)
