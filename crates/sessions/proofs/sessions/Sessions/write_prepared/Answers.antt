use Rattle.sessions.proofs.Steps.{nobody}
use Rattle.std.proofs.lemmas.Result.{on_ok_weaker, on_err_weaker}
use Rattle.sessions.specs.Events.{with_prepared}
use Rattle.sessions.proofs.Steps.{put, unput}
use Rattle.sessions.proofs.sessions.Sessions.write_prepared.Goals as goal

pub returns-in-Some-clause-ok : goal.returns-in-Some-clause-ok
returns-in-Some-clause-ok g c =
    rw (← c.self.view_is) (on_ok_weaker c.add_prepared.result (put c.self.inside.store c.self.inside.sessions.items c.self.inside.next_session c.self.inside.loads c.args.number _ c.deref.ensures.value c.in-Some.i c.in-Some.ensures.index c.index_mut.result.now c.index_mut.ensures.value
    (λ x. with_prepared x c.args.name c.args.text) c.add_prepared.new.self) c.add_prepared.ensures.ok)

pub returns-in-Some-clause-err : goal.returns-in-Some-clause-err
returns-in-Some-clause-err g c =
    rw (← c.self.view_is) (on_err_weaker c.add_prepared.result (unput c.self.inside.store c.self.inside.sessions.items c.self.inside.next_session c.self.inside.loads c.args.number _ c.deref.ensures.value c.in-Some.i c.in-Some.ensures.index c.index_mut.result.now c.index_mut.ensures.value
    c.add_prepared.new.self) c.add_prepared.ensures.err)

pub returns-in-None-clause-ok : goal.returns-in-None-clause-ok
returns-in-None-clause-ok g c = rw (← c.self.view_is) (λ x found. nobody c.self.inside.store c.self.inside.sessions.items c.self.inside.next_session c.self.inside.loads c.args.number _ c.deref.ensures.value c.in-None.ensures.index x found)
