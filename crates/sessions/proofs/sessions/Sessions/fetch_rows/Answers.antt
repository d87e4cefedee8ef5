use Rattle.std.proofs.lemmas.Result.{IfOk-weaker, on_err_weaker}
use Rattle.replies.specs.View.{reply_of}
use Rattle.sessions.proofs.Steps.{fetched_in, unput}
use Rattle.sessions.proofs.sessions.Sessions.fetch_rows.Goals as goal

pub returns-in-Some-clause-ok : goal.returns-in-Some-clause-ok
returns-in-Some-clause-ok g c =
    rw (← c.self.view_is) (IfOk-weaker c.fetch.result _ _ (λ reply h. fetched_in c.self.inside.store c.self.inside.sessions.items c.self.inside.next_session c.self.inside.loads c.args.number _ c.deref.ensures.value c.in-Some.i c.in-Some.ensures.index c.index_mut.result.now c.index_mut.ensures.value
    c.args.name.now c.args.count (reply_of reply) c.fetch.new.self h) c.fetch.ensures.ok)

pub returns-in-Some-clause-err : goal.returns-in-Some-clause-err
returns-in-Some-clause-err g c =
    rw (← c.self.view_is) (on_err_weaker c.fetch.result (unput c.self.inside.store c.self.inside.sessions.items c.self.inside.next_session c.self.inside.loads c.args.number _ c.deref.ensures.value c.in-Some.i c.in-Some.ensures.index c.index_mut.result.now c.index_mut.ensures.value c.fetch.new.self) c.fetch.ensures.err)
