use Rattle.std.proofs.lemmas.Result.{on_err_weaker}
use Rattle.replies.specs.View.{reply_of}
use Rattle.sessions.proofs.Steps.{both_ok, fetched_at, unfetched}
use Rattle.sessions.proofs.session.Session.fetch.Goals as goal

pub returns-in-Some-clause-ok : goal.returns-in-Some-clause-ok
returns-in-Some-clause-ok g c =
    rw (← c.self.view_is) (both_ok c.fetch.result _ _ c.fetch.ensures.reply c.fetch.ensures.advanced (λ reply e a. fetched_at c.self.inside.login_role c.self.inside.set_role c.self.inside.prepared.items c.self.inside.cursors.items c.args.name.now _ c.deref.ensures.value c.in-Some.i c.in-Some.ensures.index c.index_mut.result.now c.index_mut.ensures.value c.args.count (reply_of reply) c.fetch.new.self e a))

pub returns-in-Some-clause-err : goal.returns-in-Some-clause-err
returns-in-Some-clause-err g c =
    rw (← c.self.view_is) (on_err_weaker c.fetch.result (unfetched c.self.inside.login_role c.self.inside.set_role c.self.inside.prepared.items c.self.inside.cursors.items c.args.name.now _ c.deref.ensures.value c.in-Some.i c.in-Some.ensures.index c.index_mut.result.now c.index_mut.ensures.value c.fetch.new.self) c.fetch.ensures.unchanged)
