use Rattle.std.proofs.Common.{◌≡◌, ◌∙◌, ap, subst, inl}
use Rattle.replies.specs.View.{reply_of}
use Rattle.shared_plans.specs.Recent.{recent_of}
use Rattle.sessions.specs.Events.{declare_text, keep}
use Rattle.sessions.specs.Taking.{Takes}
use Rattle.sessions.proofs.Counts.{keep_same}
use Rattle.session.proofs.AtOnce.{no_rows}
use Rattle.session.proofs.Cursors.{cursor_made}
use Rattle.session.proofs.Keeping.{keeps, seen_same}
use Rattle.session.proofs.machine.Core.declare.Goals as goal

pub invariant_of-self : goal.invariant_of-self
invariant_of-self g c =
    let same = keep_same c.self.inside.sessions c.args.session c.args.name (reply_of c.in-Ok-Ok.reply) c.keep.new.self c.keep.result c.keep.ensures.takes in
    (keeps c.self.inside.sessions c.keep.new.self c.self.inside.shared.plans.entries (inl same) c.self.invariant.0, seen_same c.self.inside.sessions c.keep.new.self c.self.inside.shared.seen same c.self.invariant.1)

pub returns-in-Ok-Ok-clause-takes : goal.returns-in-Ok-Ok-clause-takes
returns-in-Ok-Ok-clause-takes g c =
    let given = c.in-Ok-Ok.reply in
    let h = (rw (c.in-Ok-Ok.field-0-is, c.as_str.ensures) at c.in-Ok-Ok.ensures.answers) in
    let same : c.self.inside.sessions ≡ c.args.self.now.state = ap (λ k. k.state) c.self.view_is ∙ c.in-Ok-Ok.ensures.state in
    let takes = subst (λ s. Takes (keep s c.args.session c.args.name (reply_of given)) s c.keep.new.self c.keep.result) same c.keep.ensures.takes in
    cursor_made c.args.self.now.state c.args.session c.args.name c.args.text.now given c.args.self.now.recent (recent_of c.self.inside.shared.plans) c.keep.new.self c.keep.result h.0 (ap (λ k. k.recent) c.self.view_is ∙ h.1) takes

pub returns-in-Ok-Ok-clause-at_once : goal.returns-in-Ok-Ok-clause-at_once
returns-in-Ok-Ok-clause-at_once g c = λ e.
    let h = (rw (c.in-Ok-Ok.field-0-is, c.as_str.ensures) at c.in-Ok-Ok.ensures.answers) in
    c.keep.ensures.at_once (no_rows c.args.self.now.state (declare_text c.args.self.now.state c.args.session c.args.name c.args.text.now) c.in-Ok-Ok.reply e h.0)
