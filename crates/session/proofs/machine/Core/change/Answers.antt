use Rattle.std.proofs.Common.{◌==◌, ◌&&◌, if◌then◌else◌, [], ap₂, ◌∙◌}
use Rattle.sessions.proofs.Counts.{change_later}
use Rattle.session.proofs.Keeping.{keeps, seen_keeps}
use Rattle.session.proofs.machine.Core.change.Goals as goal

pub invariant_of-self : goal.invariant_of-self
invariant_of-self g c =
    let s = c.self.inside.sessions in
    let new = c.change-reply.new.self in
    let seen = c.self.inside.shared.seen in
    let later = change_later s c.args.session c.args.text.now new c.change-reply.result c.change-reply.ensures.takes in
    let forgotten = c.forget_if_later.ensures ∙ ap₂ (λ changes loads. if (new.database.catalog.change_number == changes) && (new.loads == loads) then seen else []) c.counts-before.ensures.changes c.counts-before.ensures.loads in
    (keeps s new c.self.inside.shared.plans.entries later c.self.invariant.0, seen_keeps s new seen c.forget_if_later.new.seen later c.self.invariant.1 forgotten)
