use Rattle.std.proofs.Common.{◌≡◌, ◌∙◌, true, nat_lt, length, ap, refl, subst, sym}
use Rattle.std.proofs.lemmas.Bool.{ltb-true}
use Rattle.syntax.specs.Parsing.{statement_bytes}
use Rattle.sessions.specs.AtOnce.{change_at_once, is_none_or}
use Rattle.sessions.specs.Events.{change, database_after}
use Rattle.sessions.specs.State.{State}
use Rattle.sessions.specs.Taking.{Changes, Takes}
use Rattle.sessions.proofs.Steps.{changes, known, state, unknown}
use Rattle.sessions.proofs.sessions.Sessions.change.Goals as goal

pub returns-in_default-clause-takes : goal.returns-in_default-clause-takes
returns-in_default-clause-takes g c = rw (← c.self.view_is, unknown c.self.inside.store c.self.inside.sessions.items c.self.inside.next_session c.self.inside.loads c.args.session _ c.deref.ensures.value c.in_default.ensures.index) (c.refused_by.ensures, refl)

pub returns-clause-takes : goal.returns-clause-takes
returns-clause-takes g c =
    let h = subst (λ role. Changes c.self.inside.store c.apply_text.new.store (database_after c.self.inside.store role c.args.text.now) c.apply_text.result) c.current_role-role.ensures c.apply_text.ensures.changes in
    let k = known c.self.inside.store c.self.inside.sessions.items c.self.inside.next_session c.self.inside.loads c.args.session _ c.deref.ensures.value c.in-Some.i c.in-Some.ensures.index c.index.result.now c.index.ensures in
    let s : State = state c.self.inside.store c.self.inside.sessions.items c.self.inside.next_session c.self.inside.loads c.args.session c.self.inside.sessions.items in
    let new : State = state c.apply_text.new.store c.self.inside.sessions.items c.self.inside.next_session c.self.inside.loads c.args.session c.self.inside.sessions.items in
    subst (λ (old : State). Takes (change old c.args.session c.args.text.now) old new c.apply_text.result) c.self.view_is (changes s c.args.session c.args.text.now c.index.result.now.1 k c.apply_text.new.store c.apply_text.result h)

pub returns-clause-at_once : goal.returns-clause-at_once
returns-clause-at_once g c = λ e.
    let k = known c.self.inside.store c.self.inside.sessions.items c.self.inside.next_session c.self.inside.loads c.args.session _ c.deref.ensures.value c.in-Some.i c.in-Some.ensures.index c.index.result.now c.index.ensures in
    let s : State = state c.self.inside.store c.self.inside.sessions.items c.self.inside.next_session c.self.inside.loads c.args.session c.self.inside.sessions.items in
    let before : change_at_once s c.args.session c.args.text.now ≡ true = subst (λ (old : State). change_at_once old c.args.session c.args.text.now ≡ true) (sym c.self.view_is) e in
    c.apply_text.ensures.long (ltb-true _ _ (sym (ap (is_none_or (λ session. nat_lt statement_bytes (length c.args.text.now))) k) ∙ before))
