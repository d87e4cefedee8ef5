use Rattle.std.proofs.Common.{refl}
use Rattle.std.specs.Str.{bytes_eq}
use Rattle.sessions.proofs.Keys.{dropped_at, not_dropped}
use Rattle.sessions.proofs.session.Session.remove_cursor.Goals as goal

pub returns-in-Some : goal.returns-in-Some
returns-in-Some g c = rw (← c.self.view_is, c.remove.ensures.items, dropped_at (bytes_eq c.args.name.now) _ _ c.deref.ensures.value c.in-Some.i c.in-Some.ensures.index) refl

pub returns-in_default : goal.returns-in_default
returns-in_default g c = rw (← c.self.view_is, ← not_dropped (bytes_eq c.args.name.now) _ _ c.deref.ensures.value c.in_default.ensures.index) refl
