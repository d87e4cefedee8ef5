use Rattle.std.specs.Str.{bytes_eq}
use Rattle.sessions.proofs.Keys.{not_shown, shown_at}
use Rattle.sessions.proofs.session.Session.cursor.Goals as goal

pub returns-in-Some : goal.returns-in-Some
returns-in-Some g c = rw (← c.self.view_is) (shown_at (bytes_eq c.args.name.now) _ _ c.deref.ensures.value c.in-Some.i c.in-Some.ensures.index _ c.index.ensures)

pub returns-in-None : goal.returns-in-None
returns-in-None g c = rw (← c.self.view_is) (not_shown (bytes_eq c.args.name.now) _ _ c.deref.ensures.value c.in-None.ensures.index)
