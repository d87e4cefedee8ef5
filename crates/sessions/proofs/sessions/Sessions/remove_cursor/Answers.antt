use Rattle.sessions.proofs.Steps.{nobody}
use Rattle.std.specs.Str.{bytes_eq}
use Rattle.std.specs.Map.{remove_entry}
use Rattle.sessions.proofs.Steps.{put}
use Rattle.sessions.proofs.sessions.Sessions.remove_cursor.Goals as goal

pub returns-in-Some : goal.returns-in-Some
returns-in-Some g c =
    rw (← c.self.view_is) (put c.self.inside.store c.self.inside.sessions.items c.self.inside.next_session c.self.inside.loads c.args.number _ c.deref.ensures.value c.in-Some.i c.in-Some.ensures.index c.index_mut.result.now c.index_mut.ensures.value
    (λ x. record x { cursors = remove_entry (bytes_eq c.args.name.now) x.cursors }) c.remove_cursor.new.self c.remove_cursor.ensures)

pub returns-in_default : goal.returns-in_default
returns-in_default g c = rw (← c.self.view_is) (λ x found. nobody c.self.inside.store c.self.inside.sessions.items c.self.inside.next_session c.self.inside.loads c.args.number _ c.deref.ensures.value c.in_default.ensures.index x found)
