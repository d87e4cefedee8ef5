use Rattle.row_objects.proofs.Entries.{insert_entry-absent}
use Rattle.row_objects.proofs.by_name.ByName.insert.Goals as goal

pub returns-clause-ok : goal.returns-clause-ok
returns-clause-ok g c =
    let absent = rw (← c.self.view_is, ← c.in_ok-key.ensures.ok) at c.requires in
    rw (c.in_ok-insert.ensures.entries, ← c.self.view_is, ← c.in_ok-key.ensures.ok) (insert_entry-absent c.self.inside.entries.entries c.in_ok-key.key c.args.thing absent)
