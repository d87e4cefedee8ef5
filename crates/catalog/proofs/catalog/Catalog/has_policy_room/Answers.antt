use Rattle.catalog.proofs.catalog.Catalog.has_policy_room.Goals as goal

pub returns : goal.returns
returns g c = rw (← c.self.view_is) c.has_policy_room.ensures
