use Rattle.catalog.proofs.catalog.Catalog.is_index.Goals as goal

pub returns : goal.returns
returns g c = rw (← c.self.view_is) c.any_index.ensures
