use Rattle.std.proofs.Common.{◌∙◌, ap}
use Rattle.catalog.specs.Catalog.{Catalog}
use Rattle.catalog.proofs.Reached.{by_marks, long_enough}
use Rattle.catalog.proofs.catalog.Catalog.reaches.Goals as goal

pub is_reached-requires : goal.is_reached-requires
is_reached-requires g c = long_enough c.self.inside.roles c.args.self.now (ap (λ (k : Catalog). k.roles) c.self.view_is) c.args.marks.now c.args.r.now c.requires

pub returns : goal.returns
returns g c = c.is_reached.ensures ∙ by_marks c.self.inside.roles c.args.self.now (ap (λ (k : Catalog). k.roles) c.self.view_is) c.args.marks.now c.args.r.now c.requires c.args.s.now
