use Rattle.std.proofs.Common.{ap}
use Rattle.catalog.specs.Catalog.{Catalog, belongs}
use Rattle.catalog.proofs.Reached.{marks_of}
use Rattle.catalog.proofs.catalog.Catalog.reached.Goals as goal

pub returns : goal.returns
returns g c =
    marks_of c.self.inside.roles c.args.self.now (ap (λ (k : Catalog). k.roles) c.self.view_is) c.reached_by.result c.args.role.now c.reached_by.ensures.long
    (λ s. rw (← c.self.view_is) (rw c.as_slice.ensures.value at (c.reached_by.ensures.marks s)))
