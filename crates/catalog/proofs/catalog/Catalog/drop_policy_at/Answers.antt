use Rattle.std.proofs.Common.{ap}
use Rattle.row_objects.specs.View.{table_entry}
use Rattle.row_objects.specs.TableChanges.{changed_at, without_policy_named}
use Rattle.catalog.specs.Catalog.{Catalog}
use Rattle.catalog.proofs.TableChanges.{below, changed}
use Rattle.catalog.proofs.catalog.Catalog.drop_policy_at.Goals as goal

pub drop_policy-requires : goal.drop_policy-requires
drop_policy-requires g c = below (λ t. table_entry t) c.self.inside.tables c.args.self.now c.args.index (ap (λ (k : Catalog). k.tables) c.self.view_is) c.requires

pub invariant_of-self : goal.invariant_of-self
invariant_of-self g c = c.self.invariant

pub returns : goal.returns
returns g c = changed _ c.args.self.now c.self.view_is (changed_at c.args.index (without_policy_named c.args.name.now)) _ c.drop_policy.ensures
