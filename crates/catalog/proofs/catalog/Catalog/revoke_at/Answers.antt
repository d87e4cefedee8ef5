use Rattle.std.proofs.Common.{ap}
use Rattle.row_objects.specs.View.{table_entry}
use Rattle.row_objects.specs.TableChanges.{changed_at, without_grants_to}
use Rattle.catalog.specs.Catalog.{Catalog}
use Rattle.row_ast.specs.View.{grant_of}
use Rattle.catalog.proofs.TableChanges.{below, changed}
use Rattle.catalog.proofs.catalog.Catalog.revoke_at.Goals as goal

pub revoke_select-requires : goal.revoke_select-requires
revoke_select-requires g c = below (λ t. table_entry t) c.self.inside.tables c.args.self.now c.args.index (ap (λ (k : Catalog). k.tables) c.self.view_is) c.requires

pub invariant_of-self : goal.invariant_of-self
invariant_of-self g c = c.self.invariant

pub returns : goal.returns
returns g c = changed _ c.args.self.now c.self.view_is (changed_at c.args.index (without_grants_to (grant_of c.args.grant.now))) _ c.revoke_select.ensures
