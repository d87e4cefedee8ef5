use Rattle.std.proofs.Common.{ap}
use Rattle.row_objects.specs.View.{table_entry}
use Rattle.row_objects.specs.TableChanges.{changed_at, with_owner}
use Rattle.catalog.specs.Catalog.{Catalog}
use Rattle.catalog.proofs.TableChanges.{below, changed}
use Rattle.catalog.proofs.catalog.Catalog.set_owner_at.Goals as goal

pub give_table-requires : goal.give_table-requires
give_table-requires g c = below (λ t. table_entry t) c.self.inside.tables c.args.self.now c.args.index (ap (λ (k : Catalog). k.tables) c.self.view_is) c.requires

pub invariant_of-self : goal.invariant_of-self
invariant_of-self g c = c.self.invariant

pub returns-clause-done : goal.returns-clause-done
returns-clause-done g c = changed _ c.args.self.now c.self.view_is (changed_at c.args.index (with_owner c.args.owner.now)) _ (rw c.in_ok-owner.ensures at c.give_table.ensures)
