use Rattle.std.proofs.Common.{ap}
use Rattle.row_objects.specs.View.{table_entry}
use Rattle.row_objects.specs.TableChanges.{changed_at, with_index}
use Rattle.catalog.specs.Catalog.{Catalog}
use Rattle.catalog.proofs.TableChanges.{below, changed_if, kept_if}
use Rattle.catalog.proofs.catalog.Catalog.add_index_at.Goals as goal

pub add_index-requires : goal.add_index-requires
add_index-requires g c = below (λ t. table_entry t) c.self.inside.tables c.args.self.now c.args.index (ap (λ (k : Catalog). k.tables) c.self.view_is) c.requires

pub invariant_of-self : goal.invariant_of-self
invariant_of-self g c = c.self.invariant

pub returns-clause-done : goal.returns-clause-done
returns-clause-done g c = changed_if _ c.args.self.now c.self.view_is (changed_at c.args.index (with_index c.args.name.now c.args.column.now)) _ c.add_index.result c.add_index.ensures.done

pub returns-clause-unchanged : goal.returns-clause-unchanged
returns-clause-unchanged g c = kept_if _ c.args.self.now c.self.view_is (λ ts. ts) _ c.add_index.result c.add_index.ensures.unchanged
