use Rattle.std.proofs.Common.{ap}
use Rattle.row_objects.specs.View.{table_entry}
use Rattle.row_objects.specs.TableChanges.{changed_at, with_grants_to}
use Rattle.catalog.specs.Catalog.{Catalog}
use Rattle.row_ast.specs.View.{grant_of}
use Rattle.catalog.proofs.TableChanges.{below, changed_if, kept_if}
use Rattle.catalog.proofs.catalog.Catalog.grant_at.Goals as goal

pub grant_select-requires : goal.grant_select-requires
grant_select-requires g c = below (λ t. table_entry t) c.self.inside.tables c.args.self.now c.args.index (ap (λ (k : Catalog). k.tables) c.self.view_is) c.requires

pub invariant_of-self : goal.invariant_of-self
invariant_of-self g c = c.self.invariant

pub returns-clause-done : goal.returns-clause-done
returns-clause-done g c = changed_if _ c.args.self.now c.self.view_is (changed_at c.args.index (with_grants_to (grant_of c.args.grant.now))) _ c.grant_select.result c.grant_select.ensures.done

pub returns-clause-unchanged : goal.returns-clause-unchanged
returns-clause-unchanged g c = kept_if _ c.args.self.now c.self.view_is (λ ts. ts) _ c.grant_select.result c.grant_select.ensures.unchanged
