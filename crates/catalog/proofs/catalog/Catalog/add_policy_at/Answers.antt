use Rattle.std.proofs.Common.{ap}
use Rattle.row_ast.specs.View.{create_policy_of}
use Rattle.row_objects.specs.Policies.{new_policy as made_policy}
use Rattle.row_objects.specs.View.{table_entry}
use Rattle.row_objects.specs.TableChanges.{changed_at, with_new_policy}
use Rattle.catalog.specs.Catalog.{Catalog}
use Rattle.catalog.proofs.TableChanges.{below, changed_if, kept_if}
use Rattle.catalog.proofs.catalog.Catalog.add_policy_at.Goals as goal

pub add_policy-requires : goal.add_policy-requires
add_policy-requires g c = below (λ t. table_entry t) c.self.inside.tables c.args.self.now c.args.index (ap (λ (k : Catalog). k.tables) c.self.view_is) c.requires

pub invariant_of-self : goal.invariant_of-self
invariant_of-self g c = c.self.invariant

pub returns-in-Ok-clause-done : goal.returns-in-Ok-clause-done
returns-in-Ok-clause-done g c = changed_if _ c.args.self.now c.self.view_is (changed_at c.args.index (with_new_policy (made_policy (create_policy_of c.args.policy.now) c.args.predicate))) _ c.add_policy.result (rw c.in-Ok.ensures at c.add_policy.ensures.done)

pub returns-in-Ok-clause-unchanged : goal.returns-in-Ok-clause-unchanged
returns-in-Ok-clause-unchanged g c = kept_if _ c.args.self.now c.self.view_is (λ ts. ts) _ c.add_policy.result c.add_policy.ensures.unchanged
