use Rattle.row_objects.specs.TableChanges.{without_policy_named}
use Rattle.catalog.specs.Checks.{first_refusal}
use Rattle.catalog.specs.DropPolicy.{checks_drop_policy}
use Rattle.catalog.proofs.Positions.{due}
use Rattle.catalog.proofs.catalog.Catalog.drop_policy.Goals as goal

pub returns-in-Ok : goal.returns-in-Ok
returns-in-Ok g c =
    due c.args.self.now c.args.table.now (without_policy_named c.args.name.now) c.in-Ok.index (first_refusal (checks_drop_policy c.args.self.now c.args.actor.now c.args.name.now c.args.table.now)) c.drop_policy_at.new.self
    c.in-Ok.ensures.checked.0 c.in-Ok.ensures.checked.1 c.drop_policy_at.ensures
