use Rattle.row_ast.specs.View.{grant_of}
use Rattle.row_objects.specs.TableChanges.{without_grants_to}
use Rattle.catalog.specs.Checks.{first_refusal}
use Rattle.catalog.specs.GrantSelect.{checks_select}
use Rattle.catalog.proofs.Positions.{due}
use Rattle.catalog.proofs.catalog.Catalog.revoke_select.Goals as goal

pub returns-in-Ok : goal.returns-in-Ok
returns-in-Ok g c =
    due c.args.self.now c.args.grant.now.table (without_grants_to (grant_of c.args.grant.now)) c.in-Ok.index (first_refusal (checks_select c.args.self.now c.args.actor.now (grant_of c.args.grant.now))) c.revoke_at.new.self
    c.in-Ok.ensures.checked.0 c.in-Ok.ensures.checked.1 c.revoke_at.ensures
