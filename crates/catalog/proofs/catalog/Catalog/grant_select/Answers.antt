use Rattle.row_ast.specs.View.{grant_of}
use Rattle.row_objects.specs.TableChanges.{with_grants_to}
use Rattle.catalog.specs.Checks.{first_refusal}
use Rattle.catalog.specs.GrantSelect.{checks_select}
use Rattle.catalog.proofs.Positions.{due}
use Rattle.catalog.proofs.catalog.Catalog.grant_select.Goals as goal

pub returns-in-Ok-grant_at : goal.returns-in-Ok-grant_at
returns-in-Ok-grant_at g c =
    due c.args.self.now c.args.grant.now.table (with_grants_to (grant_of c.args.grant.now)) c.in-Ok.index (first_refusal (checks_select c.args.self.now c.args.actor.now (grant_of c.args.grant.now))) c.grant_at.new.self
    c.in-Ok.ensures.checked.0 c.in-Ok.ensures.checked.1 c.in-Ok-grant_at.ensures.done
