use Rattle.row_objects.specs.TableChanges.{with_row_security}
use Rattle.catalog.specs.Checks.{first_refusal}
use Rattle.catalog.specs.RowSecurity.{checks_row_security}
use Rattle.catalog.proofs.Positions.{due}
use Rattle.catalog.proofs.catalog.Catalog.set_row_security.Goals as goal

pub returns-in-Ok : goal.returns-in-Ok
returns-in-Ok g c =
    due c.args.self.now c.args.table.now (with_row_security c.args.setting) c.in-Ok.index (first_refusal (checks_row_security c.args.self.now c.args.actor.now c.args.table.now)) c.set_row_security_at.new.self
    c.in-Ok.ensures.checked.0 c.in-Ok.ensures.checked.1 c.set_row_security_at.ensures
