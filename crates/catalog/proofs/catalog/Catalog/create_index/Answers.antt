use Rattle.std.proofs.Common.{inl, inr, refl, sym}
use Rattle.row_objects.specs.TableChanges.{with_index}
use Rattle.catalog.specs.Checks.{first_refusal}
use Rattle.catalog.specs.CreateIndex.{after_create_index, checks_create_index}
use Rattle.catalog.proofs.Made.{refused}
use Rattle.catalog.proofs.Positions.{due}
use Rattle.catalog.proofs.catalog.Catalog.create_index.Goals as goal

pub returns-in-Err : goal.returns-in-Err
returns-in-Err g c = (refl, inr (refused (first_refusal (checks_create_index c.args.self.now c.args.actor.now c.args.name.now c.args.table.now c.args.column.now)) (after_create_index c.args.self.now c.args.name.now c.args.table.now c.args.column.now) c.in-Err.why (sym c.in-Err.ensures.checked)))

pub returns-in-Ok-add_index_at : goal.returns-in-Ok-add_index_at
returns-in-Ok-add_index_at g c =
    due c.args.self.now c.args.table.now (with_index c.args.name.now c.args.column.now) c.in-Ok.index (first_refusal (checks_create_index c.args.self.now c.args.actor.now c.args.name.now c.args.table.now c.args.column.now)) c.add_index_at.new.self
    c.in-Ok.ensures.checked.0 c.in-Ok.ensures.checked.1 c.in-Ok-add_index_at.ensures.done

pub returns-in-Err-add_index_at : goal.returns-in-Err-add_index_at
returns-in-Err-add_index_at g c = (c.in-Err-add_index_at.ensures.unchanged, inl refl)
