use Rattle.std.proofs.Common.{inl, inr, refl, sym}
use Rattle.row_objects.specs.TableChanges.{with_owner}
use Rattle.catalog.specs.Checks.{first_refusal}
use Rattle.catalog.specs.SetOwner.{after_set_owner, checks_set_owner}
use Rattle.catalog.proofs.Made.{refused}
use Rattle.catalog.proofs.Positions.{due}
use Rattle.catalog.proofs.catalog.Catalog.set_owner.Goals as goal

pub returns-in-Err : goal.returns-in-Err
returns-in-Err g c = (refl, inr (refused (first_refusal (checks_set_owner c.args.self.now c.args.actor.now c.args.table.now c.args.owner.now)) (after_set_owner c.args.self.now c.args.table.now c.args.owner.now) c.in-Err.why (sym c.in-Err.ensures.checked)))

pub returns-in-Ok-set_owner_at : goal.returns-in-Ok-set_owner_at
returns-in-Ok-set_owner_at g c =
    due c.args.self.now c.args.table.now (with_owner c.args.owner.now) c.in-Ok.index (first_refusal (checks_set_owner c.args.self.now c.args.actor.now c.args.table.now c.args.owner.now)) c.set_owner_at.new.self
    c.in-Ok.ensures.checked.0 c.in-Ok.ensures.checked.1 c.in-Ok-set_owner_at.ensures.done

pub returns-in-Err-set_owner_at : goal.returns-in-Err-set_owner_at
returns-in-Err-set_owner_at g c = (c.in-Err-set_owner_at.ensures.unchanged, inl refl)
