use Rattle.std.proofs.Common.{map, inl, inr, refl}
use Rattle.value.specs.Columns.{column_of}
use Rattle.catalog.specs.Checks.{first_refusal}
use Rattle.catalog.specs.CreateTable.{after_create_table, checks_create_table}
use Rattle.catalog.proofs.Made.{made, refused}
use Rattle.catalog.proofs.catalog.Catalog.create_table.Goals as goal

pub returns-in-Some : goal.returns-in-Some
returns-in-Some g c = (refl, inr (refused (first_refusal (checks_create_table c.args.self.now c.args.name.now (map (λ x. column_of x) c.args.columns.now))) (after_create_table c.args.self.now c.args.actor.now c.args.name.now (map (λ x. column_of x) c.args.columns.now)) c.in-Some.why c.in-Some.ensures))

pub returns-in-Ok : goal.returns-in-Ok
returns-in-Ok g c = made (first_refusal (checks_create_table c.args.self.now c.args.name.now (map (λ x. column_of x) c.args.columns.now))) (after_create_table c.args.self.now c.args.actor.now c.args.name.now (map (λ x. column_of x) c.args.columns.now)) c.add_table.new.self c.in_default.ensures c.in-Ok.ensures.done

pub returns-in-Err : goal.returns-in-Err
returns-in-Err g c = (c.in-Err.ensures.unchanged, inl refl)
