use Rattle.std.proofs.Common.{inl, refl}
use Rattle.row_ast.specs.View.{create_policy_of}
use Rattle.catalog.specs.Checks.{first_refusal}
use Rattle.catalog.specs.CreatePolicy.{after_create_policy, checks_create_policy}
use Rattle.catalog.proofs.Made.{refused_or}
use Rattle.catalog.proofs.Policies.{due_policy}
use Rattle.catalog.proofs.catalog.Catalog.create_policy.Goals as goal

pub returns-in-Err : goal.returns-in-Err
returns-in-Err g c = (refl, refused_or (first_refusal (checks_create_policy c.args.self.now c.args.actor.now (create_policy_of c.args.policy.now))) (after_create_policy c.args.self.now (create_policy_of c.args.policy.now)) c.in-Err.why c.in-Err.ensures.checked)

pub returns-in-Ok-add_policy_at : goal.returns-in-Ok-add_policy_at
returns-in-Ok-add_policy_at g c =
    due_policy c.args.self.now c.add_policy_at.new.self (create_policy_of c.args.policy.now) (first_refusal (checks_create_policy c.args.self.now c.args.actor.now (create_policy_of c.args.policy.now))) (c.in-Ok.index, c.in-Ok.predicate)
    c.in-Ok.ensures.checked c.in-Ok-add_policy_at.ensures.done

pub returns-in-Err-add_policy_at : goal.returns-in-Err-add_policy_at
returns-in-Err-add_policy_at g c = (c.in-Err-add_policy_at.ensures.unchanged, inl refl)
