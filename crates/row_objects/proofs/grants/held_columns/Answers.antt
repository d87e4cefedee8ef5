use Rattle.row_objects.specs.View.{grant_of}
use Rattle.row_objects.proofs.HeldColumns.{held_all, held_next}
use Rattle.row_objects.proofs.grants.held_columns.Goals as goal

pub loop-grant-preserved : goal.loop-grant-preserved
loop-grant-preserved g c =
    held_next (λ g. grant_of g) c.args.grants.now c.loop-grant.grant-index c.args.to.now c.loop-grant.held c.loop-grant.invariant c.grant-item.result c.loop-grant-test.true c.grant-item.is c.push_held.new.held c.in_ok-push_held.ensures

pub returns : goal.returns
returns g c = held_all (λ g. grant_of g) c.args.grants.now c.loop-grant.grant-index c.args.to.now c.loop-grant.held c.loop-grant.invariant c.loop-grant-test.false
