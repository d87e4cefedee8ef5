use Rattle.std.proofs.Common.{ap}
use Rattle.std.specs.Prelude.{option_map}
use Rattle.access_matrix.proofs.Loops.{named_next}
use Rattle.access_matrix.proofs.names.role_names.Goals as goal

pub loop-index-preserved : goal.loop-index-preserved
loop-index-preserved g c =
    named_next (λ n. n.now) (λ role. role.name) c.args.catalog.now.roles c.loop-index.index c.loop-index.names _ _ c.loop-index.invariant
    c.unwrap.result (option_map (λ n. n.now) c.role_name.result) (ap (λ o. option_map (λ n. n.now) o) c.unwrap.ensures) c.role_name.ensures c.in_ok-push.ensures.ok
