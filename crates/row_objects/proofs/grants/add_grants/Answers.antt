use Rattle.std.proofs.Common.{◌∙◌, map}
use Rattle.std.proofs.lemmas.Result.{on_ok_weaker}
use Rattle.row_objects.specs.View.{grant_of}
use Rattle.row_objects.proofs.GrantsOnce.{granted_once}
use Rattle.row_objects.proofs.grants.add_grants.Goals as goal

pub returns-clause-done : goal.returns-clause-done
returns-clause-done g c =
    let done = rw (c.as_slice.ensures, c.in_ok-columns.ensures, c.in_ok-roles.ensures) at c.add_all.ensures.done in
    on_ok_weaker c.add_all.result (λ d. d ∙ granted_once (map (λ g. grant_of g) c.args.grants.now) c.args.columns.now c.args.roles.now) done
