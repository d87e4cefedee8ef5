use Rattle.std.proofs.Common.{map}
use Rattle.std.proofs.lemmas.Result.{on_ok_weaker}
use Rattle.row_objects.specs.View.{grant_of}
use Rattle.row_objects.proofs.HeldColumns.{held_after}
use Rattle.row_objects.proofs.grants.push_on_column.Goals as goal

pub returns-clause-held : goal.returns-clause-held
returns-clause-held g c =
    on_ok_weaker c.push.result
    (λ e. held_after (map (λ g. grant_of g) c.args.grants.now.items) (map (λ g. grant_of g) c.push_grant.new.grants.items) c.args.to.now c.args.column.now c.args.held.now c.push.new.self c.requires c.in_ok-push_grant.ensures.done e)
    (rw c.in_ok-new.ensures at c.push.ensures.ok)
