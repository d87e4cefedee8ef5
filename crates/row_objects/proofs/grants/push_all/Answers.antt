use Rattle.std.proofs.Common.{◌∙◌, ap, map}
use Rattle.row_objects.specs.Grants.{with_grants, grants_to}
use Rattle.row_objects.specs.View.{grant_of}
use Rattle.row_objects.proofs.GrantSets.{front_on, next_role}
use Rattle.row_objects.proofs.grants.push_all.Goals as goal

pub loop-role-preserved : goal.loop-role-preserved
loop-role-preserved g c = record {
  so_far = next_role c.args.columns.now c.args.roles.now c.loop-role.role-index c.role-item.result (map (λ g. grant_of g) c.loop-role.grants.items) (map (λ g. grant_of g) c.push_to.new.grants.items)
      c.loop-role-test.true c.role-item.is (c.in_ok-push_to.ensures.done ∙ ap (λ n. with_grants (map (λ g. grant_of g) c.loop-role.grants.items) (grants_to c.args.columns.now n)) c.as_str.ensures)
      ∙ c.loop-role.invariant.so_far;
  front = front_on _ _ _ c.loop-role.invariant.front c.in_ok-push_to.ensures.front;
}
