use Rattle.std.proofs.Common.{[], ◌∙◌, append-nil, map, refl, sym}
use Rattle.row_objects.specs.View.{grant_of}
use Rattle.row_objects.proofs.GrantSets.{front_on, next_column}
use Rattle.row_objects.proofs.grants.push_columns.Goals as goal

pub loop-column-init : goal.loop-column-init
loop-column-init g c = record {
  so_far = refl;
  held = rw c.as_slice.ensures.value at c.in_ok-held.ensures;
  front = ([], sym (append-nil c.args.grants.now.items));
}

pub returns-in_err-push_on_column-clause-front : goal.returns-in_err-push_on_column-clause-front
returns-in_err-push_on_column-clause-front g c = front_on _ _ _ c.loop-column.invariant.front c.push_on_column.ensures.front

pub loop-column-preserved : goal.loop-column-preserved
loop-column-preserved g c = record {
  so_far = next_column c.args.to.now c.args.columns.now c.loop-column.column-index c.column-item.result (map (λ g. grant_of g) c.loop-column.grants.items) (map (λ g. grant_of g) c.push_on_column.new.grants.items)
      c.loop-column-test.true c.column-item.is (rw c.as_str.ensures at c.in_ok-push_on_column.ensures.done) ∙ c.loop-column.invariant.so_far;
  held = c.in_ok-push_on_column.ensures.held;
  front = front_on _ _ _ c.loop-column.invariant.front c.in_ok-push_on_column.ensures.front;
}
