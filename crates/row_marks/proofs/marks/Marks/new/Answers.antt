use Rattle.std.proofs.Common.{ap, map, option_map, sym, ◌∙◌}
use Rattle.expr.specs.Conjuncts.{fragile_conjuncts}
use Rattle.expr.specs.View.{aggregate_call_of, bound_expr_of}
use Rattle.groups.proofs.SameGroups.{map-map}
use Rattle.tuples.specs.View.{world_of}
use Rattle.row_marks.specs.Marked.{computed_entry, marked_entry}
use Rattle.row_marks.proofs.Marking.{with_entries}
use Rattle.row_marks.proofs.marks.Marks.new.Goals as goal

pub returns : goal.returns
returns g c =
    let w = world_of c.args.world.now in
    let conditions = with_entries w c.in_ok-marked_conditions.field-0.items (fragile_conjuncts w.query)
    (c.in_ok-marked_conditions.ensures.seen ∙ sym (map-map (λ e. (e, marked_entry w e)) (λ e. bound_expr_of e.now) c.as_slice.result.now)
    ∙ ap (map (λ e. (e, marked_entry w e))) (ap (map (λ e. bound_expr_of e.now)) c.as_slice.ensures.value ∙ c.in_ok-conditions.ensures.value)) in
    record {
      conditions = conditions.0;
      entries = conditions.1;
      items = c.in_ok-query_items.ensures.seen;
      arguments = c.in_ok-marked_arguments.ensures.seen ∙ sym (map-map (λ a. option_map (λ e. (e, computed_entry w e)) a.argument) (λ call. aggregate_call_of call) c.args.calls.now)
          ∙ ap (map (λ a. option_map (λ e. (e, computed_entry w e)) a.argument)) c.requires.calls;
      marked_conditions = c.in_ok-marked_conditions.ensures.marked;
      marked_items = c.in_ok-query_items.ensures.marked;
      marked_arguments = c.in_ok-marked_arguments.ensures.marked;
    }
