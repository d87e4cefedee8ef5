use Rattle.std.proofs.Common.{◌≡◌, Option, None, Some, refl, option_map, subst, sym, ◌∙◌, arith}
use Rattle.expr.specs.View.{aggregate_call_of, bound_expr_of}
use Rattle.tuples.specs.View.{world_of}
use Rattle.row_marks.specs.Marked.{computed_entry}
use Rattle.row_marks.specs.Marks.{AreMarkedArguments, argument_seen}
use Rattle.row_marks.proofs.Marking.{arguments_more, both_all, both_more}
use Rattle.row_marks.proofs.marks.marked_arguments.Goals as goal

-- by a view of what is there, or of the view
in_turn : {X Y Z : Type 0} (f : X → Y) (g : Y → Z) (o : Option X) → option_map (λ x. g (f x)) o ≡ option_map g (option_map f o)
in_turn f g None = refl
in_turn f g (Some x) = refl

pub loop-call-preserved : goal.loop-call-preserved
loop-call-preserved g c =
    let w = world_of c.args.world.now in
    record {
      seen = both_more (λ a. argument_seen a) (λ call. option_map (λ e. (e, computed_entry w e)) (aggregate_call_of call).argument) c.loop-call.marked.items _ _ c.args.calls.now c.loop-call.call-index c.call-item.result
          c.loop-call-test.true c.call-item.is c.in_ok-push.ensures.items
          (c.in_ok-marked_argument.ensures.seen ∙ in_turn (λ e. bound_expr_of e.now) (λ e. (e, computed_entry w e)) c.call-item.result.argument) c.loop-call.invariant.seen;
      marked = subst (AreMarkedArguments w) (sym c.in_ok-push.ensures.items) (arguments_more w c.loop-call.marked.items _ c.loop-call.invariant.marked c.in_ok-marked_argument.ensures.marked);
    }

pub returns : goal.returns
returns g c =
    let w = world_of c.args.world.now in
    record {
      seen = both_all (λ a. argument_seen a) (λ call. option_map (λ e. (e, computed_entry w e)) (aggregate_call_of call).argument) c.loop-call.marked.items c.args.calls.now c.loop-call.call-index (omega arith) c.loop-call.invariant.seen;
      marked = c.loop-call.invariant.marked;
    }
