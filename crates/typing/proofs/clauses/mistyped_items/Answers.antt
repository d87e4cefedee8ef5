use Rattle.std.proofs.Common.{◌∙◌, ap, arith, map}
use Rattle.row_ast.specs.View.{select_item_of}
use Rattle.scope.specs.View.{entry_of}
use Rattle.scope.specs.Lookup.{everywhere}
use Rattle.expr.specs.Offsets.{least_of}
use Rattle.typing.specs.Typing.{typed}
use Rattle.typing.specs.Clauses.{mistyped}
use Rattle.memory.proofs.Lists.{known_next}
use Rattle.expr.proofs.Leasts.{least_after, least_next, least_of_none}
use Rattle.typing.proofs.Walks.{known_over}
use Rattle.typing.proofs.clauses.mistyped_items.Goals as goal

pub loop-item-preserved : goal.loop-item-preserved
loop-item-preserved g c =
    known_next (least_after (λ i. mistyped (typed (map (λ e. entry_of e) c.args.entries.now) (everywhere (map (λ e. entry_of e) c.args.entries.now)) i.value))) (λ known i. least_of known (mistyped (typed (map (λ e. entry_of e) c.args.entries.now) (everywhere (map (λ e. entry_of e) c.args.entries.now)) i.value))) (λ i. select_item_of i) c.args.items.now c.loop-item.item-index
    (least_next (λ i. mistyped (typed (map (λ e. entry_of e) c.args.entries.now) (everywhere (map (λ e. entry_of e) c.args.entries.now)) i.value))) c.item-item.result c.loop-item-test.true c.item-item.is c.loop-item.known _ _ c.loop-item.invariant
    (c.least_of-known.ensures ∙ ap (least_of c.loop-item.known) (c.mistyped.ensures ∙ ap mistyped (rw (c.deref.ensures, c.everywhere-scope.ensures) at c.typed.ensures)))

pub returns : goal.returns
returns g c =
    known_over (least_after (λ i. mistyped (typed (map (λ e. entry_of e) c.args.entries.now) (everywhere (map (λ e. entry_of e) c.args.entries.now)) i.value))) (λ i. select_item_of i) c.args.items.now c.loop-item.item-index
    least_of_none c.loop-item.known _ c.loop-item.invariant (omega (arith, c.loop-item-test.false))
