use Rattle.std.proofs.Common.{◌≡◌, drop}
use Rattle.std.specs.Prelude.{map}
use Rattle.plan_texts.specs.View.{on_of}
use Rattle.plan_trees.specs.PlanTrees.{on_text}
use Rattle.plan_trees.proofs.titles.push_on.Given as goal

abbrev pub invariant-loop-on : goal.invariant-loop-on
invariant-loop-on g l = record {
  text : on_text (map on_of (drop l.on-index l.ons)) l.entry ≡ on_text (map on_of l.ons) l.entry;
  out : l.out.items ≡ l.fn.out.items;
}
