use Rattle.std.proofs.Common.{◌≡◌, ◌++◌, drop}
use Rattle.std.specs.Prelude.{flat_map}
use Rattle.plan_texts.specs.PlanTexts.{argument_text}
use Rattle.plan_texts.proofs.writing.push_arguments.Given as goal

abbrev pub invariant-loop-argument : goal.invariant-loop-argument
invariant-loop-argument g l = l.out.items ++ flat_map argument_text (drop l.argument-index l.arguments) ≡ l.fn.out.items ++ flat_map argument_text l.arguments
