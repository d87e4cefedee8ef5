use Rattle.std.proofs.Common.{◌≡◌, ◌++◌, drop, map}
use Rattle.plan_texts.specs.PlanTexts.{branch_digit}
use Rattle.plan_texts.proofs.writing.push_branches.Given as goal

abbrev pub invariant-loop-branch : goal.invariant-loop-branch
invariant-loop-branch g l = l.out.items ++ map branch_digit (drop l.branch-index l.path) ≡ l.fn.out.items ++ map branch_digit l.path
