-- A step: a rewrite at the node that a path leads to.
use Rattle.std.specs.Prelude.{true, false, List, [], ◌∷◌, length, Option, Some, None, Ok, Err}
use Rattle.tuples.specs.Guards.{Guard}
use Rattle.row_terms.specs.declared.path.Branch.{Branch}
use Rattle.row_terms.specs.declared.path.Branch.TheVariants.{First, Second}
use Rattle.row_terms.specs.Terms.{Term, Guarded, Filtered, Joined, LeftJoined}
use Rattle.algebra.specs.declared.step.Reason.TheVariants.{NoNode, Misfit}
use Rattle.algebra.specs.declared.step.Rewrite.{Rewrite}
use Rattle.algebra.specs.declared.step.Rewrite.TheVariants as rewrites
use Rattle.algebra.specs.Rules
use Rattle.algebra.specs.Rules.{Outcome}
use Rattle.algebra.specs.Steps.{Step, rewrite_of}

-- what a rewrite makes of a node, by the guards of the entries
abbrev pub rewritten : List Guard → Rewrite → Term → Outcome
rewritten frame rewrites.SplitFilter = Rules.split_filter
rewritten frame rewrites.MergeFilters = Rules.merge_filters
rewritten frame rewrites.SwapFilters = Rules.swap_filters
rewritten frame rewrites.PushLeft = Rules.push_left
rewritten frame rewrites.PullLeft = Rules.pull_left
rewritten frame rewrites.PushRight = Rules.push_right
rewritten frame rewrites.PullRight = Rules.pull_right
rewritten frame rewrites.SwapSides = Rules.swap_sides
rewritten frame rewrites.ExchangeRight = Rules.exchange_right
rewritten frame rewrites.PushUnderGuard = Rules.push_under_guard
rewritten frame rewrites.PullOverGuard = Rules.pull_over_guard
rewritten frame rewrites.DropGuard = Rules.drop_guard frame
rewritten frame (rewrites.AddGuard number) = Rules.add_guard frame number
rewritten frame rewrites.DropFilter = Rules.drop_filter
rewritten frame (rewrites.CopyFilter p) = Rules.copy_filter p
rewritten frame (rewrites.AddEquality p q) = Rules.add_filter (Rules.following false) p q
rewritten frame (rewrites.DropEquality p q) = Rules.drop_added (Rules.following false) p q
rewritten frame (rewrites.AddConstant p q) = Rules.add_filter (Rules.following true) p q
rewritten frame (rewrites.DropConstant p q) = Rules.drop_added (Rules.following true) p q
rewritten frame rewrites.CarryNot = Rules.carry_not
rewritten frame rewrites.FoldLiterals = Rules.fold_literals
rewritten frame rewrites.EmptyFilter = Rules.empty_filter (length frame)
rewritten frame rewrites.EmptyInput = Rules.empty_input (length frame)
rewritten frame rewrites.FactorOut = Rules.factor_out
rewritten frame rewrites.NotNull = Rules.not_null
rewritten frame rewrites.MakeInner = Rules.make_inner
rewritten frame rewrites.PushUnderLeft = Rules.push_under_left
rewritten frame rewrites.PullOverLeft = Rules.pull_over_left

-- no rule of that number, direction and arguments fits any node
abbrev pub rewritten_if : List Guard → Option Rewrite → Term → Outcome
rewritten_if frame None x = Err Misfit
rewritten_if frame (Some rewrite) x = rewritten frame rewrite x

-- the same inside a term
abbrev pub inside : (Term → Term) → Outcome → Outcome
inside f (Ok x) = Ok (f x)
inside f (Err reason) = Err reason

-- at the node that the path leads to
abbrev pub at_node : (Term → Outcome) → List Branch → Term → Outcome
at_node f [] x = f x
at_node f (First ∷ path) (Guarded i x) = inside (Guarded i) (at_node f path x)
at_node f (First ∷ path) (Filtered e x) = inside (Filtered e) (at_node f path x)
at_node f (First ∷ path) (Joined x y) = inside (λ z. Joined z y) (at_node f path x)
at_node f (Second ∷ path) (Joined x y) = inside (Joined x) (at_node f path y)
at_node f (First ∷ path) (LeftJoined on x y) = inside (λ z. LeftJoined on z y) (at_node f path x)
at_node f (Second ∷ path) (LeftJoined on x y) = inside (LeftJoined on x) (at_node f path y)
at_node f (b ∷ path) _ = Err NoNode

-- the term after a step, or the reason why there is none
abbrev pub applied : List Guard → Step → Term → Outcome
applied frame step x = at_node (rewritten_if frame (rewrite_of step.rule step.is_reverse step.arguments)) step.path x
