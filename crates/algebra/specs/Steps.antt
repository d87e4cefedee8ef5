-- The steps of a trail, and the rewrites that they name.
use Rattle.std.specs.Prelude.{ℕ, Bool, true, false, ◌==◌, List, [], ◌∷◌, Option, Some, None, if◌then◌else◌}
use Rattle.algebra.specs.declared.step.Rewrite.{Rewrite}
use Rattle.algebra.specs.declared.step.Rewrite.TheVariants as rewrites
use Rattle.row_terms.specs.declared.path.Branch.{Branch}

-- a rule by its number, its direction, the path to its node, and its arguments
pub record Step : Type 0 where
  pub rule : ℕ
  pub is_reverse : Bool
  pub path : List Branch
  pub arguments : List ℕ

-- the thing that stands beside the number, in a list of both
abbrev pub numbered : {X : Type 0} → List (ℕ × X) → ℕ → Option X
numbered [] n = None
numbered (entry ∷ entries) n = if n == entry.0 then Some entry.1 else numbered entries n

-- the rules without arguments, from left to right
abbrev pub forward : ℕ → Option Rewrite
forward =
    numbered (
    (1, rewrites.SplitFilter) ∷ (2, rewrites.MergeFilters) ∷ (3, rewrites.SwapFilters) ∷ (4, rewrites.PushLeft) ∷ (5, rewrites.PushRight)
    ∷ (6, rewrites.SwapSides) ∷ (7, rewrites.ExchangeRight) ∷ (8, rewrites.PushUnderGuard) ∷ (9, rewrites.DropGuard) ∷ (10, rewrites.DropFilter)
    ∷ (13, rewrites.CarryNot) ∷ (14, rewrites.FoldLiterals) ∷ (15, rewrites.EmptyFilter) ∷ (16, rewrites.EmptyInput) ∷ (17, rewrites.FactorOut)
    ∷ (18, rewrites.NotNull) ∷ (19, rewrites.MakeInner) ∷ (20, rewrites.PushUnderLeft) ∷ [])

-- and from right to left
abbrev pub backward : ℕ → Option Rewrite
backward = numbered ((4, rewrites.PullLeft) ∷ (5, rewrites.PullRight) ∷ (8, rewrites.PullOverGuard) ∷ (20, rewrites.PullOverLeft) ∷ [])

-- the rules with one argument, which they have from right to left
abbrev pub backward_of_one : ℕ → ℕ → Option Rewrite
backward_of_one rule argument = numbered ((9, rewrites.AddGuard argument) ∷ (10, rewrites.CopyFilter argument) ∷ []) rule

-- the rules with two arguments
abbrev pub of_two : ℕ → Bool → ℕ → ℕ → Option Rewrite
of_two rule false p q = numbered ((11, rewrites.AddEquality p q) ∷ (12, rewrites.AddConstant p q) ∷ []) rule
of_two rule true p q = numbered ((11, rewrites.DropEquality p q) ∷ (12, rewrites.DropConstant p q) ∷ []) rule

-- the rewrite of a rule in a direction with its arguments; none where there is no such rule, it has no reverse, or its arguments
-- are not as many
abbrev pub rewrite_of : (rule : ℕ) → (is_reverse : Bool) → (arguments : List ℕ) → Option Rewrite
rewrite_of rule false [] = forward rule
rewrite_of rule true [] = backward rule
rewrite_of rule false (p ∷ []) = None
rewrite_of rule true (p ∷ []) = backward_of_one rule p
rewrite_of rule is_reverse (p ∷ q ∷ []) = of_two rule is_reverse p q
rewrite_of rule is_reverse _ = None
