-- A trail replayed: each step applied to the term that the step before it made.
use Rattle.std.specs.Prelude.{ℕ, ◌+◌, nat_le, List, [], ◌∷◌, Result, Ok, Err, if◌then◌else◌}
use Rattle.memory.specs.Results.{and_then}
use Rattle.tuples.specs.Guards.{Guard}
use Rattle.row_terms.specs.Terms.{Term}
use Rattle.algebra.specs.Rewrites.{applied}
use Rattle.algebra.specs.Rules as algebra
use Rattle.algebra.specs.Steps.{Step}
use Rattle.algebra.specs.declared.step.Reason as steps
use Rattle.algebra.specs.declared.step.Reason.TheVariants as step
use Rattle.trailcheck.specs.declared.verdict.Reason.{Reason}
use Rattle.trailcheck.specs.declared.verdict.Reason.TheVariants.{Limit, NoNode, Misfit, Unmet}
use Rattle.trailcheck.specs.declared.verdict.Refusal.{Refusal}
use Rattle.trailcheck.specs.Limits.{most_steps, is_within_nodes}

-- the term in the end, or where and why there is none
abbrev pub Replayed : Type 0
Replayed = Result Term Refusal

abbrev pub refused : ℕ → Reason → Replayed
refused line reason = Err record { line = line; reason = reason }

abbrev pub reason_of : steps.Reason → Reason
reason_of step.NoNode = NoNode
reason_of step.Misfit = Misfit
reason_of step.Unmet = Unmet

-- the term that a step made, where it has no more nodes than it may
abbrev pub within_limits : (line : ℕ) → algebra.Outcome → Replayed
within_limits line (Ok x) = if is_within_nodes x then Ok x else refused line Limit
within_limits line (Err reason) = refused line (reason_of reason)

-- one step on its line, of those that a trail may have
abbrev pub stepped : List Guard → (line : ℕ) → Step → Term → Replayed
stepped frame line s x = if nat_le line most_steps then within_limits line (applied frame s x) else refused line Limit

-- the steps from a line on
abbrev pub replay : List Guard → (line : ℕ) → List Step → Term → Replayed
replay frame line [] x = Ok x
replay frame line (s ∷ ss) x = and_then (stepped frame line s x) (replay frame (line + 1) ss)
