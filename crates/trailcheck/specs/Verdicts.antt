-- The verdict on a trail.
use Rattle.std.specs.Prelude.{◌≡◌, ℕ, ◌+◌, true, List, length, Ok, Err, if◌then◌else◌}
use Rattle.expr.specs.Codes.{Code}
use Rattle.row_terms.specs.Terms.{Term}
use Rattle.algebra.specs.Keeping.{MeanSame, is_movable_term}
use Rattle.algebra.specs.Steps.{Step}
use Rattle.trailcheck.specs.declared.verdict.Reason.TheVariants as reason
use Rattle.trailcheck.specs.declared.verdict.Verdict.{Verdict}
use Rattle.trailcheck.specs.declared.verdict.Verdict.TheVariants.{Accepted, Refused}
use Rattle.trailcheck.specs.Admissible.{is_admissible}
use Rattle.trailcheck.specs.Replays.{Replayed, replay}
use Rattle.trailcheck.specs.SameTerm.{same_term}
use Rattle.trailcheck.specs.Settings.{Setting}
use Rattle.trailcheck.specs.Shapes.{shape}

-- the term in the end compared with the wanted one, after so many steps
abbrev pub compared : (steps : ℕ) → (wanted : Term) → Replayed → Verdict
compared steps wanted (Ok x) = if same_term x wanted then Accepted else Refused record { line = steps + 1; reason = reason.End }
compared steps wanted (Err refusal) = Refused refusal

-- a trail leads from the written term to the shape of an admissible code
abbrev pub verdict : Setting → (written : Term) → (trail : List Step) → Code → Verdict
verdict at written trail code =
    if is_admissible at code then compared (length trail) (shape at code) (replay at.frame 1 trail written)
    else Refused record { line = 0; reason = reason.Code }

-- in every content the written term of an accepted trail and the shape mean one bag of combinations, where no condition of the
-- written term can fault
abbrev pub AcceptedMeansSame : Type 0
AcceptedMeansSame = (at : Setting) (written : Term) (trail : List Step) (code : Code) → is_movable_term written ≡ true → verdict at written trail code ≡ Accepted → MeanSame at.frame written (shape at code)
