-- The views of the Rust types as spec data.
use Rattle.std.specs.Prelude.{Bool, not, map}
use Rattle.expr.specs.Bound.{BoundExpr}
use Rattle.tuples.specs.View.{guard_of}
use Rattle.trailcheck.specs.declared.setting.Setting as declared
use Rattle.trailcheck.specs.declared.shapes.Wanted.{Wanted}
use Rattle.trailcheck.specs.declared.shapes.Wanted.TheVariants.{Alone, Completing, Joining, OnTop}
use Rattle.trailcheck.specs.Entries.{completes, only_of, joins, is_over}
use Rattle.trailcheck.specs.Settings.{Setting}

abbrev pub setting_of : {A : Type 0} → declared.Setting A → Setting
setting_of s = record { frame = map guard_of s.frame; indexed = s.indexed; conditions = s.conditions; lefts = s.lefts }

-- the test passes the condition
abbrev pub wanted_by : Wanted → BoundExpr → Bool
wanted_by (Alone entry) = λ e. only_of e entry
wanted_by (Joining placed entry) = λ e. joins e placed.now entry
wanted_by (Completing entry) = completes entry
wanted_by (OnTop count) = λ e. not (is_over count e)
