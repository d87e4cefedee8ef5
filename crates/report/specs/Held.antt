-- What is held of rows that come one after the other.
use Rattle.std.specs.Prelude.{ℕ, nat_le, Bool, false, List, Option, Some, None, if◌then◌else◌}
use Rattle.value.specs.Datum.{Row}
use Rattle.expr.specs.declared.query.OutputKey.{OutputKey}
use Rattle.report.specs.declared.taken_rows.TheConstants.{FEW}
use Rattle.report.specs.Ordered.{ordered}

-- a limit up to which the first rows alone are held
abbrev pub is_few : Option ℕ → Bool
is_few None = false
is_few (Some n) = nat_le n FEW

-- the first rows in order where the limit is small, else all
abbrev pub held : List OutputKey → Option ℕ → List Row → List Row
held keys limit rows = if is_few limit then ordered keys limit rows else rows
