-- The least of several offsets.
use Rattle.std.specs.Prelude.{ℕ, nat_lt, List, [], ◌∷◌, Option, Some, None, if◌then◌else◌}

abbrev pub least : ℕ → ℕ → ℕ
least i j = if nat_lt j i then j else i

-- of those that there are
abbrev pub least_of : Option ℕ → Option ℕ → Option ℕ
least_of None b = b
least_of (Some i) None = Some i
least_of (Some i) (Some j) = Some (least i j)

abbrev pub least_of_all : List (Option ℕ) → Option ℕ
least_of_all [] = None
least_of_all (o ∷ os) = least_of o (least_of_all os)
