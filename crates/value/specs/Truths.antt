-- Three-valued logic on the order false, unknown, true.
use Rattle.std.specs.Prelude.{ℕ, nat_lt, if◌then◌else◌}
use Rattle.value.specs.declared.order.Truth.{Truth}
use Rattle.value.specs.declared.order.Truth.TheVariants.{False, Unknown, True}

-- the rank in the order
abbrev pub rank : Truth → ℕ
rank False = 0
rank Unknown = 1
rank True = 2

abbrev pub least : Truth → Truth → Truth
least a b = if nat_lt (rank b) (rank a) then b else a

abbrev pub greatest : Truth → Truth → Truth
greatest a b = if nat_lt (rank a) (rank b) then b else a

-- the order reversed
abbrev pub negated : Truth → Truth
negated False = True
negated Unknown = Unknown
negated True = False
