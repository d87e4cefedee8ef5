-- Whole numbers in texts: decimal, with no sign and no leading zero.
use Rattle.std.specs.Prelude.{ℕ, ◌^◌, nat_lt, ◌&&◌, if◌then◌else◌, List, Option, Some, None}
use Rattle.std.specs.Fmt.{decimal}
use Rattle.std.specs.Str.{bytes_eq}
use Rattle.std.specs.Str.Parse.{digits_value}

-- the number below a limit with this text
abbrev pub number_below : ℕ → List ℕ → Option ℕ
number_below limit text = if bytes_eq text (decimal (digits_value 10 text)) && nat_lt (digits_value 10 text) limit then Some (digits_value 10 text) else None

-- the number of 64 bits with this text
abbrev pub number_at : List ℕ → Option ℕ
number_at text = number_below (2 ^ 64) text
