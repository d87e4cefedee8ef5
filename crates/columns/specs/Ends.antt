-- The ends of texts that lie one after the other.
use Rattle.std.specs.Prelude.{ℕ, zero, suc, List, get_or}

-- the offset at which text i starts: the end of the text before it
abbrev pub end_before : ℕ → List ℕ → ℕ → ℕ
end_before start ends zero = start
end_before start ends (suc i) = get_or ends i 0
