-- The views of the Rust types as spec data.
use Rattle.std.specs.Prelude.{◌==◌, List, map}
use Rattle.std.specs.Int.{bit_at}
use Rattle.stats.specs.declared.statistics.Stats as declared
use Rattle.stats.specs.declared.statistics.Stats.TheVariants as variants
use Rattle.stats.specs.declared.selection.Selection as declared'
use Rattle.stats.specs.declared.entry_set.EntrySet.{EntrySet}
use Rattle.stats.specs.Statistics.{Stats, Unknown, Known}
use Rattle.stats.specs.Card.{Entries, Selection}

abbrev pub stats_of : {A : Type 0} → declared.Stats A → Stats
stats_of variants.Unknown = Unknown
stats_of (variants.Known rows columns) = Known rows columns

abbrev pub selection_of : {A : Type 0} → declared'.Selection A → Selection
selection_of s = record { columns = s.columns; factor = s.factor }

abbrev pub selections_of : {A : Type 0} → List (declared'.Selection A) → List Selection
selections_of ss = map (λ s. selection_of s) ss

-- the entries whose bit is set
abbrev pub members : EntrySet → Entries
members set entry = bit_at set.bits entry == 1
