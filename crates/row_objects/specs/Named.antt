-- A list of things with their names, in order of creation.
pub use Rattle.indexmap.specs.IndexMap.{set_value_at}
use Rattle.std.specs.Prelude.{ℕ, List, Option}
use Rattle.std.specs.Str.{bytes_eq}
use Rattle.std.specs.List.{find, position_from}
use Rattle.value.specs.Names.{Name}

-- the first thing of a name, with the name
abbrev pub entry_named : {V : Type 0} → Name → List (Name × V) → Option (Name × V)
entry_named n es = find (λ e. bytes_eq n e.0) es

-- its index
abbrev pub index_named : {V : Type 0} → Name → List (Name × V) → Option ℕ
index_named n es = position_from (λ e. bytes_eq n e.0) 0 es
