-- The views of the Rust type of stores as spec data.
use Rattle.std.specs.Prelude.{map}
use Rattle.tables.specs.Loading.{TableRows}
use Rattle.value.specs.Names.{Name}
use Rattle.store.specs.declared.stored.Stored.{Stored}
use Rattle.store.specs.declared.store.Store.TheInside.{Inside}
use Rattle.store.specs.Database.{Database}

abbrev pub stored_of : {A : Type 0} → Stored A → Name × TableRows
stored_of s = (s.name, s.contents)

abbrev pub database_of : {A : Type 0} → Inside A → Database
database_of s = record { catalog = s.catalog; tables = map (λ t. stored_of t) s.tables.items }
