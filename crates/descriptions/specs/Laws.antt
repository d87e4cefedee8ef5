-- The law of the described types.
use Rattle.std.specs.Prelude.{◌≡◌, ℕ, List, Ok}
use Rattle.std.specs.List.{All}
use Rattle.value.specs.Names.{Name}
use Rattle.catalog_laws.specs.Catalog.{Catalog}
use Rattle.type_laws.specs.Rules.{IsOfType}
use Rattle.analysis.specs.Resolved.{Bound}
use Rattle.analysis.specs.Analysis.{admitted}
use Rattle.descriptions.specs.Types.{bound_type}

-- each item of an admitted query is of the type that is described
abbrev pub DescribedTypes : Type 0
DescribedTypes = (cat : Catalog) (role : Name) (text : List ℕ) (b : Bound) → admitted cat role text ≡ Ok b → All (λ i. IsOfType b.entries i.value (bound_type b.entries i.value)) b.query.items
