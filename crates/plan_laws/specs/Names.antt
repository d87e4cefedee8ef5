-- Names that are words of the grammar.
use Rattle.std.specs.List.{All}
use Rattle.catalog.specs.Catalog.{Catalog}
use Rattle.expr_texts.specs.Filters.{IsName}

-- the columns of the tables have names of the grammar
abbrev pub AreNames : Catalog → Type 0
AreNames cat = All (λ t. All (λ c. IsName c.name) t.columns) cat.tables
