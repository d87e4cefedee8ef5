-- The tables of a bound query are those of the catalogue.
use Rattle.std.specs.Prelude.{◌≡◌, List, [], ◌∷◌, Some, Ok, ⊤}
use Rattle.row_ast.specs.Ast as ast
use Rattle.catalog.specs.Catalog.{Catalog, table_named}
use Rattle.scope.specs.Entry.{Entry}
use Rattle.resolve.specs.Resolved.{Bound, bound}

-- each entry is of the table that its name resolves to
abbrev pub AreTables : Catalog → List Entry → Type 0
AreTables cat [] = ⊤
AreTables cat (e ∷ more) = (table_named e.table.name cat ≡ Some e.table) × AreTables cat more

-- so is each entry of a query that is bound
abbrev pub BindsTables : Type 0
BindsTables = (cat : Catalog) (q : ast.Query) (b : Bound) → bound cat q ≡ Ok b → AreTables cat b.entries
