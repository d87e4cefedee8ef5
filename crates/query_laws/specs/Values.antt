-- The values of an admitted query over a well-formed database.
use Rattle.std.specs.Prelude.{◌≡◌, ◌⊎◌, ℕ, Contains, List, [], Ok}
use Rattle.std.specs.List.{All, AllZip}
use Rattle.value.specs.Datum.{Row}
use Rattle.value.specs.Names.{Name}
use Rattle.expr.specs.Bound.{BoundExpr}
use Rattle.eval.specs.Meaning.{meaning}
use Rattle.scope.specs.Entry.{Entry}
use Rattle.typing.specs.Typing.{TypeOf}
use Rattle.type_laws.specs.Laws.{GivesType}
use Rattle.type_laws.specs.Rules.{IsOfType}
use Rattle.tuples.specs.Combinations.{Combination, joined_cells}
use Rattle.tuples.specs.LeftCombinations.{left_combinations}
use Rattle.analysis.specs.Resolved.{Bound}
use Rattle.analysis.specs.Analysis.{admitted}
use Rattle.catalog_laws.specs.Database.{Database, rows_of}
use Rattle.catalog_laws.specs.WellFormedDatabase.{IsWellFormedDatabase}
use Rattle.query_laws.specs.Admitted.{IsPlain}

-- a row of the table of each entry, or the null row
abbrev pub IsCombination : Database → List Entry → Combination → Type 0
IsCombination database entries these = AllZip (λ e row. Contains (rows_of database e.table.name) row ⊎ (row ≡ [])) entries these

-- of each entry rows of its table
abbrev pub AreRows : Database → List Entry → List (List Row) → Type 0
AreRows database entries tables = AllZip (λ e rows. All (Contains (rows_of database e.table.name)) rows) entries tables

-- such is each combination of these rows, left joins too
abbrev pub CombinationsAreOfRows : Type 0
CombinationsAreOfRows = (database : Database) (role : Name) (entries : List Entry) (lefts : List BoundExpr) (tables : List (List Row)) → AreRows database entries tables →
    All (IsCombination database entries) (left_combinations role lefts tables)

-- on a combination of rows of its tables and null rows, an expression that has a type among the entries of an admitted query, and no
-- aggregate, gives a value of the type, null or a fault
abbrev pub ValuesAreOfTypes : Type 0
ValuesAreOfTypes = (database : Database) (role : Name) (text : List ℕ) (b : Bound) (these : Combination) (x : BoundExpr) (t : TypeOf) → IsWellFormedDatabase database → admitted database.catalog role text ≡ Ok b →
    IsCombination database b.entries these → IsOfType b.entries x t → IsPlain x → GivesType t (meaning (joined_cells these) role x)
