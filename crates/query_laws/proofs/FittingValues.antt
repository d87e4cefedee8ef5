-- On rows of its tables the expressions of an admitted query have values of their types.
use Rattle.std.proofs.Common.{◌≡◌, ◌⊎◌, inl, inr, ℕ, zero, suc, List, [], ◌∷◌, Contains, Some, refl, sym, ap, arith}
use Rattle.std.specs.Prelude.{option_map, slice_index_or}
use Rattle.std.specs.List.{AllZip, slice_get}
use Rattle.std.proofs.lemmas.List.Elements.{All-contains}
use Rattle.value.specs.Columns.{Column}
use Rattle.value.specs.Datum.{Datum, null, int, text, bool, Row, cell}
use Rattle.expr.specs.Aggregates.{aggregates}
use Rattle.scope.specs.Entry.{Entry}
use Rattle.typing.specs.Typing.{column_type, type_of}
use Rattle.type_laws.specs.Rules.{HasType}
use Rattle.type_laws.proofs.Values.{gives}
use Rattle.tuples.specs.Combinations.{Combination, joined_cells}
use Rattle.analysis.specs.EntryTables.{AreTables}
use Rattle.analysis.proofs.EntryTables.{binds_tables}
use Rattle.catalog_laws.specs.Catalog.{table_named}
use Rattle.catalog_laws.specs.Database.{Database, rows_of}
use Rattle.catalog_laws.specs.FittingRows.{FitsColumn, FitsColumns}
use Rattle.catalog_laws.specs.WellFormedDatabase.{IsWellFormedDatabase}
use Rattle.catalog_laws.proofs.WellFormedDatabase.{rows_fit}
use Rattle.query_laws.specs.Values.{IsCombination, ValuesAreOfTypes}
use Rattle.query_laws.proofs.Parts.{admitted_bound}

-- ---- a row that fits the columns of its table

value_fits : (c : Column) (d : Datum) → FitsColumn c d → HasType (Some c.data_type) d
value_fits c null h = inl refl
value_fits c (int n) h = inr (ap (λ t. Some t) (sym h.0))
value_fits c (text t) h = inr (ap (λ t. Some t) (sym h.0))
value_fits c (bool b) h = inr (ap (λ t. Some t) (sym h))

cell_fits : (columns : List Column) (row : Row) (k : ℕ) → AllZip FitsColumn columns row → HasType (option_map (λ c. c.data_type) (slice_get columns k)) (cell row k)
cell_fits [] [] k z = inl refl
cell_fits [] (d ∷ ds) k z = absurd z
cell_fits (c ∷ cs) [] k z = absurd z
cell_fits (c ∷ cs) (d ∷ ds) zero z = value_fits c d z.0
cell_fits (c ∷ cs) (d ∷ ds) (suc k) z = cell_fits cs ds k z.1

-- a null row has nulls alone
cell_fits_or_null : (columns : List Column) (row : Row) (k : ℕ) → FitsColumns columns row ⊎ (row ≡ []) → HasType (option_map (λ c. c.data_type) (slice_get columns k)) (cell row k)
cell_fits_or_null columns row k (inl z) = cell_fits columns row k z
cell_fits_or_null columns row k (inr e) = inl (ap (λ r. type_of (cell r k)) e)

-- ---- a combination of such rows

abbrev Fits : Entry → Row → Type 0
Fits e row = FitsColumns e.table.columns row ⊎ (row ≡ [])

column_fits : (es : List Entry) (these : Combination) (n k : ℕ) → AllZip Fits es these → HasType (column_type es record { entry = n; column = k }) (cell (slice_index_or these n []) k)
column_fits [] [] n k z = inl refl
column_fits [] (row ∷ rows) n k z = absurd z
column_fits (e ∷ es) [] n k z = absurd z
column_fits (e ∷ es) (row ∷ rows) zero k z = cell_fits_or_null e.table.columns row k z.0
column_fits (e ∷ es) (row ∷ rows) (suc n) k z = column_fits es rows n k z.1

module _ (database : Database) (well : IsWellFormedDatabase database) where
  row_fits : (e : Entry) (row : Row) → table_named e.table.name database.catalog ≡ Some e.table → Contains (rows_of database e.table.name) row ⊎ (row ≡ []) → Fits e row
  row_fits e row there (inl within) = inl (All-contains (FitsColumns e.table.columns) (rows_of database e.table.name) row (rows_fit database e.table.name e.table well there) within)
  row_fits e row there (inr is) = inr is

  rows_fit_all : (es : List Entry) (these : Combination) → AreTables database.catalog es → IsCombination database es these → AllZip Fits es these
  rows_fit_all [] [] h z = tt
  rows_fit_all [] (row ∷ rows) h z = absurd z
  rows_fit_all (e ∷ es) [] h z = absurd z
  rows_fit_all (e ∷ es) (row ∷ rows) h z = (row_fits e row h.0 z.0, rows_fit_all es rows h.1 z.1)

-- ---- the law

none_contained : {X : Type 0} (xs : List X) (x : X) → xs ≡ [] → Contains xs x → ⊥
none_contained [] x e c = omega (arith, c.1)
none_contained (y ∷ ys) x e c = cc

pub values_are_of_types : ValuesAreOfTypes
values_are_of_types database role query b these x t well is those typed plain =
    let bound = admitted_bound database.catalog role query b is in
    let fit = rows_fit_all database well b.entries these (binds_tables database.catalog bound.0 b bound.1) those in
    gives b.entries (joined_cells these) role x t typed (record {
      columns = λ id. column_fits b.entries these id.entry id.column fit;
      aggregates = λ call within s typed. absurd (none_contained (aggregates x) call plain within);
    })
