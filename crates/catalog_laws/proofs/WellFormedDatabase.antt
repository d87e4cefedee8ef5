-- Statements and loads keep a database well formed.
use Rattle.std.proofs.Common.{◌≡◌, Bool, true, false, cond, List, [], ◌∷◌, find, Some, option_map, Result, Ok, Err, refl, sym, ap, ◌∙◌, subst}
use Rattle.std.proofs.lemmas.List.{map-append}
use Rattle.std.proofs.lemmas.List.Elements.{All-head, All-nil, All-push, All-tail}
use Rattle.std.specs.List.{All}
use Rattle.memory.proofs.Cases.{ok_is, some_is}
use Rattle.value.specs.declared.refusal.Refusal.{Refusal}
use Rattle.value.specs.Names.{Name}
use Rattle.row_ast.specs.Statements.{Statement, CreateTable}
use Rattle.tables.specs.Loading.{TableRows}
use Rattle.catalog.specs.Catalog.{Catalog}
use Rattle.catalog.specs.Changes.{changed}
use Rattle.catalog.specs.Checks.{first_changed}
use Rattle.catalog.specs.TableColumns.{columns_after, table_columns}
use Rattle.catalog.proofs.KeptColumns.{keeps_columns}
use Rattle.store.specs.Agreement.{contents_columns}
use Rattle.store.specs.Database.{Database, at_start, empty_table, is_named, rows_held, tables_after, with_catalog}
use Rattle.store.specs.Loads.{due_rows, with_rows}
use Rattle.store.proofs.Agreement.{each_contents}
use Rattle.catalog_laws.specs.FittingRows.{FitsColumns, IsWellFormedContents}
use Rattle.catalog_laws.specs.WellFormedDatabase.{ArisesWellFormed, Changes, IsWellFormedDatabase, Loads, LoadsKeep, RowsFit, Starts, StatementsKeep}
use Rattle.catalog_laws.proofs.Changes.{all_changed, same_changed}
use Rattle.catalog_laws.proofs.FittingRows.{empty_well, loaded_well}
use Rattle.catalog_laws.proofs.WellFormed.{at_first_well, change_well}

abbrev HasContentsWell : Name × TableRows → Type 0
HasContentsWell table = IsWellFormedContents table.1

pub at_start_well : IsWellFormedDatabase at_start
at_start_well = record { catalog = at_first_well; agrees = refl; contents = All-nil HasContentsWell }

-- ---- a statement

columns_now : (tables : List (Name × TableRows)) (s : Statement) → contents_columns (tables_after tables s) ≡ columns_after (contents_columns tables) s
columns_now tables (CreateTable name columns) = map-append _ tables ((name, empty_table columns) ∷ [])
columns_now tables _ = refl

contents_now : (tables : List (Name × TableRows)) (s : Statement) → All HasContentsWell tables → All HasContentsWell (tables_after tables s)
contents_now tables (CreateTable name columns) w = All-push HasContentsWell tables (name, empty_table columns) w (empty_well columns)
contents_now tables _ w = w

module _ (database : Database) (actor : Name) (s : Statement) (w : IsWellFormedDatabase database) where
  with_it : (cat : Catalog) → changed database.catalog actor s ≡ Ok cat → IsWellFormedDatabase record { catalog = cat; tables = tables_after database.tables s }
  with_it cat e = record {
    catalog = change_well database.catalog cat actor s w.catalog e;
    agrees = columns_now database.tables s ∙ ap (λ known. columns_after known s) w.agrees ∙ sym (keeps_columns database.catalog cat actor s e);
    contents = contents_now database.tables s w.contents;
  }

  by_result : (result : Result Catalog Refusal) (new : Database) → changed database.catalog actor s ≡ result → with_catalog database s result ≡ Ok new → IsWellFormedDatabase new
  by_result (Ok cat) new is e = subst IsWellFormedDatabase (ok_is _ new e) (with_it cat is)
  by_result (Err why) new is e = absurd (cc)

pub statements_keep : StatementsKeep
statements_keep database new actor statement w e = by_result database actor statement w (changed database.catalog actor statement) new refl e

-- ---- a load

pub loads_keep : LoadsKeep
loads_keep database tables name recs w load =
    let table = load.0 in
    let rows = load.1 in
    let grown = first_changed (is_named name) (with_rows rows) database.tables in
    let agrees : contents_columns grown ≡ table_columns database.catalog = same_changed (is_named name) (λ table. (table.0, table.1.columns)) (with_rows rows) (λ table. refl) database.tables ∙ w.agrees in
    let its : (other : Name × TableRows) → find (is_named name) database.tables ≡ Some other → HasContentsWell other → HasContentsWell (with_rows rows other) =
    λ other there well. loaded_well other.1 recs rows well (ap (λ table. due_rows table.1 recs) (some_is other table (sym there ∙ load.2)) ∙ load.3) in
    subst (λ tables. IsWellFormedDatabase record database { tables = tables }) (sym load.4)
    record { catalog = w.catalog; agrees = agrees; contents = all_changed (is_named name) HasContentsWell (with_rows rows) database.tables its w.contents }

-- ---- runs

pub arises_well : ArisesWellFormed
arises_well database Starts = at_start_well
arises_well database (Changes old new actor statement before e) = statements_keep old new actor statement (arises_well old before) e
arises_well database (Loads old tables name recs before load) = loads_keep old tables name recs (arises_well old before) load

-- ---- rows

found_well : (tables : List (Name × TableRows)) (p : Name × TableRows → Bool) (contents : TableRows) → All HasContentsWell tables → option_map (λ table. table.1) (find p tables) ≡ Some contents → IsWellFormedContents contents
found_well [] p contents w e = absurd (cc)
found_well (t ∷ ts) p contents w e = go (p t) e (found_well ts p contents (All-tail HasContentsWell t ts w))
  where
    go : (b : Bool) → option_map (λ table. table.1) (cond b (Some t) (find p ts)) ≡ Some contents → (option_map (λ table. table.1) (find p ts) ≡ Some contents → IsWellFormedContents contents) → IsWellFormedContents contents
    go true h more = subst IsWellFormedContents (some_is t.1 contents h) (All-head HasContentsWell t ts w)
    go false h more = more h

pub rows_fit : RowsFit
rows_fit database name t w there =
    let its = each_contents database name t w.agrees there in
    let well = found_well database.tables (is_named name) its.0 w.contents its.1 in
    let rows = ap rows_held its.1 in
    rw rows (subst (λ cs. All (FitsColumns cs) its.0.rows) its.2 well.rows)
