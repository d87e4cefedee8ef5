-- The tables of a query that is admitted are in the catalogue, and so in the store.
use Rattle.std.proofs.Common.{◌≡◌, ◌<◌, ℕ, true, List, [], ◌∷◌, length, map, is_some, Result, Ok, Err, refl, subst, ap}
use Rattle.value.specs.Names.{Name}
use Rattle.row_ast.specs.Ast.{Query}
use Rattle.scope.specs.declared.error.BindError.{BindError}
use Rattle.scope.specs.Entry.{Entry}
use Rattle.catalog.specs.Catalog.{Catalog, is_role, is_table}
use Rattle.resolve.specs.Resolved.{Bound, bound}
use Rattle.resolve.specs.EntryTables.{AreTables}
use Rattle.resolve.proofs.EntryTables.{binds_tables, given, some_entries}
use Rattle.syntax.specs.Parsing.{parsed_query}
use Rattle.analysis.specs.Analysis.{admitted_query, permitted, query_read}
use Rattle.store.specs.Database.{Database}
use Rattle.store.specs.Agreement.{Agrees}
use Rattle.store.proofs.Agreement.{each_contents}
use Rattle.engine.specs.Held.{HaveContents, HoldsEachTable}
use Rattle.analysis.proofs.Admitted.{not_denied, was_parsed}

pub split : {E : Type 0} (view : E → Entry) (cat : Catalog) (es rest : List E) (e : E) → es ≡ e ∷ rest → AreTables cat (map view es) → AreTables cat (map view (e ∷ rest))
split view cat es rest e is h = subst (λ es. AreTables cat (map view es)) is h

pub is_there : (cat : Catalog) (e : Entry) (more : List Entry) → AreTables cat (e ∷ more) → is_table cat e.table.name ≡ true
is_there cat e more h = ap is_some h.0

permitted_tables : (cat : Catalog) (role : Name) (q : Query) (b : Bound) (r : Result Bound BindError) → bound cat q ≡ r → permitted cat role r ≡ Ok b → AreTables cat b.entries
permitted_tables cat role q b (Err fault) is e = absurd (cc)
permitted_tables cat role q b (Ok b') is e =
    subst (λ (b : Bound). AreTables cat b.entries) (not_denied b' b _ e) (binds_tables cat q b' is)

pub admitted_tables : (cat : Catalog) (role : Name) (q : Query) (b : Bound) → admitted_query cat role q ≡ Ok b → AreTables cat b.entries
admitted_tables cat role q b e = permitted_tables cat role q b (bound cat q) refl e

permitted_entries : (cat : Catalog) (role : Name) (q : Query) (b : Bound) (r : Result Bound BindError) → 0 < length q.from → bound cat q ≡ r → permitted cat role r ≡ Ok b → 0 < length b.entries
permitted_entries cat role q b (Err fault) some is e = absurd (cc)
permitted_entries cat role q b (Ok b') some is e =
    subst (λ (b : Bound). 0 < length b.entries) (not_denied b' b _ e) (some_entries cat q b' some is)

pub admitted_entries : (cat : Catalog) (role : Name) (q : Query) (b : Bound) → 0 < length q.from → admitted_query cat role q ≡ Ok b → 0 < length b.entries
admitted_entries cat role q b some e = permitted_entries cat role q b (bound cat q) some refl e

pub read_parsed : (cat : Catalog) (role : Name) (text : List ℕ) (q : Query) → query_read cat role text ≡ Ok q → parsed_query text ≡ Ok q
read_parsed cat role text q e = was_parsed (is_role cat role) (parsed_query text) _ q e

have_contents : (database : Database) → Agrees database → (es : List Entry) → AreTables database.catalog es → HaveContents database.tables es
have_contents database agrees [] h = tt
have_contents database agrees (e ∷ more) h = (each_contents database e.table.name e.table agrees h.0, have_contents database agrees more h.1)

pub holds_each_table : HoldsEachTable
holds_each_table database role text b agrees e =
    let read = given (admitted_query database.catalog role) b (query_read database.catalog role text) e in
    have_contents database agrees b.entries (admitted_tables database.catalog role read.0 b read.2)
