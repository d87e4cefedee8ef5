-- A query within the limits has few tables in FROM, and as many entries.
use Rattle.std.proofs.Common.{◌≡◌, ℕ, ◌+◌, ◌≤◌, Bool, true, false, ◌&&◌, List, [], ◌∷◌, length, length-append, map, Result, Ok, Err, refl, sym, ap, subst, ◌∙◌, arith}
use Rattle.std.proofs.lemmas.List.{length-map}
use Rattle.std.proofs.lemmas.Bool.{leb-true}
use Rattle.std.proofs.lemmas.List.Sums.{sum-map, sum_by-cons}
use Rattle.value.specs.Limits.{most_entries}
use Rattle.value.specs.Names.{Name}
use Rattle.row_ast.specs.Ast.{FromItem, Query}
use Rattle.syntax.specs.Limits.{entries, item_entries, within_limits}
use Rattle.catalog.specs.Catalog.{Catalog}
use Rattle.scope.specs.declared.error.BindError.{BindError}
use Rattle.resolve.specs.Entries.{item_tables, joined, joined_by, last_first, left_table, tables_of}
use Rattle.resolve.specs.Resolved.{Bound, bound}
use Rattle.resolve.proofs.EntryTables.{as_many_entries}
use Rattle.analysis.specs.Analysis.{admitted_query, permitted}
use Rattle.analysis.proofs.Admitted.{not_denied}

abbrev tables_in : FromItem → ℕ
tables_in f = 1 + length f.joins

joined_count : (first : ℕ) (from : List FromItem) → length (joined first from) ≡ item_entries from
joined_count first [] = refl
joined_count first (f ∷ more) =
    let here = item_tables first f in
    let rest = joined_count (first + length here) more in
    let s : item_entries (f ∷ more) ≡ 1 + length f.joins + item_entries more = sum-map tables_in (f ∷ more) ∙ sum_by-cons tables_in f more ∙ ap (λ n. 1 + length f.joins + n) (sym (sum-map tables_in more)) in
    let m = length-append here (joined (first + length here) more) in
    let n = length-map f.joins (joined_by first) in
    omega arith

tables_count : (q : Query) → length (tables_of q) ≡ entries q
tables_count q =
    let m = length-append (joined 0 q.from) (map (left_table (last_first 0 q.from)) q.lefts) in
    let n = length-map q.lefts (left_table (last_first 0 q.from)) in
    let k = joined_count 0 q.from in
    omega arith

pub first_holds : (a b : Bool) → (a && b) ≡ true → a ≡ true
first_holds true b e = refl
first_holds false b e = e

few_tables : (q : Query) → within_limits q ≡ true → entries q ≤ most_entries
few_tables q small = leb-true (entries q) most_entries (first_holds _ _ (first_holds _ _ small))

permitted_few : (cat : Catalog) (role : Name) (q : Query) (b : Bound) (r : Result Bound BindError) → entries q ≤ most_entries → bound cat q ≡ r → permitted cat role r ≡ Ok b → length b.entries ≤ most_entries
permitted_few cat role q b (Err fault) few is e = absurd (cc)
permitted_few cat role q b (Ok b') few is e =
    let n = as_many_entries cat q b' is in
    let m = tables_count q in
    subst (λ (b : Bound). length b.entries ≤ most_entries) (not_denied b' b _ e) (omega arith)

pub admitted_few : (cat : Catalog) (role : Name) (q : Query) (b : Bound) → within_limits q ≡ true → admitted_query cat role q ≡ Ok b → length b.entries ≤ most_entries
admitted_few cat role q b small e = permitted_few cat role q b (bound cat q) (few_tables q small) refl e
