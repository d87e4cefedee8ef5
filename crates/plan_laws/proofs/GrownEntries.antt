-- The entries of a query, which the grammar made: their aliases and the conditions of their ON.
use Rattle.std.proofs.Common.{◌≡◌, ℕ, ◌+◌, Bool, true, false, cond, List, [], ◌∷◌, ◌++◌, length, map, Option, Some, None, Ok, Err, ap, subst, ◌∙◌}
use Rattle.memory.specs.Results.{first_then}
use Rattle.memory.proofs.Cases.{ok_is}
use Rattle.value.specs.declared.refusal.Refusal.TheVariants as r
use Rattle.value.specs.Names.{Name}
use Rattle.row_ast.specs.Ast as ast
use Rattle.row_objects.specs.Objects.{Table}
use Rattle.catalog.specs.Catalog.{Catalog, table_named}
use Rattle.scope.specs.Entry.{Entry, fault}
use Rattle.scope.proofs.Found.{first_given}
use Rattle.resolve.specs.Entries.{JoinedTable, alias_of, alias_or, entries, entries_in, entry_in, found_entry, is_used, item_tables, joined, joined_by, last_first, left_table, tables_of}
use Rattle.resolve.specs.Resolved.{Bound, bound, bound_with}
use Rattle.resolve.proofs.EntryTables.{given, same_entries}
use Rattle.expr_texts.specs.Filters.{IsName}
use Rattle.plan_laws.proofs.GrownQueries.{IsGrownCondition, IsGrownItem, IsGrownJoin, IsGrownLeft, IsGrownQuery, IsGrownTable}
use Rattle.plan_laws.proofs.Rules.{Each, If}

-- a table of FROM as the grammar makes it
record IsGrownPart (j : JoinedTable) : Type 0 where
  table : IsGrownTable j.table
  on : If IsGrownCondition j.on

-- an entry with a name of the grammar, and with such an ON
pub record IsGrownEntry (e : Entry) : Type 0 where
  pub alias : IsName e.alias
  pub on : If IsGrownCondition e.on

-- ---- the tables as written

joins_grown : (first : ℕ) (js : List ast.Join) → Each IsGrownJoin js → Each IsGrownPart (map (joined_by first) js)
joins_grown first [] h = tt
joins_grown first (ast.Inner t on_ ∷ js) h = (record { table = h.0.0; on = h.0.1 }, joins_grown first js h.1)
joins_grown first (ast.Cross t ∷ js) h = (record { table = h.0; on = tt }, joins_grown first js h.1)

each_append : (xs ys : List JoinedTable) → Each IsGrownPart xs → Each IsGrownPart ys → Each IsGrownPart (xs ++ ys)
each_append [] ys h k = k
each_append (x ∷ xs) ys h k = (h.0, each_append xs ys h.1 k)

parts_grown : (first : ℕ) (items : List ast.FromItem) → Each IsGrownItem items → Each IsGrownPart (joined first items)
parts_grown first [] h = tt
parts_grown first (f ∷ items) h =
    each_append (item_tables first f) (joined (first + length (item_tables first f)) items) (record { table = h.0.first; on = tt }, joins_grown first f.joins h.0.joins)
    (parts_grown (first + length (item_tables first f)) items h.1)

lefts_grown : (first : ℕ) (ls : List ast.LeftJoin) → Each IsGrownLeft ls → Each IsGrownPart (map (left_table first) ls)
lefts_grown first [] h = tt
lefts_grown first (l ∷ ls) h = (record { table = h.0.table; on = h.0.on }, lefts_grown first ls h.1)

tables_grown : (q : ast.Query) → IsGrownQuery q → Each IsGrownPart (tables_of q)
tables_grown q g =
    each_append (joined 0 q.from) (map (left_table (last_first 0 q.from)) q.lefts) (parts_grown 0 q.from g.from) (lefts_grown (last_first 0 q.from) q.lefts g.lefts)

-- ---- the tables in the catalogue

alias_grown : (alias : Option Name) (table : Name) → If IsName alias → IsName table → IsName (alias_or alias table)
alias_grown None table h k = k
alias_grown (Some alias) table h k = h

entry_grown : (before : List Entry) (j : JoinedTable) (o : Option Table) (e : Entry) → IsGrownPart j → found_entry before j o ≡ Ok e → IsGrownEntry e
entry_grown before j None e g is = absurd (cc)
entry_grown before j (Some t) e g is = go (is_used (alias_of j.table) before) is
  where
    go : (b : Bool) → cond b (Err (fault r.DuplicateAlias j.table.offset)) (Ok record { table = t; alias = alias_of j.table; first = j.first; on = j.on }) ≡ Ok e → IsGrownEntry e
    go true h = absurd (cc)
    go false h =
        subst IsGrownEntry (ok_is (record { table = t; alias = alias_of j.table; first = j.first; on = j.on }) e h)
        (record { alias = alias_grown j.table.alias j.table.table g.table.alias g.table.table; on = g.on })

module _ (cat : Catalog) where
  entries_grown : (before : List Entry) (js : List JoinedTable) (es : List Entry) → Each IsGrownPart js → entries_in cat before js ≡ Ok es → Each IsGrownEntry es
  entries_grown before [] es g is = subst (Each IsGrownEntry) (ok_is [] es is) tt
  entries_grown before (j ∷ more) es g is =
      let step = given (λ e. first_then (Ok e) (entries_in cat (before ++ e ∷ []) more)) es (entry_in cat before j) is in
      let rest = first_given (Ok step.0) (entries_in cat (before ++ step.0 ∷ []) more) es step.2 in
      let same : step.0 ∷ rest.1 ≡ es = ap (λ (e : Entry). e ∷ rest.1) (ok_is step.0 rest.0 rest.2) ∙ rest.4 in
      subst (Each IsGrownEntry) same
      (entry_grown before j (table_named j.table.table cat) step.0 g.0 step.1, entries_grown (before ++ step.0 ∷ []) more rest.1 g.1 rest.3)

-- ---- the query

pub query_entries : (cat : Catalog) (q : ast.Query) (b : Bound) → IsGrownQuery q → bound cat q ≡ Ok b → Each IsGrownEntry b.entries
query_entries cat q b g is =
    let found = given (bound_with q) b (entries cat q) is in
    subst (Each IsGrownEntry) (same_entries found.0 q b found.2) (entries_grown cat [] (tables_of q) found.0 (tables_grown q g) found.1)
