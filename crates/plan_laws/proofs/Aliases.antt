-- No two entries of FROM have one alias.
use Rattle.std.proofs.Common.{◌≡◌, Bool, true, false, ◌||◌, List, [], ◌∷◌, ◌++◌, map, Option, Some, None, Ok, Err, cond, refl, subst, ap, ◌∙◌}
use Rattle.std.specs.List.{AllByRecursion, IsDistinct}
use Rattle.std.specs.Str.{bytes_eq}
use Rattle.std.proofs.lemmas.Map.Keys.{IsDistinct-cons}
use Rattle.value.specs.declared.refusal.Refusal.TheVariants as r
use Rattle.value.specs.Names.{Name}
use Rattle.row_ast.specs.Ast as ast
use Rattle.row_objects.specs.Objects.{Table}
use Rattle.catalog.specs.Catalog.{Catalog, table_named}
use Rattle.scope.specs.Entry.{Entry, fault}
use Rattle.memory.specs.Results.{first_then}
use Rattle.memory.proofs.Cases.{ok_is}
use Rattle.scope.proofs.Found.{first_given}
use Rattle.resolve.specs.Entries.{JoinedTable, alias_of, entries, entries_in, entry_in, found_entry, is_used, tables_of}
use Rattle.resolve.specs.Resolved.{Bound, bound, bound_with}
use Rattle.resolve.proofs.EntryTables.{given, same_entries}

abbrev pub aliases : List Entry → List Name
aliases es = map (λ (e : Entry). e.alias) es

none_distinct : IsDistinct bytes_eq []
unfolding IsDistinct
none_distinct = tt

-- an entry has no alias of an earlier one
new_alias : (before : List Entry) (j : JoinedTable) (e : Entry) (o : Option Table) → found_entry before j o ≡ Ok e → is_used e.alias before ≡ false
new_alias before j e None h = absurd (cc)
new_alias before j e (Some t) h = go (is_used (alias_of j.table) before) refl h
  where
    go : (b : Bool) → is_used (alias_of j.table) before ≡ b → cond b (Err (fault r.DuplicateAlias j.table.offset)) (Ok record { table = t; alias = alias_of j.table; first = j.first; on = j.on }) ≡ Ok e → is_used e.alias before ≡ false
    go true is h = absurd (cc)
    go false is h = let same : alias_of j.table ≡ e.alias = cc in subst (λ a. is_used a before ≡ false) same is

-- a name that is not used by entries and one more is used by neither
used_before : (a : Name) (before : List Entry) (e : Entry) → is_used a (before ++ e ∷ []) ≡ false → (is_used a before ≡ false) × (bytes_eq e.alias a ≡ false)
used_before a [] e h = (refl, go (bytes_eq e.alias a) h)
  where
    go : (b : Bool) → b || false ≡ false → b ≡ false
    go true h = absurd (cc)
    go false h = refl
used_before a (x ∷ xs) e h = go (bytes_eq x.alias a) h (used_before a xs e)
  where
    go : (b : Bool) → b || is_used a (xs ++ e ∷ []) ≡ false → (is_used a (xs ++ e ∷ []) ≡ false → (is_used a xs ≡ false) × (bytes_eq e.alias a ≡ false)) → (b || is_used a xs ≡ false) × (bytes_eq e.alias a ≡ false)
    go true h more = absurd (cc)
    go false h more = more h

each_before : (before : List Entry) (e : Entry) (names : List Name) → AllByRecursion (λ a. is_used a (before ++ e ∷ []) ≡ false) names
    → AllByRecursion (λ a. is_used a before ≡ false) names × AllByRecursion (λ a. bytes_eq e.alias a ≡ false) names
each_before before e [] h = (tt, tt)
each_before before e (n ∷ ns) h =
    let one = used_before n before e h.0 in
    let rest = each_before before e ns h.1 in
    ((one.0, rest.0), (one.1, rest.1))

module _ (cat : Catalog) where
  all_new : (before : List Entry) (js : List JoinedTable) (es : List Entry) → entries_in cat before js ≡ Ok es → AllByRecursion (λ a. is_used a before ≡ false) (aliases es) × IsDistinct bytes_eq (aliases es)
  all_new before [] es e = let same : [] ≡ es = ok_is [] es e in subst (λ es. AllByRecursion (λ a. is_used a before ≡ false) (aliases es) × IsDistinct bytes_eq (aliases es)) same (tt, none_distinct)
  all_new before (j ∷ more) es e =
      let step = given (λ e. first_then (Ok e) (entries_in cat (before ++ e ∷ []) more)) es (entry_in cat before j) e in
      let rest = first_given (Ok step.0) (entries_in cat (before ++ step.0 ∷ []) more) es step.2 in
      let own : step.0 ≡ rest.0 = ok_is step.0 rest.0 rest.2 in
      let same : step.0 ∷ rest.1 ≡ es = ap (λ e. e ∷ rest.1) own ∙ rest.4 in
      let later = all_new (before ++ step.0 ∷ []) more rest.1 rest.3 in
      let parts = each_before before step.0 (aliases rest.1) later.0 in
      subst (λ es. AllByRecursion (λ a. is_used a before ≡ false) (aliases es) × IsDistinct bytes_eq (aliases es)) same
      ((new_alias before j step.0 (table_named j.table.table cat) step.1, parts.0), IsDistinct-cons bytes_eq step.0.alias (aliases rest.1) parts.1 later.1)

pub aliases_differ : (cat : Catalog) (q : ast.Query) (b : Bound) → bound cat q ≡ Ok b → IsDistinct bytes_eq (map (λ (e : Entry). e.alias) b.entries)
aliases_differ cat q b e =
    let found = given (bound_with q) b (entries cat q) e in
    subst (λ es. IsDistinct bytes_eq (aliases es)) (same_entries found.0 q b found.2) (all_new cat [] (tables_of q) found.0 found.1).1
