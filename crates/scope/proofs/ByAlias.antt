-- A column by the alias of its entry, where no other entry has the alias.
use Rattle.std.proofs.Common.{◌≡◌, ℕ, zero, suc, ◌+◌, ◌<◌, ◌≤◌, Bool, true, false, ◌&&◌, if◌then◌else◌, List, [], ◌∷◌, length, map, option_map, Some, None, Ok, refl, sym, ap, ◌∙◌, arith}
use Rattle.std.specs.List.{AllByRecursion, IsDistinct, cons_option, slice_get}
use Rattle.std.specs.Str.{bytes_eq}
use Rattle.std.proofs.lemmas.Bool.{lt-ltb, le-ltb}
use Rattle.std.proofs.lemmas.Map.Keys.{IsDistinct-head, IsDistinct-tail}
use Rattle.std.proofs.lemmas.Slice.Eq.{bytes_eq-Decides}
use Rattle.value.specs.Names.{Name}
use Rattle.row_ast.specs.Ast as ast
use Rattle.row_objects.specs.ColumnNames.{column_index}
use Rattle.expr.specs.declared.bound.ColumnId.{ColumnId}
use Rattle.scope.specs.Entry.{Entry}
use Rattle.scope.specs.Lookup.{everywhere, find_column, is_within, match_in, matches, means_some, one_column}

-- ---- names

pub same_names : (a b : Name) → a ≡ b → bytes_eq a b ≡ true
same_names a b h = (bytes_eq-Decides a b).1 h

-- names that differ differ the other way round
pub other_names : (a b : Name) → bytes_eq a b ≡ false → bytes_eq b a ≡ false
other_names a b h = go (bytes_eq b a) refl
  where
    go : (t : Bool) → bytes_eq b a ≡ t → bytes_eq b a ≡ false
    go false e = e
    go true e = let same = same_names a b (sym ((bytes_eq-Decides b a).0 e)) in cc

-- ---- entries

abbrev aliases : List Entry → List Name
aliases es = map (λ e. e.alias) es

not_that_alias : (a : Name) (es : List Entry) (i : ℕ) (e : Entry) → AllByRecursion (λ b. bytes_eq a b ≡ false) (aliases es) → slice_get es i ≡ Some e → bytes_eq a e.alias ≡ false
not_that_alias a [] i e h g = cc
not_that_alias a (x ∷ xs) zero e h g = let same : x ≡ e = cc in ap (λ (y : Entry). bytes_eq a y.alias) (sym same) ∙ h.0
not_that_alias a (x ∷ xs) (suc i) e h g = not_that_alias a xs i e h.1 g

module _ (entries : List Entry) (a name : Name) (offset : ℕ) where
  abbrev ref : ast.ColumnRef
  ref = record { table = Some a; name = name; offset = offset }

  abbrev column_at : ℕ → ℕ → ColumnId
  column_at n column = record { entry = n; column = column }

  not_in : (n : ℕ) (e : Entry) → bytes_eq a e.alias ≡ false → match_in (everywhere entries) ref n e ≡ None
  not_in n e h = rw h (go (is_within (everywhere entries) n))
    where
      go : (w : Bool) → (if w && false then option_map (column_at n) (column_index e.table.columns name) else None) ≡ None
      go true = refl
      go false = refl

  found_in : (n column : ℕ) (e : Entry) → n < length entries → bytes_eq a e.alias ≡ true → column_index e.table.columns name ≡ Some column → match_in (everywhere entries) ref n e ≡ Some (column_at n column)
  found_in n column e l h p = rw (le-ltb n 0 (omega arith), lt-ltb n (length entries) l, h) (ap (option_map (column_at n)) p)

  none_later : (n : ℕ) (es : List Entry) → AllByRecursion (λ b. bytes_eq a b ≡ false) (aliases es) → matches (everywhere entries) ref n es ≡ []
  none_later n [] h = refl
  none_later n (e ∷ es) h = ap (λ o. cons_option o (matches (everywhere entries) ref (n + 1) es)) (not_in n e h.0) ∙ none_later (n + 1) es h.1

  found : (n i column : ℕ) (es : List Entry) (e : Entry) → n + length es ≤ length entries → IsDistinct bytes_eq (aliases es) → slice_get es i ≡ Some e → e.alias ≡ a → column_index e.table.columns name ≡ Some column
      → matches (everywhere entries) ref n es ≡ column_at (n + i) column ∷ []
  found n i column [] e l d g h p = cc
  found n zero column (x ∷ es) e l d g h p =
      let same : x ≡ e = cc in
      let alias : x.alias ≡ a = ap (λ (y : Entry). y.alias) same ∙ h in
      let here = found_in n column x (omega arith) (same_names a x.alias (sym alias)) (ap (λ (y : Entry). column_index y.table.columns name) same ∙ p) in
      let at : n ≡ n + 0 = omega arith in
      ap (λ o. cons_option o (matches (everywhere entries) ref (n + 1) es)) here
      ∙ ap (λ ids. column_at n column ∷ ids) (none_later (n + 1) es (rw alias at (IsDistinct-head bytes_eq x.alias (aliases es) d)))
      ∙ ap (λ k. column_at k column ∷ []) at
  found n (suc i) column (x ∷ es) e l d g h p =
      let there : bytes_eq a x.alias ≡ false = rw h at (other_names x.alias e.alias (not_that_alias x.alias es i e (IsDistinct-head bytes_eq x.alias (aliases es) d) g)) in
      let at : n + 1 + i ≡ n + suc i = omega arith in
      ap (λ o. cons_option o (matches (everywhere entries) ref (n + 1) es)) (not_in n x there)
      ∙ found (n + 1) i column es e (omega arith) (IsDistinct-tail bytes_eq x.alias (aliases es) d) g h p
      ∙ ap (λ k. column_at k column ∷ []) at

pub found_by_alias : (entries : List Entry) (id : ColumnId) (e : Entry) (name : Name) (offset : ℕ) → IsDistinct bytes_eq (aliases entries) → slice_get entries id.entry ≡ Some e → column_index e.table.columns name ≡ Some id.column
    → find_column entries (everywhere entries) record { table = Some e.alias; name = name; offset = offset } ≡ Ok id
found_by_alias entries id e name offset d g p =
    let at : 0 + id.entry ≡ id.entry = omega arith in
    let ref : ast.ColumnRef = record { table = Some e.alias; name = name; offset = offset } in
    let one : matches (everywhere entries) ref 0 entries ≡ id ∷ [] = found entries e.alias name offset 0 id.entry id.column entries e (omega arith) d g refl p ∙ ap (λ k. let c : ColumnId = record { entry = k; column = id.column } in c ∷ []) at in
    ap (one_column offset (means_some (everywhere entries) ref 0 entries)) one
