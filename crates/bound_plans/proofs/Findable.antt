-- Where nothing is mistakable, each column is found by its name.
use Rattle.std.proofs.Common.{◌≡◌, ℕ, zero, suc, ◌+◌, ◌<◌, Bool, true, false, ◌||◌, List, [], ◌∷◌, length, Some, refl, sym, ap, ◌∙◌, arith}
use Rattle.std.specs.List.{All, position_from, slice_get}
use Rattle.std.specs.Str.{bytes_eq}
use Rattle.std.proofs.lemmas.List.Elements.{All-head, All-tail, All-weaker}
use Rattle.value.specs.Columns.{Column}
use Rattle.value.specs.Names.{Name}
use Rattle.row_objects.specs.ColumnNames.{column_index, has_name, has_name_twice}
use Rattle.expr.specs.Columns.{columns}
use Rattle.expr.specs.declared.bound.ColumnId.{ColumnId}
use Rattle.scope.specs.Entry.{Entry}
use Rattle.scope.proofs.ByAlias.{same_names, other_names, found_by_alias}
use Rattle.bound_plans.specs.Named.{column_name}
use Rattle.bound_plans.specs.Found.{IsFound, IsColumn, Unmistakable, ColumnsAreFound}

-- neither of two that are false together
neither : (a b : Bool) → (a || b) ≡ false → (a ≡ false) × (b ≡ false)
neither false false h = (refl, refl)
neither false true h = cc
neither true b h = cc

-- ---- the columns of a table

-- a name that no column has is not that of the column at an index
not_that : (name : Name) (cs : List Column) (i : ℕ) (c : Column) → has_name name cs ≡ false → slice_get cs i ≡ Some c → bytes_eq name c.name ≡ false
not_that name [] i c h g = cc
not_that name (x ∷ xs) zero c h g = let same : x ≡ c = cc in ap (λ (y : Column). bytes_eq name y.name) (sym same) ∙ (neither (bytes_eq name x.name) (has_name name xs) h).0
not_that name (x ∷ xs) (suc i) c h g = not_that name xs i c (neither (bytes_eq name x.name) (has_name name xs) h).1 g

-- a column is at its index
at_its_index : (k : ℕ) (cs : List Column) (i : ℕ) (c : Column) → has_name_twice cs ≡ false → slice_get cs i ≡ Some c → position_from (λ (x : Column). bytes_eq c.name x.name) k cs ≡ Some (k + i)
at_its_index k [] i c h g = cc
at_its_index k (x ∷ xs) zero c h g =
    let same : x ≡ c = cc in
    let here = same_names c.name x.name (ap (λ (y : Column). y.name) (sym same)) in
    let at : k ≡ k + 0 = omega arith in
    rw here (ap (λ n. Some n) at)
at_its_index k (x ∷ xs) (suc i) c h g =
    let both = neither (has_name x.name xs) (has_name_twice xs) h in
    let there = other_names x.name c.name (not_that x.name xs i c both.0 g) in
    let at : k + 1 + i ≡ k + suc i = omega arith in
    rw there (at_its_index (k + 1) xs i c both.1 g ∙ ap (λ n. Some n) at)

-- ---- the law

-- each element at an index
at_index : {X : Type 0} (P : X → Type 0) (xs : List X) (i : ℕ) (x : X) → All P xs → slice_get xs i ≡ Some x → P x
at_index P [] i x h g = cc
at_index P (y ∷ ys) zero x h g = let same : y ≡ x = cc in rw same at (All-head P y ys h)
at_index P (y ∷ ys) (suc i) x h g = at_index P ys i x (All-tail P y ys h) g

-- there is an element at each index
present : {X : Type 0} (xs : List X) (i : ℕ) → i < length xs → (x : X) × slice_get xs i ≡ Some x
present [] i l = absurd (omega arith)
present (x ∷ xs) zero l = (x, refl)
present (x ∷ xs) (suc i) l = present xs i (omega arith)

module _ (entries : List Entry) (u : Unmistakable entries) (id : ColumnId) (c : IsColumn entries id) where
  index_is : column_index c.entry.table.columns (column_name (Some c.entry) id.column) ≡ Some id.column
  index_is =
      let it = present c.entry.table.columns id.column c.within in
      let once = at_index (λ (e : Entry). has_name_twice e.table.columns ≡ false) entries id.entry c.entry u.columns c.there in
      let at : 0 + id.column ≡ id.column = omega arith in
      rw it.1 (at_its_index 0 c.entry.table.columns id.column it.0 once it.1 ∙ ap (λ n. Some n) at)

  is_found : IsFound entries id
  is_found = rw c.there (found_by_alias entries id c.entry (column_name (Some c.entry) id.column) 0 u.aliases c.there index_is)

pub columns_are_found : ColumnsAreFound
columns_are_found entries b u h = All-weaker (IsColumn entries) (IsFound entries) (λ id c. is_found entries u id c) (columns b) h
