-- A store finds by name the contents of the table that its catalogue finds.
use Rattle.std.proofs.Common.{◌≡◌, ℕ, zero, suc, ◌+◌, ◌<◌, Bool, true, false, cond, List, [], ◌∷◌, ◌++◌, length, map, set, get_or, find, is_some, Some, option_map, Result, Ok, Err, refl, sym, ap, ap₂, ◌∙◌, arith}
use Rattle.std.proofs.lemmas.List.{length-map}
use Rattle.std.proofs.lemmas.Slice.Eq.{bytes_eq-Decides}
use Rattle.std.specs.Str.{bytes_eq}
use Rattle.std.specs.List.{position_from}
use Rattle.memory.proofs.Cases.{nil_is_not}
use Rattle.value.specs.Columns.{Column}
use Rattle.tables.specs.Loading.{TableRows}
use Rattle.value.specs.declared.refusal.Refusal.{Refusal}
use Rattle.value.specs.Names.{Name}
use Rattle.row_ast.specs.Statements.{Statement, CreateTable}
use Rattle.row_objects.specs.Objects.{Table}
use Rattle.catalog.specs.Catalog.{Catalog}
use Rattle.catalog.specs.Changes.{IsChange, changed}
use Rattle.catalog.specs.TableColumns.{columns_after, table_columns, with_columns}
use Rattle.catalog.proofs.KeptColumns.{keeps_columns}
use Rattle.store.specs.Database.{empty_table, is_named}
use Rattle.store.specs.Agreement.{HasContents, HasEachContents, contents_columns}

turned : (a b : Name) → bytes_eq a b ≡ bytes_eq b a
turned a b = grind (arith, bytes_eq-Decides)

first_name : (c d : Name × List Column) (cs ds : List (Name × List Column)) → c ∷ cs ≡ d ∷ ds → c.0 ≡ d.0
first_name c d cs ds e = cc

first_columns : (c d : Name × List Column) (cs ds : List (Name × List Column)) → c ∷ cs ≡ d ∷ ds → c.1 ≡ d.1
first_columns c d cs ds e = cc

others : (c d : Name × List Column) (cs ds : List (Name × List Column)) → c ∷ cs ≡ d ∷ ds → cs ≡ ds
others c d cs ds e = cc

module _ (name : Name) where
  same_test : (t : Name × TableRows) (c : Table) → t.0 ≡ c.name → is_named name t ≡ bytes_eq name c.name
  same_test t c same = turned t.0 name ∙ ap (bytes_eq name) same

  -- the index of the contents is that of the table
  pub same_place : (k : ℕ) (ts : List (Name × TableRows)) (cs : List Table) → contents_columns ts ≡ map with_columns cs → position_from (is_named name) k ts ≡ position_from (λ t. bytes_eq name t.name) k cs
  same_place k [] [] e = refl
  same_place k [] (c ∷ cs) e = absurd (nil_is_not _ _ e)
  same_place k (t ∷ ts) [] e = absurd (nil_is_not _ _ (sym e))
  same_place k (t ∷ ts) (c ∷ cs) e = ap₂ (λ b o. cond b (Some k) o) (same_test t c (first_name _ _ _ _ e)) (same_place (k + 1) ts cs (others _ _ _ _ e))

  -- there are contents exactly where there is a table
  pub same_there : (ts : List (Name × TableRows)) (cs : List Table) → contents_columns ts ≡ map with_columns cs → is_some (find (is_named name) ts) ≡ is_some (find (λ t. bytes_eq name t.name) cs)
  same_there [] [] e = refl
  same_there [] (c ∷ cs) e = absurd (nil_is_not _ _ e)
  same_there (t ∷ ts) [] e = absurd (nil_is_not _ _ (sym e))
  same_there (t ∷ ts) (c ∷ cs) e = one (is_named name t) (bytes_eq name c.name) (same_test t c (first_name _ _ _ _ e)) (same_there ts cs (others _ _ _ _ e))
    where
      one : (a b : Bool) → a ≡ b → is_some (find (is_named name) ts) ≡ is_some (find (λ t. bytes_eq name t.name) cs)
          → is_some (cond a (Some t) (find (is_named name) ts)) ≡ is_some (cond b (Some c) (find (λ t. bytes_eq name t.name) cs))
      one true true e more = refl
      one false false e more = more
      one true false e more = absurd (cc)
      one false true e more = absurd (cc)

  -- the contents that are found have the columns of the table that is found
  found_contents : (ts : List (Name × TableRows)) (cs : List Table) (t : Table) → contents_columns ts ≡ map with_columns cs → find (λ t. bytes_eq name t.name) cs ≡ Some t → HasContents ts name t
  found_contents [] [] t e h = absurd (cc)
  found_contents [] (c ∷ cs) t e h = absurd (nil_is_not _ _ e)
  found_contents (x ∷ ts) [] t e h = absurd (nil_is_not _ _ (sym e))
  found_contents (x ∷ ts) (c ∷ cs) t e h = one (is_named name x) (bytes_eq name c.name) (same_test x c (first_name _ _ _ _ e)) h (found_contents ts cs t (others _ _ _ _ e))
    where
      one : (a b : Bool) → a ≡ b → cond b (Some c) (find (λ t. bytes_eq name t.name) cs) ≡ Some t → (find (λ t. bytes_eq name t.name) cs ≡ Some t → HasContents ts name t)
          → (contents : TableRows) × (option_map (λ table. table.1) (cond a (Some x) (find (is_named name) ts)) ≡ Some contents) × (contents.columns ≡ t.columns)
      one true true same h more = let is : c ≡ t = cc in (x.1, refl, first_columns _ _ _ _ e ∙ ap (λ t. t.columns) is)
      one false false same h more = more h
      one true false same h more = absurd (cc)
      one false true same h more = absurd (cc)

pub each_contents : HasEachContents
each_contents database name t agrees h = found_contents name database.tables database.catalog.tables t agrees h

-- ---- what keeps them in agreement

same_length : (ts : List (Name × TableRows)) (cs : List Table) → contents_columns ts ≡ map with_columns cs → length ts ≡ length cs
same_length ts cs e = sym (length-map ts (λ t. (t.0, t.1.columns))) ∙ ap length e ∙ length-map cs with_columns

pub within : (ts : List (Name × TableRows)) (cs : List Table) (index : ℕ) → contents_columns ts ≡ map with_columns cs → index < length cs → index < length ts
within ts cs index e lt = omega (arith, lt, same_length ts cs e)

module _ {X : Type 0} (v : X → Name × TableRows) where
  -- contents changed at an index, with the same name and columns
  pub columns_kept : (xs : List X) (i : ℕ) (x y : X) → x ≡ get_or xs i x → (v y).0 ≡ (v x).0 → (v y).1.columns ≡ (v x).1.columns → contents_columns (map v (set xs i y)) ≡ contents_columns (map v xs)
  columns_kept [] i x y is n c = refl
  columns_kept (z ∷ zs) zero x y is n c = ap₂ (λ a b. (a, b) ∷ contents_columns (map v zs)) (n ∙ ap (λ x. (v x).0) is) (c ∙ ap (λ x. (v x).1.columns) is)
  columns_kept (z ∷ zs) (suc i) x y is n c = ap (λ cs. ((v z).0, (v z).1.columns) ∷ cs) (columns_kept zs i x y is n c)

  -- new contents at the end
  pub columns_added : (xs : List X) (x : X) (name : Name) (columns : List Column) → v x ≡ (name, empty_table columns) → contents_columns (map v (xs ++ x ∷ [])) ≡ contents_columns (map v xs) ++ (name, columns) ∷ []
  columns_added [] x name columns is = ap (λ t. (t.0, t.1.columns) ∷ []) is
  columns_added (z ∷ zs) x name columns is = ap (λ cs. ((v z).0, (v z).1.columns) ∷ cs) (columns_added zs x name columns is)

  -- a table at an index is there by its name
  pub named_there : (xs : List X) (i : ℕ) (x : X) → i < length (map v xs) → x ≡ get_or xs i x → is_some (find (is_named (v x).0) (map v xs)) ≡ true
  named_there [] i x lt is = absurd (omega (arith, lt))
  named_there (z ∷ zs) zero x lt is =
      ap (λ b. is_some (cond b (Some (v z)) (find (is_named (v x).0) (map v zs)))) ((bytes_eq-Decides (v z).0 (v x).0).1 (sym (ap (λ (x : X). (v x).0) is)))
  named_there (z ∷ zs) (suc i) x lt is = go (is_named (v x).0 (v z)) (named_there zs i x (omega (arith, lt)) is)
    where
      go : (b : Bool) → is_some (find (is_named (v x).0) (map v zs)) ≡ true → is_some (cond b (Some (v z)) (find (is_named (v x).0) (map v zs))) ≡ true
      go true h = refl
      go false h = h

  -- a new table is in the catalogue and in the store
  pub new_agrees : (xs ys : List X) (x : X) (cat new : Catalog) (actor name : Name) (s : Statement) (columns : List Column) → ys ≡ xs ++ x ∷ [] → v x ≡ (name, empty_table columns) → s ≡ CreateTable name columns
      → changed cat actor s ≡ Ok new → contents_columns (map v xs) ≡ table_columns cat → contents_columns (map v ys) ≡ table_columns new
  new_agrees xs ys x cat new actor name s columns pushed is made e agrees =
      ap (λ ys. contents_columns (map v ys)) pushed ∙ columns_added xs x name columns is
      ∙ ap (λ cs. cs ++ (name, columns) ∷ []) agrees ∙ ap (columns_after (table_columns cat)) (sym made) ∙ sym (keeps_columns cat new actor s e)

-- another statement changes neither
pub still_agrees : (held : List (Name × List Column)) (cat new : Catalog) (actor : Name) (s : Statement) (r : Result (Unit {0}) Refusal) → IsChange cat new (changed cat actor s) r → columns_after (table_columns cat) s ≡ table_columns cat
    → held ≡ table_columns cat → held ≡ table_columns new
still_agrees held cat new actor s (Ok u) e same agrees = agrees ∙ sym same ∙ sym (keeps_columns cat new actor s e)
still_agrees held cat new actor s (Err why) e same agrees = agrees ∙ ap table_columns (sym e.0)
