-- Names that are distinct, and one more that is new to them.
use Rattle.std.proofs.Common.{◌≡◌, Bool, true, false, cond, ◌||◌, List, [], ◌∷◌, ◌++◌, map, find, Some, is_some, bytes_eq, refl, sym, ap, ◌∙◌}
use Rattle.std.proofs.lemmas.Bool.{or_from, or_parts}
use Rattle.std.proofs.lemmas.List.{map-append}
use Rattle.std.proofs.lemmas.List.Folds.{list_any-append}
use Rattle.std.proofs.lemmas.Map.Keys.{IsDistinct-push}
use Rattle.std.proofs.lemmas.Cmp.{nat_list_eq_equiv}
use Rattle.std.specs.List.{flat_map, list_any}
use Rattle.value.specs.Columns.{Column}
use Rattle.value.specs.Names.{Name}
use Rattle.row_objects.specs.ColumnNames.{has_name, has_name_twice}
use Rattle.row_objects.specs.Indexes.{any_index, has_index}
use Rattle.row_objects.specs.Objects.{Table}
use Rattle.catalog_laws.specs.WellFormed.{AreDistinct}
use Rattle.catalog_laws.proofs.Distinct.{none_distinct, with_head, with_one}
use Rattle.expr.proofs.Lists.{any_map}

pub found_any : {X : Type 0} (p : X → Bool) (xs : List X) → is_some (find p xs) ≡ list_any p xs
found_any p [] = refl
found_any p (x ∷ xs) = go (p x) (found_any p xs)
  where
    go : (b : Bool) → is_some (find p xs) ≡ list_any p xs → is_some (cond b (Some x) (find p xs)) ≡ (b || list_any p xs)
    go true more = refl
    go false more = more

-- a thing of a new name at the end
module _ {X : Type 0} (f : X → Name) (xs : List X) (x : X) (distinct : AreDistinct (map f xs)) where
  pub one_more_name : list_any (λ y. bytes_eq (f x) (f y)) xs ≡ false → AreDistinct (map f (xs ++ x ∷ []))
  one_more_name new = rw map-append (IsDistinct-push nat_list_eq_equiv (map f xs) (f x) distinct (any_map (bytes_eq (f x)) f xs ∙ new))

-- the columns of a new table
pub column_names_differ : (cs : List Column) → has_name_twice cs ≡ false → AreDistinct (map (λ column. column.name) cs)
column_names_differ [] h = none_distinct bytes_eq
column_names_differ (c ∷ cs) h =
    let both = or_parts (has_name c.name cs) (has_name_twice cs) h in
    with_head bytes_eq c.name (map (λ column. column.name) cs) (any_map (bytes_eq c.name) (λ column. column.name) cs ∙ both.0) (column_names_differ cs both.1)

-- ---- the names of indexes

abbrev pub its_index_names : Table → List Name
its_index_names t = map (λ i. i.name) t.indexes

pub no_such_index : (name : Name) (ts : List Table) → list_any (bytes_eq name) (flat_map its_index_names ts) ≡ any_index name ts
no_such_index name [] = refl
no_such_index name (t ∷ ts) =
    list_any-append (bytes_eq name) (its_index_names t) (flat_map its_index_names ts)
    ∙ ap (λ b. b || list_any (bytes_eq name) (flat_map its_index_names ts)) (any_map (bytes_eq name) (λ i. i.name) t.indexes)
    ∙ ap (λ b. has_index name t.indexes || b) (no_such_index name ts)

-- a name that no table and no index has
pub new_relation : (name : Name) (ts : List Table) → is_some (find (λ t. bytes_eq name t.name) ts) ≡ false → any_index name ts ≡ false → list_any (bytes_eq name) (map (λ t. t.name) ts ++ flat_map its_index_names ts) ≡ false
new_relation name ts no_table no_index =
    list_any-append (bytes_eq name) (map (λ t. t.name) ts) (flat_map its_index_names ts)
    ∙ or_from _ _ (any_map (bytes_eq name) (λ t. t.name) ts ∙ sym (found_any (λ t. bytes_eq name t.name) ts) ∙ no_table) (no_such_index name ts ∙ no_index)

-- one more name, between others
pub one_between : (before after : List Name) (name : Name) → list_any (bytes_eq name) (before ++ after) ≡ false → AreDistinct (before ++ after) → AreDistinct (before ++ name ∷ after)
one_between before after name new distinct = with_one bytes_eq nat_list_eq_equiv.symm before name after new distinct
