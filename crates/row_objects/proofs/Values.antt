-- Tests of the tables one after another.
use Rattle.std.proofs.Common.{◌≡◌, ℕ, zero, suc, ◌+◌, Bool, true, false, ◌||◌, List, [], ◌∷◌, drop, map, slice_get, Option, Some, sym, ap, ◌∙◌, arith}
use Rattle.std.specs.List.{list_any}
use Rattle.memory.proofs.Cases.{none_is_not}
use Rattle.value.specs.Names.{Name}
use Rattle.row_objects.specs.Indexes.{any_index, has_index}
use Rattle.row_objects.specs.View.{index_of, table_entry}
use Rattle.row_objects.specs.declared.objects.TableDef.{TableDef}
use Rattle.expr.proofs.Lists.{any_map}

pub some_value : {V : Type 0} (x y : V) → ◌≡◌ {A = Option V} (Some x) (Some y) → x ≡ y
some_value x y e = cc

-- the thing at an index, and those after it
any_next : {N V : Type 0} (q : V → Bool) (es : List (N × V)) (i : ℕ) (v : V) → slice_get (map (λ e. e.1) es) i ≡ Some v → list_any (λ e. q e.1) (drop i es) ≡ (q v || list_any (λ e. q e.1) (drop (i + 1) es))
any_next q [] i v h = absurd (none_is_not v h)
any_next q (e ∷ es) zero v h = ap (λ w. q w || list_any (λ e. q e.1) es) (some_value e.1 v h)
any_next q (e ∷ es) (suc i) v h =
    let more : suc (i + 1) ≡ suc i + 1 = omega arith in
    any_next q es i v h ∙ ap (λ n. q v || list_any (λ e. q e.1) (drop n (e ∷ es))) more

module _ {A : Type 0} (name : Name) where
  abbrev has : TableDef A → Bool
  has t = has_index name (map index_of t.indexes)

  by_things : (es : List (Name × TableDef A)) → any_index name (map table_entry es) ≡ list_any (λ e. has e.1) es
  by_things es = any_map (λ t. has_index name t.indexes) table_entry es

  next_table : (es : List (Name × TableDef A)) (i : ℕ) (v : TableDef A) (b : Bool) → slice_get (map (λ e. e.1) es) i ≡ Some v → b ≡ has v → any_index name (map table_entry (drop i es)) ≡ (b || any_index name (map table_entry (drop (i + 1) es)))
  next_table es i v b at is =
      by_things (drop i es) ∙ any_next has es i v at ∙ ap (λ c. c || list_any (λ e. has e.1) (drop (i + 1) es)) (sym is) ∙ ap (λ c. b || c) (sym (by_things (drop (i + 1) es)))

  -- none there
  pub further : (es : List (Name × TableDef A)) (i : ℕ) (v : TableDef A) (b : Bool) → slice_get (map (λ e. e.1) es) i ≡ Some v → b ≡ has v → b ≡ false → any_index name (map table_entry (drop (i + 1) es)) ≡ any_index name (map table_entry (drop i es))
  further es i v b at is e = sym (next_table es i v b at is ∙ ap (λ c. c || any_index name (map table_entry (drop (i + 1) es))) e)

  -- one there
  pub there : (es : List (Name × TableDef A)) (i : ℕ) (v : TableDef A) (b : Bool) → slice_get (map (λ e. e.1) es) i ≡ Some v → b ≡ has v → b ≡ true → true ≡ any_index name (map table_entry (drop i es))
  there es i v b at is e = sym (next_table es i v b at is ∙ ap (λ c. c || any_index name (map table_entry (drop (i + 1) es))) e)
