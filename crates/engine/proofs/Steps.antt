-- The tables of a world are the rows that the role sees of each entry.
use Rattle.std.proofs.Common.{◌≡◌, ◌⊎◌, inl, inr, suc, Bool, cond, List, [], ◌∷◌, ◌++◌, length, map, filter, refl, sym, ap, ap₂, ◌∙◌, append_assoc, append-nil, arith}
use Rattle.std.proofs.lemmas.List.{length-map, map-append}
use Rattle.std.proofs.lemmas.Simd.{map-map}
use Rattle.memory.proofs.Cases.{nil_is_not}
use Rattle.value.specs.Datum.{Row}
use Rattle.value.specs.Names.{Name}
use Rattle.scope.specs.Entry.{Entry}
use Rattle.catalog.specs.Catalog.{Catalog}
use Rattle.access.specs.Access.{sees}
use Rattle.tuples.specs.Guards.{Guard, shows}
use Rattle.tuples.specs.World.{GuardedTable, seen_rows}
use Rattle.store.specs.Database.{Rows}
use Rattle.engine.specs.Answer.{seen}
use Rattle.engine.specs.Guarded.{guarded_tables}

-- tests that are the same keep the same
pub filter_same : {X : Type 0} (p q : X → Bool) → ((x : X) → p x ≡ q x) → (xs : List X) → filter p xs ≡ filter q xs
filter_same p q same [] = refl
filter_same p q same (x ∷ xs) = ap (λ b. cond b (x ∷ filter p xs) (filter p xs)) (same x) ∙ ap (λ l. cond (q x) (x ∷ l) l) (filter_same p q same xs)

pub first_is : (b c : Bool) (bs cs : List Bool) → b ∷ bs ≡ c ∷ cs → b ≡ c
first_is b c bs cs e = cc

pub others_are : (b c : Bool) (bs cs : List Bool) → b ∷ bs ≡ c ∷ cs → bs ≡ cs
others_are b c bs cs e = cc

-- guards that show the rows that the role sees of each entry leave those rows
module _ {E G : Type 0} (entry : E → Entry) (guard : G → Guard) (cat : Catalog) (rows : Rows) (role : Name) where
  pub seen_are : (es : List E) (gs : List G) → ((row : Row) → map (λ g. shows role (guard g) row) gs ≡ map (λ e. sees cat role (entry e).table row) es) →
      map (seen_rows role) (guarded_tables rows (map entry es) (map guard gs)) ≡ seen cat rows role (map entry es)
  seen_are [] gs same = refl
  seen_are (e ∷ es) [] same = absurd (nil_is_not _ _ (same []))
  seen_are (e ∷ es) (g ∷ gs) same =
      ap₂ ◌∷◌ (filter_same (shows role (guard g)) (sees cat role (entry e).table) (λ row. first_is _ _ _ _ (same row)) (rows (entry e).table.name))
      (seen_are es gs (λ row. others_are _ _ _ _ (same row)))

-- guards that show what is seen of entries, by the views of both
pub seen_by_views : {E G : Type 0} (entry : E → Entry) (guard : G → Guard) (p : Guard → Bool) (q : Entry → Bool) (es : List E) (gs : List G) (frame : List Guard) → map guard gs ≡ frame → map p frame ≡ map q (map entry es) → map (λ g. p (guard g)) gs ≡ map (λ e. q (entry e)) es
seen_by_views entry guard p q es gs frame is same = sym (map-map p guard gs) ∙ ap (map p) is ∙ same ∙ map-map q entry es

-- lists that are the same by tests are as long
pub as_long : {X Y : Type 0} (p : X → Bool) (q : Y → Bool) (xs : List X) (ys : List Y) → map p xs ≡ map q ys → length xs ≡ length ys
as_long p q xs ys same = sym (length-map xs p) ∙ ap length same ∙ length-map ys q

-- each table has its guard
module _ {E G : Type 0} (entry : E → Entry) (guard : G → Guard) (rows : Rows) where
  guards_are : (es : List E) (gs : List G) → length gs ≡ length es → map (λ t. t.guard) (guarded_tables rows (map entry es) (map guard gs)) ≡ map guard gs
  guards_are [] [] same = refl
  guards_are [] (g ∷ gs) same = absurd (omega (arith, same))
  guards_are (e ∷ es) [] same = absurd (omega (arith, same))
  guards_are (e ∷ es) (g ∷ gs) same = ap (λ l. guard g ∷ l) (guards_are es gs (omega (arith, same)))

  as_many : (es : List E) (gs : List G) → length gs ≡ length es → length (guarded_tables rows (map entry es) (map guard gs)) ≡ length es
  as_many [] [] same = refl
  as_many [] (g ∷ gs) same = absurd (omega (arith, same))
  as_many (e ∷ es) [] same = absurd (omega (arith, same))
  as_many (e ∷ es) (g ∷ gs) same = ap suc (as_many es gs (omega (arith, same)))

  module _ {T : Type 0} (table : T → GuardedTable) (es : List E) (gs : List G) (ts : List T) (made : map table ts ≡ guarded_tables rows (map entry es) (map guard gs)) (same : length gs ≡ length es) where
    pub their_guards : map (λ t. t.guard) (map table ts) ≡ map guard gs
    their_guards = ap (map (λ t. t.guard)) made ∙ guards_are es gs same

    pub each_has_table : length ts ≡ length (map entry es)
    each_has_table =
        let n = ap length made in
        omega (arith, n, length-map ts table, length-map es entry, as_many es gs same)

-- ---- the walk that guards tables

no_guards : (rows : Rows) (es : List Entry) → guarded_tables rows es [] ≡ []
no_guards rows [] = refl
no_guards rows (e ∷ es) = refl

module _ {E G T : Type 0} (entry : E → Entry) (guard : G → Guard) (table : T → GuardedTable) (rows : Rows) where
  abbrev to_come : List E → List G → List GuardedTable
  to_come es gs = guarded_tables rows (map entry es) (map guard gs)

  pub next_table : (ts : List T) (es es' : List E) (gs gs' : List G) (e : E) (g : G) (t : T) (new : List T) {whole : List GuardedTable} → es ≡ e ∷ es' → gs ≡ g ∷ gs' → new ≡ ts ++ t ∷ [] →
      (table t).rows ≡ rows (entry e).table.name → (table t).guard ≡ guard g → map table ts ++ to_come es gs ≡ whole → map table new ++ to_come es' gs' ≡ whole
  next_table ts es es' gs gs' e g t new of_es of_gs made same_rows same_guard so_far =
      let next : GuardedTable = record { rows = rows (entry e).table.name; guard = guard g } in
      let same : table t ≡ next = ap₂ (λ r g'. record { rows = r; guard = g' }) same_rows same_guard in
      ap (λ l. map table l ++ to_come es' gs') made
      ∙ ap (λ l. l ++ to_come es' gs') (map-append table ts (t ∷ []))
      ∙ append_assoc (map table ts) (table t ∷ []) (to_come es' gs')
      ∙ ap (λ x. map table ts ++ x ∷ to_come es' gs') same
      ∙ ap₂ (λ xs ys. map table ts ++ to_come xs ys) (sym of_es) (sym of_gs)
      ∙ so_far

  pub no_more_tables : (ts : List T) (es : List E) (gs : List G) {whole : List GuardedTable} → (es ≡ []) ⊎ (gs ≡ []) → map table ts ++ to_come es gs ≡ whole → map table ts ≡ whole
  no_more_tables ts es gs (inl none) so_far = sym (append-nil (map table ts)) ∙ ap (λ xs. map table ts ++ to_come xs gs) (sym none) ∙ so_far
  no_more_tables ts es gs (inr none) so_far = sym (append-nil (map table ts)) ∙ ap (λ l. map table ts ++ l) (sym (no_guards rows (map entry es))) ∙ ap (λ ys. map table ts ++ to_come es ys) (sym none) ∙ so_far
