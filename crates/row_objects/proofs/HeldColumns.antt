-- The columns on which a role holds grants, one grant after another.
use Rattle.std.proofs.Common.{◌≡◌, ℕ, ◌+◌, ◌<◌, ◌≤◌, Bool, true, false, cond, ◌&&◌, ◌||◌, List, [], ◌∷◌, ◌++◌, length, map, drop, get_or, Option, Some, None, bytes_eq, refl, sym, ap, ◌∙◌}
use Rattle.std.proofs.Math.Bool.{or_assoc, or-false}
use Rattle.std.proofs.lemmas.List.{at_drop_more, at_drop_all}
use Rattle.std.proofs.lemmas.List.Folds.{list_any-append}
use Rattle.std.specs.Cmp.{both_ways}
use Rattle.std.specs.List.{list_any}
use Rattle.value.specs.Names.{Name}
use Rattle.row_objects.specs.Grants.{Grant, has_grant, same_grant, with_grant}
use Rattle.row_objects.specs.HeldColumns.{on_column, AreHeld}
use Rattle.row_objects.proofs.GrantSets.{bytes_same}
use Rattle.row_objects.proofs.Marks.{false_is_not}
use Rattle.row_objects.proofs.Paths.{text_same, same_text}

eq_turned : (a b : Name) → bytes_eq a b ≡ bytes_eq b a
eq_turned a b = both_ways _ _ (λ h. same_text b a (sym (text_same a b h))) (λ h. same_text a b (sym (text_same b a h)))

-- ---- the columns of one more grant

-- one on a column has that
pub held_of_column : (held : List Name) (g : Grant) (to name column : Name) → bytes_eq g.to to ≡ true → g.column ≡ Some name → list_any (bytes_eq column) (held ++ name ∷ []) ≡ (list_any (bytes_eq column) held || same_grant g (on_column to column))
held_of_column held g to name column same on =
    rw (same, on) (list_any-append (bytes_eq column) held (name ∷ []) ∙ ap (λ b. list_any (bytes_eq column) held || b) (or-false (bytes_eq column name) ∙ eq_turned column name))

-- ---- a walk over grants

module _ {X : Type 0} (view : X → Grant) (xs : List X) (k : ℕ) (to : Name) (held : List Name)
    (so_far : (column : Name) → (list_any (bytes_eq column) held || has_grant (map view (drop k xs)) (on_column to column)) ≡ has_grant (map view xs) (on_column to column)) where
  pub held_next : (x : X) → k < length xs → x ≡ get_or xs k x → (new : List Name) → ((column : Name) → list_any (bytes_eq column) new ≡ (list_any (bytes_eq column) held || same_grant (view x) (on_column to column)))
      → (column : Name) → (list_any (bytes_eq column) new || has_grant (map view (drop (k + 1) xs)) (on_column to column)) ≡ has_grant (map view xs) (on_column to column)
  held_next x more is new step column =
      let rest : Bool = has_grant (map view (drop (k + 1) xs)) (on_column to column) in
      let here : has_grant (map view (drop k xs)) (on_column to column) ≡ (same_grant (view x) (on_column to column) || rest) =
      at_drop_more (λ l. has_grant (map view l) (on_column to column)) xs k x more ∙ ap (λ y. same_grant (view y) (on_column to column) || rest) (sym is) in
      ap (λ b. b || rest) (step column)
      ∙ or_assoc (list_any (bytes_eq column) held) (same_grant (view x) (on_column to column)) rest
      ∙ ap (λ b. list_any (bytes_eq column) held || b) (sym here)
      ∙ so_far column

  pub held_all : length xs ≤ k → AreHeld (map view xs) to held
  held_all past = λ column.
      sym (or-false (list_any (bytes_eq column) held))
      ∙ ap (λ b. list_any (bytes_eq column) held || b) (sym (at_drop_all (λ l. has_grant (map view l) (on_column to column)) xs k past))
      ∙ so_far column

-- ---- one more grant on a column

-- one that is held is not added
pub held_already : (gs : List Grant) (to column : Name) (held : List Name) → AreHeld gs to held → list_any (bytes_eq column) held ≡ true → gs ≡ with_grant gs (on_column to column)
held_already gs to column held are h = let there : has_grant gs (on_column to column) ≡ true = sym (are column) ∙ h in rw there refl

pub not_held : (gs : List Grant) (to column : Name) (held : List Name) → AreHeld gs to held → list_any (bytes_eq column) held ≡ false → gs ++ on_column to column ∷ [] ≡ with_grant gs (on_column to column)
not_held gs to column held are h = let there : has_grant gs (on_column to column) ≡ false = sym (are column) ∙ h in rw there refl

held_more : (gs : List Grant) (to name : Name) (held : List Name) → AreHeld gs to held → AreHeld (gs ++ on_column to name ∷ []) to (held ++ name ∷ [])
held_more gs to name held are = λ column.
    held_of_column held (on_column to name) to name column (bytes_same to) refl
    ∙ ap (λ b. b || same_grant (on_column to name) (on_column to column)) (are column)
    ∙ ap (λ b. has_grant gs (on_column to column) || b) (sym (or-false (same_grant (on_column to name) (on_column to column))))
    ∙ sym (list_any-append (λ held. same_grant held (on_column to column)) gs (on_column to name ∷ []))

pub held_after : (gs new : List Grant) (to name : Name) (held more : List Name) → AreHeld gs to held → new ≡ gs ++ on_column to name ∷ [] → more ≡ held ++ name ∷ [] → AreHeld new to more
held_after gs new to name held more are n m = rw (n, m) (held_more gs to name held are)
