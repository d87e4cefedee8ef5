-- A table changed at its index.
use Rattle.std.proofs.Common.{◌≡◌, ℕ, zero, suc, List, [], ◌∷◌, ◌++◌, map, slice_get, Option, Some, refl, sym, ap, ◌∙◌}
use Rattle.std.proofs.lemmas.List.{map-append}
use Rattle.value.specs.Names.{Name}
use Rattle.row_objects.specs.Named.{set_value_at}
use Rattle.row_objects.specs.TableChanges.{changed_at, with_last}

module _ {V E : Type 0} (v : Name × V → E) where
  some_value : (x y : V) → ◌≡◌ {A = Option V} (Some x) (Some y) → x ≡ y
  some_value x y e = cc

  -- a thing written at an index
  pub written_at : (f : E → E) (es : List (Name × V)) (i : ℕ) (old new : V) → slice_get (map (λ e. e.1) es) i ≡ Some old → ((n : Name) → v (n, new) ≡ f (v (n, old))) → map v (set_value_at es i new) ≡ changed_at i f (map v es)
  written_at f [] i old new at h = refl
  written_at f (e ∷ es) zero old new at h = ap (λ x. x ∷ map v es) (h e.0 ∙ ap (λ (x : V). f (v (e.0, x))) (sym (some_value e.1 old at)))
  written_at f (e ∷ es) (suc i) old new at h = ap (λ l. v e ∷ l) (written_at f es i old new at h)

  -- a thing that is the same there
  pub unchanged_at : (es : List (Name × V)) (i : ℕ) (old new : V) → slice_get (map (λ e. e.1) es) i ≡ Some old → ((n : Name) → v (n, new) ≡ v (n, old)) → map v (set_value_at es i new) ≡ map v es
  unchanged_at [] i old new at h = refl
  unchanged_at (e ∷ es) zero old new at h = ap (λ x. x ∷ map v es) (h e.0 ∙ ap (λ (x : V). v (e.0, x)) (sym (some_value e.1 old at)))
  unchanged_at (e ∷ es) (suc i) old new at h = ap (λ l. v e ∷ l) (unchanged_at es i old new at h)

-- one more at the end, through a view

pub one_more : {X Y : Type 0} (f : X → Y) (old new : List X) (x : X) (y : Y) → new ≡ old ++ x ∷ [] → f x ≡ y → map f new ≡ map f old ++ y ∷ []
one_more f old new x y e is = ap (map f) e ∙ map-append f old (x ∷ []) ∙ ap (λ z. map f old ++ z ∷ []) is

pub one_made : {X Y : Type 0} (f : X → Y) (old new : List X) (x : X) (o : Option Y) → new ≡ old ++ x ∷ [] → Some (f x) ≡ o → map f new ≡ with_last (map f old) o
one_made f old new x o e is = one_more f old new x (f x) e refl ∙ ap (with_last (map f old)) is
