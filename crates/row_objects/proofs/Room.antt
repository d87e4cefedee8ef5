-- The number of policies of the tables that are left.
use Rattle.std.proofs.Common.{◌≡◌, ℕ, zero, suc, ◌+◌, ◌-◌, ◌<◌, ◌≤◌, true, false, List, [], ◌∷◌, length, drop, map, slice_get, Some, refl, ap, ◌∙◌, arith}
use Rattle.std.proofs.Math.ListN.{drop_of_length-le}
use Rattle.std.proofs.lemmas.List.{length-map}
use Rattle.std.proofs.lemmas.Bool.Decides.{nat_tests}
use Rattle.value.specs.Names.{Name}
use Rattle.row_objects.specs.Objects.{most_policies}
use Rattle.row_objects.specs.Policies.{policy_count, has_policy_room}
use Rattle.row_objects.specs.View.{policy_of, table_entry}
use Rattle.row_objects.specs.declared.objects.TableDef.{TableDef}
use Rattle.row_objects.proofs.Values.{some_value}
use Rattle.memory.proofs.Cases.{none_is_not}

module _ {A : Type 0} where
  -- the policies of the table at an index, and of those after it
  count_next : (es : List (Name × TableDef A)) (i : ℕ) (v : TableDef A) → slice_get (map (λ e. e.1) es) i ≡ Some v
      → policy_count (map table_entry (drop i es)) ≡ length v.policies + policy_count (map table_entry (drop (i + 1) es))
  count_next [] i v h = absurd (none_is_not v h)
  count_next (e ∷ es) zero v h = ap (λ n. n + policy_count (map table_entry es)) (length-map e.1.policies policy_of ∙ ap (λ t. length t.policies) (some_value e.1 v h))
  count_next (e ∷ es) (suc i) v h =
      let more : suc (i + 1) ≡ suc i + 1 = omega arith in
      count_next es i v h ∙ ap (λ n. length v.policies + policy_count (map table_entry (drop n (e ∷ es)))) more

  none_left : (es : List (Name × TableDef A)) (i : ℕ) → length es ≤ i → policy_count (map table_entry (drop i es)) ≡ 0
  none_left es i l = let e : drop i es ≡ [] = drop_of_length-le es l in ap (λ ts. policy_count (map table_entry ts)) e

  -- room is left of the tables before an index
  abbrev pub IsRoom : List (Name × TableDef A) → ℕ → ℕ → Type 0
  IsRoom es i room = (0 < room) × (room + policy_count (map table_entry es) ≡ most_policies + policy_count (map table_entry (drop i es)))

  module _ (es : List (Name × TableDef A)) (i room : ℕ) (is : IsRoom es i room) where
    pub room_goes_on : (v : TableDef A) (n : ℕ) → slice_get (map (λ e. e.1) es) i ≡ Some v → n ≡ length v.policies → n < room → IsRoom es (i + 1) (room - n)
    room_goes_on v n at count less = let s = count_next es i v at in let r = is.1 in (omega arith, omega arith)

    pub no_room : (v : TableDef A) (n : ℕ) → slice_get (map (λ e. e.1) es) i ≡ Some v → n ≡ length v.policies → room ≤ n → false ≡ has_policy_room (map table_entry es)
    no_room v n at count full = let s = count_next es i v at in let r = is.1 in let h : most_policies ≤ policy_count (map table_entry es) = omega arith in grind (arith, nat_tests)
