-- The values of the aggregates of an admitted query on its groups.
use Rattle.std.proofs.Common.{◌≡◌, List, [], ◌∷◌, map, Option, Some, None, Result, Ok, Err, refl, subst}
use Rattle.std.specs.List.{AllZip, cons_option, filter_map}
use Rattle.memory.proofs.Cases.{ok_is}
use Rattle.bags.specs.Least.{least}
use Rattle.value.specs.declared.faults.Fault.{Fault}
use Rattle.groups.specs.Stages.{Fate, fault_cmp, fault_in, given_in, gives, stage, unless_fault}
use Rattle.tuples.specs.Combinations.{joined_cells}
use Rattle.groups.specs.Members.{member_on}
use Rattle.groups.proofs.ClassValues.{aggregates_of_classes, no_least}
use Rattle.report.specs.QueryStages.{query_aggregates}
use Rattle.group_laws.specs.Groups.{AggregatesHaveValues}
use Rattle.group_laws.specs.Offsets.{AggregatesHaveOffsets}

-- ---- a stage without faults gives the value of each

no_fault : {Y : Type 0} (o : Option Fault) (given ys : List Y) → unless_fault o given ≡ Ok ys → (o ≡ None) × (given ≡ ys)
no_fault None given ys e = (refl, ok_is given ys e)
no_fault (Some f) given ys e = absurd (cc)

module _ {X Z Y : Type 0} (f : Z → Result Y Fault) (view : X → Z) where
  abbrev fates : List X → List (Fate Y)
  fates xs = map (λ x. gives (f (view x))) xs

  abbrev worst : List X → Option Fault
  worst xs = least fault_cmp (filter_map fault_in (fates xs))

  abbrev AreGiven : List X → List Y → Type 0
  AreGiven xs ys = AllZip (λ z y. f z ≡ Ok y) (map view xs) ys

  all_given : (xs : List X) → worst xs ≡ None → AreGiven xs (filter_map given_in (fates xs))
  all_given [] e = tt
  all_given (x ∷ xs) e = go (f (view x)) refl (all_given xs) e
    where
      go : (r : Result Y Fault) → f (view x) ≡ r → (worst xs ≡ None → AreGiven xs (filter_map given_in (fates xs)))
          → least fault_cmp (cons_option (fault_in (gives r)) (filter_map fault_in (fates xs))) ≡ None → AreGiven (x ∷ xs) (cons_option (given_in (gives r)) (filter_map given_in (fates xs)))
      go (Ok y) is rest e = (is, rest e)
      go (Err fault) is rest e = absurd (no_least fault (worst xs) e)

  each_given : (xs : List X) (ys : List Y) → stage (fates xs) ≡ Ok ys → AreGiven xs ys
  each_given xs ys e =
      let it = no_fault (worst xs) (filter_map given_in (fates xs)) ys e in
      subst (AreGiven xs) it.1 (all_given xs it.0)

-- ---- the law

pub have_values : AggregatesHaveOffsets → AggregatesHaveValues
have_values offsets cat role text b these members groups e given_members given_groups =
    let calls = query_aggregates b.query in
    aggregates_of_classes role b.query.group_by calls (map joined_cells these) members groups (offsets cat role text b e)
    (each_given (λ cells. member_on cells role b.query.group_by calls) joined_cells these members given_members) given_groups
