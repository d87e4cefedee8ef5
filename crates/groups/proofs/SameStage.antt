-- A stage is a function of the bag of its outcomes.
use Rattle.std.proofs.Common.{◌≡◌, List, refl, subst, Result, Ok, Err, Option, Some, None}
use Rattle.std.specs.List.{filter_map}
use Rattle.bags.specs.Least.{least}
use Rattle.bags.proofs.Order.{SameSums}
use Rattle.bags.proofs.Bags.{SameSums-filter_map}
use Rattle.bags.proofs.Least.{least_same}
use Rattle.value.specs.declared.faults.Fault.{Fault}
use Rattle.groups.specs.Stages.{Fate, fault_cmp, fault_in, given_in, unless_fault, stage}
use Rattle.groups.proofs.FaultOrder.{fault_total, fault_exact}

-- the same least fault
pub same_stage : {Y : Type 0} (xs ys : List (Fate Y)) → SameSums xs ys → least fault_cmp (filter_map fault_in xs) ≡ least fault_cmp (filter_map fault_in ys)
same_stage xs ys same = least_same fault_cmp fault_total fault_exact (filter_map fault_in xs) (filter_map fault_in ys) (SameSums-filter_map xs ys same fault_in)

-- the same fault, or the same bag
abbrev pub Alike : {Y : Type 0} → Result (List Y) Fault → Result (List Y) Fault → Type 0
Alike (Ok xs) (Ok ys) = SameSums xs ys
Alike (Err e) (Err f) = e ≡ f
Alike (Ok xs) (Err f) = ⊥
Alike (Err e) (Ok ys) = ⊥

alike_unless : {Y : Type 0} (known : Option Fault) (xs ys : List Y) → SameSums xs ys → Alike (unless_fault known xs) (unless_fault known ys)
alike_unless None xs ys same = same
alike_unless (Some fault) xs ys same = refl

pub alike_stage : {Y : Type 0} (xs ys : List (Fate Y)) → SameSums xs ys → Alike (stage xs) (stage ys)
alike_stage xs ys same =
    subst (λ o. Alike (stage xs) (unless_fault o (filter_map given_in ys))) (same_stage xs ys same)
    (alike_unless (least fault_cmp (filter_map fault_in xs)) (filter_map given_in xs) (filter_map given_in ys) (SameSums-filter_map xs ys same given_in))

-- a relation of the same bags and of the same fault
pub alike_cases : {X : Type 0} (P : Result (List X) Fault → Result (List X) Fault → Type 0) → ((xs ys : List X) → SameSums xs ys → P (Ok xs) (Ok ys)) → ((e : Fault) → P (Err e) (Err e)) →
    (a b : Result (List X) Fault) → Alike a b → P a b
alike_cases P h k (Ok xs) (Ok ys) same = h xs ys same
alike_cases P h k (Err e) (Err f) same = subst (λ g. P (Err e) (Err g)) same (k e)
alike_cases P h k (Ok xs) (Err f) same = absurd same
alike_cases P h k (Err e) (Ok ys) same = absurd same

-- a function is the same where it is the same for the same bags
pub alike_next : {X Z : Type 0} (f : Result (List X) Fault → Z) → ((xs ys : List X) → SameSums xs ys → f (Ok xs) ≡ f (Ok ys)) → (a b : Result (List X) Fault) → Alike a b → f a ≡ f b
alike_next f h a b same = alike_cases (λ x y. f x ≡ f y) h (λ e. refl) a b same
