-- What holds of each value that is kept of a list, or given by a stage.
use Rattle.std.proofs.Common.{◌≡◌, List, [], ◌∷◌, map, Option, Some, None, Result, Ok, Err, subst}
use Rattle.std.specs.Prelude.{IfOk, IfSome}
use Rattle.std.specs.List.{All, cons_option, filter_map, flat_map}
use Rattle.std.proofs.lemmas.List.Elements.{All-append, All-cons, All-head, All-map, All-nil, All-tail}
use Rattle.memory.proofs.Cases.{ok_is}
use Rattle.bags.specs.Least.{least}
use Rattle.value.specs.declared.faults.Fault.{Fault}
use Rattle.groups.specs.Stages.{fault_cmp, fault_in, given_in, gives, stage, unless_fault}

module _ {Y : Type 0} (P : Y → Type 0) where
  with_option : (o : Option Y) (ys : List Y) → IfSome o P → All P ys → All P (cons_option o ys)
  with_option None ys h k = k
  with_option (Some y) ys h k = All-cons P y ys h k

  pub all_kept : {X : Type 0} (f : X → Option Y) (xs : List X) → All (λ x. IfSome (f x) P) xs → All P (filter_map f xs)
  all_kept f [] h = All-nil P
  all_kept f (x ∷ xs) h = with_option (f x) (filter_map f xs) (All-head (λ x. IfSome (f x) P) x xs h) (all_kept f xs (All-tail (λ x. IfSome (f x) P) x xs h))

  pub all_of_each : {X : Type 0} (f : X → List Y) (xs : List X) → All (λ x. All P (f x)) xs → All P (flat_map f xs)
  all_of_each f [] h = All-nil P
  all_of_each f (x ∷ xs) h = All-append P (f x) (flat_map f xs) (All-head (λ x. All P (f x)) x xs h) (all_of_each f xs (All-tail (λ x. All P (f x)) x xs h))

  -- ---- a stage

  given_fits : (r : Result Y Fault) → IfOk r P → IfSome (given_in (gives r)) P
  given_fits (Ok y) h = h
  given_fits (Err fault) h = tt

  no_fault : (o : Option Fault) (given ys : List Y) → unless_fault o given ≡ Ok ys → given ≡ ys
  no_fault None given ys e = ok_is given ys e
  no_fault (Some fault) given ys e = absurd (cc)

  pub all_given : {X : Type 0} (f : X → Result Y Fault) (xs : List X) (ys : List Y) → All (λ x. IfOk (f x) P) xs → stage (map (λ x. gives (f x)) xs) ≡ Ok ys → All P ys
  all_given f xs ys h e =
      let fates = map (λ x. gives (f x)) xs in
      subst (All P) (no_fault (least fault_cmp (filter_map fault_in fates)) (filter_map given_in fates) ys e)
      (all_kept given_in fates (All-map (λ fate. IfSome (given_in fate) P) (λ x. gives (f x)) xs (λ k d lt. given_fits (f _) (h k d lt))))
