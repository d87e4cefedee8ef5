-- The records that bytes begin with, as the first of those that are left.
use Rattle.std.proofs.Common.{◌≡◌, ℕ, ◌+◌, Bool, true, false, List, [], ◌∷◌, ◌++◌, length, drop, Option, Some, None, option_map, refl, ap, ◌∙◌, add-one}
use Rattle.std.specs.Prelude.{IfSome}
use Rattle.std.specs.Io.KnownBytes.{Keeps}
use Rattle.csv.specs.Machine.{next_record}
use Rattle.csv.specs.Reading.{default_config, records_from, records_next}
use Rattle.csv.specs.declared.parser.State.{State}
use Rattle.csv.specs.declared.parser.State.TheVariants as st
use Rattle.csv_records.specs.Fields.{fields_from}
use Rattle.csv_records.specs.Left.{TakesFirst, records_after}
use Rattle.csv_records.specs.Machine.{settled}
use Rattle.csv_records.specs.Records.{IsPlainRecord, SameNextKnown, StartsWithRecord, TakesRecord}
use Rattle.csv_records.proofs.LeftFacts.{records_after-none, records_after-some}
use Rattle.csv_records.proofs.MachineFacts.{settle}

-- a plain record at the start of the bytes that are held is one of all that are left
pub plain_left : (bytes held ends : List ℕ) (count : ℕ) (left : Option (List ℕ)) → bytes ≡ held → IsPlainRecord bytes count ends → IfSome left (λ xs. (more : List ℕ) × (xs ≡ held ++ more))
    → IfSome left (λ xs. StartsWithRecord xs (fields_from held 0 ends) (drop (count + 1) xs))
plain_left bytes held ends count None is plain starts = tt
plain_left bytes held ends count (Some xs) is plain (more, starts) = rw (starts, ← is) (plain.2 more)

records_settled : (s : State) (xs : List ℕ) → settled s ≡ st.StartRecord → records_after s xs ≡ records_after st.StartRecord xs
unfolding records_from
records_settled s xs is = rw add-one (ap (records_next (records_from default_config (length xs))) (settle s [] [] xs ∙ ap (λ t. next_record default_config t [] [] xs) is))

first_of : (xs ys : List ℕ) (fields : List (List ℕ)) → StartsWithRecord xs fields ys → records_after st.StartRecord xs ≡ fields ∷ records_after st.StartRecord ys
first_of xs ys fields (s, is, next) = records_after-some st.StartRecord xs (fields, s, ys) next ∙ ap (λ rs. fields ∷ rs) (records_settled s ys is)

takes : (xs ys : List ℕ) (fields : List (List ℕ)) → StartsWithRecord xs fields ys → TakesFirst (Some (records_after st.StartRecord xs)) (Some (records_after st.StartRecord ys)) true fields
takes xs ys fields starts = rw (first_of xs ys fields starts) (refl, refl, refl)

takes_no : (xs : List ℕ) (after : Option (List (List (List ℕ)))) (fields : List (List ℕ)) → next_record default_config st.StartRecord [] [] xs ≡ None → TakesFirst (Some (records_after st.StartRecord xs)) after false fields
takes_no xs after fields none = rw (records_after-none st.StartRecord xs none) refl

-- of the bytes f xs for known bytes xs
takes_plain : (f : List ℕ → List ℕ) (left mid new : Option (List ℕ)) (count : ℕ) (fields : List (List ℕ)) → Keeps (option_map f left) mid → SameNextKnown mid new → IfSome new (λ xs. StartsWithRecord xs fields (drop count xs))
    → TakesFirst (option_map (λ xs. records_after st.StartRecord (f xs)) left) (option_map (λ xs. records_after st.StartRecord (drop count xs)) new) true fields
takes_plain f None mid new count fields kept same starts = tt
takes_plain f (Some xs) None new count fields kept same starts = absurd kept
takes_plain f (Some xs) (Some ys) None count fields kept same starts = absurd same
takes_plain f (Some xs) (Some ys) (Some zs) count fields kept same (s, is, next) = rw (← kept) (takes ys (drop count zs) fields (s, is, same ∙ next))

takes_copied : (f : List ℕ → List ℕ) (left mid new last : Option (List ℕ)) (found : Bool) (fields : List (List ℕ)) → Keeps (option_map f left) mid → SameNextKnown mid new → TakesRecord new last found fields
    → TakesFirst (option_map (λ xs. records_after st.StartRecord (f xs)) left) (option_map (λ xs. records_after st.StartRecord xs) last) found fields
takes_copied f None mid new last found fields kept same reads = tt
takes_copied f (Some xs) None new last found fields kept same reads = absurd kept
takes_copied f (Some xs) (Some ys) None last found fields kept same reads = absurd same
takes_copied f (Some xs) (Some ys) (Some zs) None found fields kept same reads = absurd reads
takes_copied f (Some xs) (Some ys) (Some zs) (Some ws) true fields kept same (s, is, next) = rw (← kept) (takes ys ws fields (s, is, same ∙ next))
takes_copied f (Some xs) (Some ys) (Some zs) (Some ws) false fields kept same none = rw (← kept) (takes_no ys _ fields (same ∙ none))

-- the same where the records that were left are seen as such
pub seen_plain : (old : Option (List (List (List ℕ)))) (f : List ℕ → List ℕ) (left mid new : Option (List ℕ)) (count : ℕ) (fields : List (List ℕ)) → option_map (λ xs. records_after st.StartRecord (f xs)) left ≡ old
    → Keeps (option_map f left) mid → SameNextKnown mid new → IfSome new (λ xs. StartsWithRecord xs fields (drop count xs)) → TakesFirst old (option_map (λ xs. records_after st.StartRecord (drop count xs)) new) true fields
seen_plain old f left mid new count fields is kept same starts = rw (← is) (takes_plain f left mid new count fields kept same starts)

pub seen_copied : (old : Option (List (List (List ℕ)))) (f : List ℕ → List ℕ) (left mid new last : Option (List ℕ)) (found : Bool) (fields : List (List ℕ)) → option_map (λ xs. records_after st.StartRecord (f xs)) left ≡ old
    → Keeps (option_map f left) mid → SameNextKnown mid new → TakesRecord new last found fields → TakesFirst old (option_map (λ xs. records_after st.StartRecord xs) last) found fields
seen_copied old f left mid new last found fields is kept same reads = rw (← is) (takes_copied f left mid new last found fields kept same reads)
