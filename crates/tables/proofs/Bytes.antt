-- From the bytes of a reader to rows, over its records.
use Rattle.std.proofs.Common.{ℕ, ◌≡◌, ◌≢◌, List, Option, Some, None, Result, Ok, Err, IfSome, option_map, refl, ap}
use Rattle.std.specs.Prelude.{IsErrOf}
use Rattle.csv_records.specs.declared.RecordError.{RecordError}
use Rattle.memory.specs.declared.failure.Failure.{Failure}
use Rattle.memory.specs.declared.failure.Failure.TheVariants.{Error, OutOfMemory}
use Rattle.csv_records.specs.Left.{records_of}
use Rattle.tables.specs.declared.LoadError.{LoadError}
use Rattle.tables.specs.declared.LoadError.TheVariants as error
use Rattle.tables.specs.Loading.{Fields, UnlessUnread, reported}

-- an error that is reported of a failure is out of memory, unless a row was not read
reported_memory : (why : Failure RecordError) (given : ℕ) (e : Failure LoadError) → e ≡ reported why given → ((row : ℕ) → e ≢ Error (error.Reader row)) → e ≡ OutOfMemory
reported_memory (Error why) given e is read = absurd (read given is)
reported_memory OutOfMemory given e is read = is

-- a fact where no read failed, and at out of memory, holds unless a row was not read
pub unless_failed : {Y : Type 0} (failure : Option (Failure RecordError)) (given : ℕ) (r : Result Y (Failure LoadError)) (fact : Type 0) → (failure ≡ None → fact) → IfSome failure (λ why. IsErrOf r (reported why given))
    → (IsErrOf r OutOfMemory → fact) → UnlessUnread r fact
unless_failed None given (Ok y) fact whole failed memory = whole refl
unless_failed None given (Err e) fact whole failed memory = λ read. whole refl
unless_failed (Some why) given (Ok y) fact whole failed memory = cc failed
unless_failed (Some why) given (Err e) fact whole failed memory = λ read. let is : e ≡ reported why given = cc failed in memory (ap Err (reported_memory why given e is read))

-- the same of each list of records that is known
pub unless_failed_known : {Y : Type 0} (failure : Option (Failure RecordError)) (given : ℕ) (r : Result Y (Failure LoadError)) (fact : List Fields → Type 0) (bytes : Option (List ℕ)) (known : Option (List Fields))
    → known ≡ option_map records_of bytes → (failure ≡ None → IfSome known fact) → IfSome failure (λ why. IsErrOf r (reported why given))
    → ((recs : List Fields) → IsErrOf r OutOfMemory → fact recs) → IfSome bytes (λ b. UnlessUnread r (fact (records_of b)))
unless_failed_known failure given r fact None known is whole failed memory = tt
unless_failed_known failure given r fact (Some b) known is whole failed memory =
    unless_failed failure given r (fact (records_of b)) (λ none. rw is at (whole none)) failed (memory (records_of b))

pub known_of : (fact : List Fields → Type 0) (bytes : Option (List ℕ)) (known : Option (List Fields)) → known ≡ option_map records_of bytes → IfSome known fact → IfSome bytes (λ b. fact (records_of b))
known_of fact None known is h = tt
known_of fact (Some b) known is h = rw is at h
