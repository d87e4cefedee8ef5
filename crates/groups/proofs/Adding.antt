-- The arguments of a member, added to the totals of its group one after the other.
use Rattle.std.proofs.Common.{◌≡◌, ℕ, zero, suc, ◌+◌, ◌<◌, ◌≤◌, List, [], ◌∷◌, drop, length, get_or, slice_set, refl, sym, ap, subst, ◌∙◌, arith, Option, Result, Ok, Err, IsErrAnd}
use Rattle.memory.specs.Results.{and_then, first_then}
use Rattle.memory.specs.declared.failure.Failure.{Failure}
use Rattle.memory.proofs.Cases.{ok_is}
use Rattle.value.specs.Datum.{Datum, Row}
use Rattle.value.specs.declared.faults.Fault.{Fault}
use Rattle.expr.specs.Aggregates.{AggregateCall}
use Rattle.eval.specs.Meaning.{Outcome}
use Rattle.groups.specs.declared.totals.Total as code
use Rattle.groups.specs.Aggregates.{not_null}
use Rattle.groups.specs.Members.{with_key}
use Rattle.groups.specs.Progress.{HasMemory}
use Rattle.groups.specs.Running.{AreOutcomesInPlace, IsArgumentInPlace, RunningGroup, Total, put_running, with_argument, with_argument_at, with_arguments}
use Rattle.groups.specs.View.{total_of, totals_of}

-- the memory that a call had is there where `?` hands its failure on
pub has_memory : {X : Type 0} (r : Result X (Failure Fault)) (failure : Failure Fault) → IsErrAnd r (λ e. e ≡ failure) → HasMemory {Y = X} (Err failure) → HasMemory r
has_memory (Ok x) failure is h = absurd is
has_memory {X = X} (Err e) failure is h = subst (λ f. HasMemory {Y = X} (Err f)) (sym is) h

-- ---- one argument

module _ {A : Type 0} where
  -- the total at its index is in place for it
  pub place_at : (ts : List (code.Total A)) (i : ℕ) (t : code.Total A) (d : Datum) (os : List Outcome) → i < length ts → t ≡ get_or ts i t → AreOutcomesInPlace (drop i (totals_of ts)) (Ok d ∷ os) → IsArgumentInPlace (total_of t) (not_null d)
  place_at [] i t d os lt is h = absurd (omega (arith, lt))
  place_at (x ∷ ts) zero t d os lt is h = subst (λ u. IsArgumentInPlace (total_of u) (not_null d)) (sym is) h.0
  place_at (x ∷ ts) (suc i) t d os lt is h = place_at ts i t d os (omega (arith, lt)) is h

  -- and is changed alone
  pub set_at : (ts : List (code.Total A)) (i : ℕ) (t new : code.Total A) (o : Option Datum) → i < length ts → t ≡ get_or ts i t → total_of new ≡ with_argument (total_of t) o → totals_of (slice_set ts i new) ≡ with_argument_at i (totals_of ts) o
  set_at [] i t new o lt is h = absurd (omega (arith, lt))
  set_at (x ∷ ts) zero t new o lt is h = ap (λ u. u ∷ totals_of ts) (h ∙ ap (λ u. with_argument (total_of u) o) is)
  set_at (x ∷ ts) (suc i) t new o lt is h = ap (λ l. total_of x ∷ l) (set_at ts i t new o (omega (arith, lt)) is h)

  pub none_at : (ts : List (code.Total A)) (i : ℕ) (o : Option Datum) → length ts ≤ i → totals_of ts ≡ with_argument_at i (totals_of ts) o
  none_at [] i o le = refl
  none_at (x ∷ ts) zero o le = absurd (omega (arith, le))
  none_at (x ∷ ts) (suc i) o le = ap (λ l. total_of x ∷ l) (none_at ts i o (omega (arith, le)))

-- ---- those from an index on

abbrev pub with_arguments_from : (index : ℕ) → List Total → Row → List Total
with_arguments_from zero ts ds = with_arguments ts ds
with_arguments_from (suc i) [] ds = []
with_arguments_from (suc i) (t ∷ ts) ds = t ∷ with_arguments_from i ts ds

pub none_from : (i : ℕ) (ts : List Total) → with_arguments_from i ts [] ≡ ts
none_from zero [] = refl
none_from zero (t ∷ ts) = refl
none_from (suc i) [] = refl
none_from (suc i) (t ∷ ts) = ap (λ l. t ∷ l) (none_from i ts)

one_from : (i : ℕ) (ts : List Total) (d : Datum) (ds : Row) → with_arguments_from i ts (d ∷ ds) ≡ with_arguments_from (suc i) (with_argument_at i ts (not_null d)) ds
one_from zero [] d ds = refl
one_from zero (t ∷ ts) d ds = refl
one_from (suc i) [] d ds = refl
one_from (suc i) (t ∷ ts) d ds = ap (λ l. t ∷ l) (one_from i ts d ds)

-- the totals with what is due from an index on, or its fault
abbrev pub with_due : (index : ℕ) → List Total → Result Row Fault → Result (List Total) Fault
with_due index ts due = and_then due (λ ds. Ok (with_arguments_from index ts ds))

-- one of them is added
pub due_more : (i : ℕ) (ts : List Total) (d : Datum) (due : Result Row Fault) → with_due (i + 1) (with_argument_at i ts (not_null d)) due ≡ with_due i ts (first_then (Ok d) due)
due_more i ts d (Ok ds) =
    let next : i + 1 ≡ suc i = omega arith in
    ap Ok (ap (λ k. with_arguments_from k (with_argument_at i ts (not_null d)) ds) next ∙ sym (one_from i ts d ds))
due_more i ts d (Err f) = refl

-- those after it stay in place
after_place : (i : ℕ) (ts : List Total) (d : Datum) (os : List Outcome) → AreOutcomesInPlace (drop i ts) (Ok d ∷ os) → AreOutcomesInPlace (drop (suc i) (with_argument_at i ts (not_null d))) os
after_place zero [] d os h = tt
after_place zero (t ∷ ts) d os h = h.1
after_place (suc i) [] d os h = tt
after_place (suc i) (t ∷ ts) d os h = after_place i ts d os h

pub place_more : (i : ℕ) (ts : List Total) (d : Datum) (os : List Outcome) → AreOutcomesInPlace (drop i ts) (Ok d ∷ os) → AreOutcomesInPlace (drop (i + 1) (with_argument_at i ts (not_null d))) os
place_more i ts d os h =
    let next : suc i ≡ i + 1 = omega arith in
    subst (λ k. AreOutcomesInPlace (drop k (with_argument_at i ts (not_null d))) os) next (after_place i ts d os h)

-- ---- all of a member

-- its arguments are added to the totals of its key, and so it is put
pub put_gives : (calls : List AggregateCall) (key : Row) (due : Result Row Fault) (ts new : List Total) (gs put : List RunningGroup) → and_then due (λ ds. Ok (with_arguments ts ds)) ≡ Ok new →
    ((ds : Row) → new ≡ with_arguments ts ds → put ≡ put_running calls (record { key = key; arguments = ds }) gs) → and_then (with_key key due) (λ m. Ok (put_running calls m gs)) ≡ Ok put
put_gives calls key (Ok ds) ts new gs put h is = ap Ok (sym (is ds (sym (ok_is _ _ h))))
put_gives calls key (Err f) ts new gs put h is = absurd (cc)
