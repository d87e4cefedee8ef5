-- The records of a text, as a list: the next one, and then those of what is left.
use Rattle.std.proofs.Common.{ℕ, zero, suc, ◌≡◌, ◌≢◌, ◌+◌, ◌<◌, ◌⊎◌, inl, inr, true, false, List, [], ◌∷◌, ◌++◌, length, Option, Some, None, if◌then◌else◌, refl, sym, ap, ◌∙◌, arith, add-one}
use Rattle.std.specs.Prelude.{unwrap_or}
use Rattle.csv.specs.Machine.{Read, next_record, step, is_end, fields_after, field_after, ends_at_end}
use Rattle.csv.specs.Reading.{records_from, records_next, default_config}
use Rattle.csv.specs.declared.parser.Config.{Config}
use Rattle.csv.specs.declared.parser.State.{State}
use Rattle.csv.specs.declared.parser.State.TheVariants as st
use Rattle.csv_records.specs.Left.{FirstHasOther, Fits_length, TakesFirst, TailIsLeft, records_after}

-- the rest after a record is shorter, or the text was at its end
abbrev Falls : List ℕ → Option Read → Type 0
Falls xs None = Unit {0}
Falls xs (Some p) = (length p.2 < length xs) ⊎ ((p.1 ≡ st.StartRecord) × (p.2 ≡ []))

widen : (c : ℕ) (xs : List ℕ) (o : Option Read) → Falls xs o → Falls (c ∷ xs) o
widen c xs None h = tt
widen c xs (Some p) (inl h) = inl (omega (arith, h))
widen c xs (Some p) (inr h) = inr h

falls : (cfg : Config) (s : State) (fs : List (List ℕ)) (f xs : List ℕ) → Falls xs (next_record cfg s fs f xs)
unfolding next_record
falls cfg s fs f [] = elim (ends_at_end s) as (λ b. Falls [] (if b then Some (fs ++ (f ∷ []), st.StartRecord, []) else None)) [ true ↦ inr (refl, refl) | false ↦ tt ]
falls cfg s fs f (c ∷ rest) =
    elim (is_end (step cfg s c).1) as (λ b. Falls (c ∷ rest) (if b then Some (fields_after (step cfg s c).1 fs f, (step cfg s c).0, rest) else next_record cfg (step cfg s c).0 (fields_after (step cfg s c).1 fs f) (field_after (step cfg s c).1 c f) rest)) [
      | true ↦ inl (omega arith)
      | false ↦ widen c rest _ (falls cfg (step cfg s c).0 (fields_after (step cfg s c).1 fs f) (field_after (step cfg s c).1 c f) rest)
    ]

-- at the end of a text there is no record
at_end : (n : ℕ) → records_from default_config n st.StartRecord [] ≡ []
unfolding records_from next_record
at_end zero = refl
at_end (suc n) = refl

-- with more turns than bytes, the number of turns does not matter
abbrev Agrees : ℕ → ℕ → Type 0
Agrees m n = (s : State) (xs : List ℕ) → length xs < m → length xs < n → records_from default_config m s xs ≡ records_from default_config n s xs

enough_next : (m n : ℕ) (xs : List ℕ) (o : Option Read) → Agrees m n → Falls xs o → length xs < suc m → length xs < suc n → records_next (records_from default_config m) o ≡ records_next (records_from default_config n) o
enough_next m n xs None go f h k = refl
enough_next m n xs (Some (r, s, ys)) go (inl f) h k = ap (λ rs. r ∷ rs) (go s ys (omega (arith, f, h)) (omega (arith, f, k)))
enough_next m n xs (Some (r, s, ys)) go (inr (es, ey)) h k = ap (λ rs. r ∷ rs) (rw (es, ey) (at_end m ∙ sym (at_end n)))

enough : (m n : ℕ) → Agrees m n
unfolding records_from
enough zero n s xs h k = absurd (omega (arith, h))
enough (suc m) zero s xs h k = absurd (omega (arith, k))
enough (suc m) (suc n) s xs h k = enough_next m n xs (next_record default_config s [] [] xs) (enough m n) (falls default_config s [] [] xs) h k

pub records_after-none : (s : State) (xs : List ℕ) → next_record default_config s [] [] xs ≡ None → records_after s xs ≡ []
unfolding records_from
records_after-none s xs e = rw (add-one, e) refl

after_some : (xs : List ℕ) (p : Read) → Falls xs (Some p) → records_from default_config (length xs) p.1 p.2 ≡ records_after p.1 p.2
after_some xs (r, s, ys) (inl f) = enough (length xs) (length ys + 1) s ys f (omega arith)
after_some xs (r, s, ys) (inr (es, ey)) = rw (es, ey) (at_end (length xs) ∙ sym (at_end 1))

pub records_after-some : (s : State) (xs : List ℕ) (p : Read) → next_record default_config s [] [] xs ≡ Some p → records_after s xs ≡ p.0 ∷ records_after p.1 p.2
unfolding records_from
records_after-some s xs p e =
    let f : Falls xs (Some p) = rw e at (falls default_config s [] [] xs) in
    rw (add-one, e) (ap (λ rs. p.0 ∷ rs) (after_some xs p f))

-- a record that was read is passed over
pub tail_left : (old new : Option (List (List (List ℕ)))) (fields : List (List ℕ)) → TakesFirst old new true fields → TailIsLeft old new
tail_left None new fields gives = tt
tail_left (Some []) new fields gives = cc gives
tail_left (Some (r ∷ rs)) new fields (here, is, left) = left

-- it has another length than the expected one
pub first_other : (old new : Option (List (List (List ℕ)))) (fields : List (List ℕ)) (n : ℕ) → TakesFirst old new true fields → length fields ≢ n → FirstHasOther old n
first_other None new fields n gives differ = tt
first_other (Some []) new fields n gives differ = cc gives
first_other (Some (r ∷ rs)) new fields n (here, is, left) differ = λ same. differ (ap length is ∙ same)

-- the length that a record must have: any, where there was no record
pub differs : (expected : Option ℕ) (n : ℕ) → unwrap_or expected n ≢ n → (m : ℕ) × (expected ≡ Some m) × (n ≢ m)
differs None n other = absurd (other refl)
differs (Some m) n other = (m, refl, λ same. other (sym same))

pub fits : (expected : Option ℕ) (n : ℕ) → unwrap_or expected n ≡ n → Fits_length expected n
fits None n same = tt
fits (Some m) n same = sym same
