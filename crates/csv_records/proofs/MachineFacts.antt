-- Bytes that are read one after the other.
use Rattle.std.proofs.Common.{◌≡◌, ℕ, ◌==◌, ◌||◌, Bool, true, false, if◌then◌else◌, List, [], ◌∷◌, ◌++◌, Option, Some, None, refl, sym, ap, ◌∙◌}
use Rattle.csv.specs.Machine.{ends_at_end, field_after, fields_after, is_end, next_record, step}
use Rattle.csv.specs.Reading.{default_config}
use Rattle.csv.specs.declared.parser.Action.{Action}
use Rattle.csv.specs.declared.parser.State.{State}
use Rattle.csv.specs.declared.parser.State.TheVariants as st
use Rattle.csv_records.specs.Machine.{IsStep, action_of, settled, state_of}
use Rattle.csv_records.specs.Records.{LeadsOn, TakesRecord}
use Rattle.csv_records.specs.Unread.{TakesByte}
use Rattle.csv_records.specs.declared.machine.Act as declared
use Rattle.csv_records.specs.declared.machine.Place as place

-- ---- after CR a record starts as after LF

either : {X : Type 0} (lf cr : Bool) (skips more : X) → (if lf then skips else if cr || lf then skips else more) ≡ (if cr || lf then skips else more)
either true true skips more = refl
either true false skips more = refl
either false cr skips more = refl

step_after_cr : (c : ℕ) → step default_config st.AfterCr c ≡ step default_config st.StartRecord c
step_after_cr c = either (c == 10) (c == 13) _ _

-- what follows a step
abbrev pub after_step : List (List ℕ) → List ℕ → ℕ → List ℕ → State × Action → Option (List (List ℕ) × State × List ℕ)
after_step fields field c rest p =
    if is_end p.1 then Some (fields_after p.1 fields field, p.0, rest) else next_record default_config p.0 (fields_after p.1 fields field) (field_after p.1 c field) rest

pub next_is : (s : State) (fields : List (List ℕ)) (field : List ℕ) (c : ℕ) (rest : List ℕ) → next_record default_config s fields field (c ∷ rest) ≡ after_step fields field c rest (step default_config s c)
unfolding next_record
next_is s fields field c rest = refl

pub settle : (s : State) (fields : List (List ℕ)) (field xs : List ℕ) → next_record default_config s fields field xs ≡ next_record default_config (settled s) fields field xs
unfolding next_record
settle st.StartRecord fields field xs = refl
settle st.StartField fields field xs = refl
settle st.InField fields field xs = refl
settle st.InQuoted fields field xs = refl
settle st.AfterQuote fields field xs = refl
settle st.InEscape fields field xs = refl
settle st.InComment fields field xs = refl
settle st.AfterCr fields field [] = refl
settle st.AfterCr fields field (c ∷ rest) =
    next_is st.AfterCr fields field c rest ∙ ap (after_step fields field c rest) (step_after_cr c) ∙ sym (next_is st.StartRecord fields field c rest)

-- ---- a byte is read

-- one that ends no record
goes : (from to : place.Place) (how : declared.Act) (byte : ℕ) (rest : List ℕ) (fields : List (List ℕ)) (field : List ℕ) → IsStep from byte to how → is_end (action_of how) ≡ false
    → next_record default_config (state_of from) fields field (byte ∷ rest) ≡ next_record default_config (state_of to) (fields_after (action_of how) fields field) (field_after (action_of how) byte field) rest
goes from to how byte rest fields field (there, does, last) other =
    next_is (state_of from) fields field byte rest
    ∙ rw (does, other) (settle (step default_config (state_of from) byte).0 _ _ rest ∙ ap (λ s. next_record default_config s (fields_after (action_of how) fields field) (field_after (action_of how) byte field) rest) there)

pub goes_on : (from to : place.Place) (how : declared.Act) (byte : ℕ) (fields fs : List (List ℕ)) (field f : List ℕ) (old mid new : Option (List ℕ))
    → LeadsOn (state_of from) fields field old mid → TakesByte mid new (Some byte) → IsStep from byte to how → is_end (action_of how) ≡ false
    → fs ≡ fields_after (action_of how) fields field → f ≡ field_after (action_of how) byte field → LeadsOn (state_of to) fs f old new
goes_on from to how byte fields fs field f None mid new leads takes is other e k = tt
goes_on from to how byte fields fs field f (Some xs) None new leads takes is other e k = absurd leads
goes_on from to how byte fields fs field f (Some xs) (Some ys) None leads takes is other e k = absurd takes.0
goes_on from to how byte fields fs field f (Some xs) (Some ys) (Some zs) leads takes is other e k =
    leads ∙ ap (next_record default_config (state_of from) fields field) takes.0 ∙ rw (e, k) (goes from to how byte zs fields field is other)

-- one that ends a record
ends : (from to : place.Place) (how : declared.Act) (byte : ℕ) (rest : List ℕ) (fields : List (List ℕ)) (field : List ℕ) → IsStep from byte to how → is_end (action_of how) ≡ true
    → next_record default_config (state_of from) fields field (byte ∷ rest) ≡ Some (fields_after (action_of how) fields field, (step default_config (state_of from) byte).0, rest)
ends from to how byte rest fields field (there, does, last) end = next_is (state_of from) fields field byte rest ∙ rw (does, end) refl

pub record_ends : (from to : place.Place) (how : declared.Act) (byte : ℕ) (fields fs : List (List ℕ)) (field : List ℕ) (old mid new : Option (List ℕ))
    → LeadsOn (state_of from) fields field old mid → TakesByte mid new (Some byte) → IsStep from byte to how → is_end (action_of how) ≡ true
    → fs ≡ fields_after (action_of how) fields field → TakesRecord old new true fs
record_ends from to how byte fields fs field None mid new leads takes is end e = tt
record_ends from to how byte fields fs field (Some xs) None new leads takes is end e = absurd leads
record_ends from to how byte fields fs field (Some xs) (Some ys) None leads takes is end e = absurd takes.0
record_ends from to how byte fields fs field (Some xs) (Some ys) (Some zs) leads takes is end e = (
  (step default_config (state_of from) byte).0,
  is.0 ∙ is.2 end,
  leads ∙ ap (next_record default_config (state_of from) fields field) takes.0 ∙ rw e (ends from to how byte zs fields field is end),
)

-- ---- no byte is left

last_of : (s : State) (fields : List (List ℕ)) (field : List ℕ) → next_record default_config s fields field [] ≡ (if ends_at_end s then Some (fields ++ (field ∷ []), st.StartRecord, []) else None)
unfolding next_record
last_of s fields field = refl

pub text_ends : (s : State) (end : Bool) (fields fs : List (List ℕ)) (field : List ℕ) (old mid new : Option (List ℕ))
    → LeadsOn s fields field old mid → TakesByte mid new None → end ≡ ends_at_end s → (end ≡ true → fs ≡ fields ++ field ∷ []) → TakesRecord old new end fs
text_ends s end fields fs field None mid new leads takes is e = tt
text_ends s end fields fs field (Some xs) None new leads takes is e = absurd leads
text_ends s end fields fs field (Some xs) (Some ys) None leads takes is e = absurd takes.0
text_ends s end fields fs field (Some xs) (Some ys) (Some zs) leads takes is e = by_end end is e where
  none : ys ≡ []
  none = takes.0 ∙ takes.1 refl

  all : next_record default_config st.StartRecord [] [] xs ≡ (if ends_at_end s then Some (fields ++ (field ∷ []), st.StartRecord, []) else None)
  all = leads ∙ ap (next_record default_config s fields field) none ∙ last_of s fields field

  by_end : (end : Bool) → end ≡ ends_at_end s → (end ≡ true → fs ≡ fields ++ field ∷ []) → TakesRecord (Some xs) (Some zs) end fs
  by_end true is e = (st.StartRecord, refl, all ∙ rw (← is, e refl, takes.1 refl) refl)
  by_end false is e = all ∙ rw (← is) refl
