-- A text and the value that it spells give each other.
use Rattle.std.proofs.Common.{◌≡◌, ℕ, ℤ, Bool, true, false, cond, List, codes, Option, Some, None, Result, Ok, Err, refl, sym, ◌∙◌, ap, inl, inr}
use Rattle.std.specs.Str.{bytes_eq}
use Rattle.std.specs.Fmt.{signed_decimal}
use Rattle.std.proofs.lemmas.Slice.Eq.{bytes_eq-Decides}
use Rattle.memory.proofs.Cases.{some_is, ok_is}
use Rattle.value.specs.Datum.{Datum, null, int, text, bool}
use Rattle.value.specs.declared.types.FaultKind.{FaultKind}
use Rattle.value.specs.declared.types.FaultKind.TheVariants.{BadText}
use Rattle.value.specs.declared.types.ColType.{ColType}
use Rattle.value.specs.declared.types.ColType.TheVariants as types
use Rattle.value.specs.Exact.{is_bigint, as_number}
use Rattle.value.specs.Texts.{bigint_at, boolean_at, value_at, text_at, is_of}
use Rattle.value.proofs.OneSpelling.{chosen, read_again, one_spelling}

no_text : (t : List ℕ) → ◌≡◌ {A = Option (List ℕ)} None (Some t) → ⊥
no_text t h = cc

-- ---- a written value reads back

bigint_back : (n : ℤ) (t : List ℕ) → is_bigint n ≡ true → signed_decimal n ≡ t → as_number (bigint_at t) ≡ Ok (int n)
bigint_back n t h e = ap as_number (ap bigint_at (sym e) ∙ read_again n h)

boolean_back : (b : Bool) (t : List ℕ) → text_at (bool b) ≡ Some t → boolean_at t ≡ Ok (bool b)
boolean_back true t e = ap boolean_at (sym (some_is (codes "t") t e))
boolean_back false t e = ap boolean_at (sym (some_is (codes "f") t e))

pub written : (kind : ColType) (d : Datum) (t : List ℕ) → is_of kind d ≡ true → text_at d ≡ Some t → value_at kind t ≡ Ok d
written types.Bigint (int n) t h e = bigint_back n t h (some_is (signed_decimal n) t e)
written types.Text (text s) t h e = ap (λ u. Ok (text u)) (sym (some_is s t e))
written types.Boolean (bool b) t h e = boolean_back b t e
written types.Bigint null t h e = cc
written types.Bigint (text s) t h e = cc
written types.Bigint (bool b) t h e = cc
written types.Text null t h e = cc
written types.Text (int n) t h e = cc
written types.Text (bool b) t h e = cc
written types.Boolean null t h e = cc
written types.Boolean (int n) t h e = cc
written types.Boolean (text s) t h e = cc

-- ---- a text that reads as a value is the written one

err_is : (k : FaultKind) (d : Datum) → ◌≡◌ {A = Result Datum FaultKind} (Err k) (Ok d) → ⊥
err_is k d h = cc

bigint_text : (r : Result ℤ FaultKind) (d : Datum) (t : List ℕ) → bigint_at t ≡ r → as_number r ≡ Ok d → text_at d ≡ Some t
bigint_text (Ok z) d t e h = ap text_at (sym (ok_is (int z) d h)) ∙ ap Some (sym (one_spelling t z e))
bigint_text (Err k) d t e h = absurd (err_is k d h)

same_bytes : (t s : List ℕ) → bytes_eq t s ≡ true → t ≡ s
same_bytes t s e = (bytes_eq-Decides t s).0 e

is_f : (d : Datum) (t : List ℕ) → ◌≡◌ {A = Result Datum FaultKind} (cond (bytes_eq t (codes "f")) (Ok (bool false)) (Err BadText)) (Ok d) → text_at d ≡ Some t
is_f d t h =
    elim (chosen (bytes_eq t (codes "f")) (Ok (bool false)) (Err BadText) (Ok d) h) [
      | inl p ↦ ap text_at (sym (ok_is (bool false) d p.1)) ∙ ap Some (sym (same_bytes t (codes "f") p.0))
      | inr p ↦ absurd (err_is BadText d p.1)
    ]

boolean_text : (d : Datum) (t : List ℕ) → boolean_at t ≡ Ok d → text_at d ≡ Some t
boolean_text d t h =
    elim (chosen (bytes_eq t (codes "t")) (Ok (bool true)) (cond (bytes_eq t (codes "f")) (Ok (bool false)) (Err BadText)) (Ok d) h) [
      | inl p ↦ ap text_at (sym (ok_is (bool true) d p.1)) ∙ ap Some (sym (same_bytes t (codes "t") p.0))
      | inr p ↦ is_f d t p.1
    ]

pub read : (kind : ColType) (d : Datum) (t : List ℕ) → value_at kind t ≡ Ok d → text_at d ≡ Some t
read types.Bigint d t h = bigint_text (bigint_at t) d t refl h
read types.Text d t h = ap text_at (sym (ok_is (text t) d h))
read types.Boolean d t h = boolean_text d t h
