-- Values that may be null.
use Rattle.std.specs.Prelude.{ℕ, ℤ, Bool, true, false, List, Option, Some, None}
use Rattle.std.specs.Borrow.{Bor}
use Rattle.value.specs.Datum.{Datum, null, int, text, bool}

abbrev pub number_or_null : Option ℤ → Datum
number_or_null None = null
number_or_null (Some n) = int n

abbrev pub text_or_null : Option (Bor (List ℕ)) → Datum
text_or_null None = null
text_or_null (Some t) = text t.now

abbrev pub truth_or_null : Option Bool → Datum
truth_or_null None = null
truth_or_null (Some b) = bool b

abbrev pub is_null : Datum → Bool
is_null null = true
is_null (int n) = false
is_null (text t) = false
is_null (bool b) = false
