-- Values as conditions.
use Rattle.std.specs.Prelude.{true, false}
use Rattle.value.specs.declared.order.Truth.{Truth}
use Rattle.value.specs.declared.order.Truth.TheVariants.{False, Unknown, True}
use Rattle.value.specs.Datum.{Datum, null, int, text, bool}

-- null is unknown, and so is a value that is not a truth value
abbrev pub truth_at : Datum → Truth
truth_at (bool true) = True
truth_at (bool false) = False
truth_at null = Unknown
truth_at (int n) = Unknown
truth_at (text t) = Unknown

-- unknown is null
abbrev pub at_truth : Truth → Datum
at_truth True = bool true
at_truth False = bool false
at_truth Unknown = null
