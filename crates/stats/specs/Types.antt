-- The values of a list by their type.
use Rattle.std.specs.Prelude.{ℕ, Bool, List, Option, Some, None}
use Rattle.std.specs.List.{filter_map}
use Rattle.value.specs.Datum.{Datum, null, int, text, bool}

abbrev pub text_of : Datum → Option (List ℕ)
text_of (text t) = Some t
text_of null = None
text_of (int n) = None
text_of (bool b) = None

abbrev pub texts : List Datum → List (List ℕ)
texts values = filter_map text_of values

abbrev pub truth_of : Datum → Option Bool
truth_of (bool b) = Some b
truth_of null = None
truth_of (int n) = None
truth_of (text t) = None

abbrev pub truths : List Datum → List Bool
truths values = filter_map truth_of values
