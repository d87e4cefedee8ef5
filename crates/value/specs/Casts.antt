-- Values as other types.
use Rattle.std.specs.Prelude.{Result, Ok}
use Rattle.std.specs.Fmt.{signed_decimal}
use Rattle.value.specs.Datum.{Datum, null, int, text, bool}
use Rattle.value.specs.Exact.{as_number}
use Rattle.value.specs.Texts.{bigint_at}
use Rattle.value.specs.declared.types.FaultKind.{FaultKind}
use Rattle.value.specs.declared.types.ColType.{ColType}
use Rattle.value.specs.declared.types.ColType.TheVariants as to

-- a number to its text and back; all else stays as it is
abbrev pub cast_of : ColType → Datum → Result Datum FaultKind
cast_of to.Bigint (text t) = as_number (bigint_at t)
cast_of to.Bigint null = Ok null
cast_of to.Bigint (int n) = Ok (int n)
cast_of to.Bigint (bool b) = Ok (bool b)
cast_of to.Text (int n) = Ok (text (signed_decimal n))
cast_of to.Text null = Ok null
cast_of to.Text (text t) = Ok (text t)
cast_of to.Text (bool b) = Ok (bool b)
cast_of to.Boolean d = Ok d
