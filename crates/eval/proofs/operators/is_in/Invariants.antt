use Rattle.std.proofs.Common.{◌≡◌, drop, map}
use Rattle.value.specs.Datum.{datum, datum_of}
use Rattle.value.specs.Truths.{greatest}
use Rattle.eval.specs.Operators.{in_of}
use Rattle.eval.proofs.operators.is_in.Given as goal

abbrev pub invariant-loop-member : goal.invariant-loop-member
invariant-loop-member g l = record {
  rest : greatest l.known (in_of (datum_of l.value) (map datum (drop l.member-index l.members))) ≡ in_of (datum_of l.value) (map datum l.members);
}
