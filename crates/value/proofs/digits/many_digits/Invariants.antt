use Rattle.std.proofs.Common.{◌≡◌, ◌≤◌, ◌+◌, ◌*◌, ◌^◌, length}
use Rattle.std.specs.List.{list_all}
use Rattle.std.specs.Char.{is_ascii_digit}
use Rattle.std.specs.Str.Parse.{digits_value, digits_value_after}
use Rattle.value.proofs.digits.many_digits.Given as goal

abbrev pub invariant-loop-word : goal.invariant-loop-word
invariant-loop-word l = record {
  digits : list_all is_ascii_digit l.rest ≡ list_all is_ascii_digit l.text;
  number : digits_value_after 10 l.n l.rest ≡ digits_value 10 l.text;
  room : (l.n + 1) * 10 ^ length l.rest ≤ 10 ^ 18;
}

abbrev pub decreases-loop-word : goal.decreases-loop-word
decreases-loop-word l = length l.rest
