use Rattle.std.proofs.Common.{◌≡◌, ◌≤◌, ◌+◌, ◌*◌, ◌^◌, length, drop}
use Rattle.std.specs.List.{list_all}
use Rattle.std.specs.Char.{is_ascii_digit}
use Rattle.std.specs.Str.Parse.{digits_value_after}
use Rattle.value.proofs.digits.digits_after.Given as goal

abbrev pub invariant-loop-byte : goal.invariant-loop-byte
invariant-loop-byte l = record {
  digits : list_all is_ascii_digit (drop l.byte-index l.text) ≡ list_all is_ascii_digit l.text;
  number : digits_value_after 10 l.n (drop l.byte-index l.text) ≡ digits_value_after 10 l.start l.text;
  room : (l.n + 1) * 10 ^ length (drop l.byte-index l.text) ≤ 10 ^ 18;
}
