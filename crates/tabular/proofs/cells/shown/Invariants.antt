use Rattle.std.proofs.Common.{◌≡◌, ◌++◌, IsUtf8, string_bytes}
use Rattle.std.specs.Str.Iter.{chars_rest}
use Rattle.tabular.specs.Cells.{shown}
use Rattle.tabular.proofs.cells.shown.Given as goal

abbrev pub invariant-loop-c : goal.invariant-loop-c
invariant-loop-c g l = IsUtf8 (chars_rest l.c-iterator) × (string_bytes l.out ++ shown (chars_rest l.c-iterator) ≡ shown l.fn.text)
