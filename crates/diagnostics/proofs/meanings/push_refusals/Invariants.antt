use Rattle.std.proofs.Common.{◌≡◌, ◌++◌, flat_map, drop}
use Rattle.diagnostics.specs.Meanings.{refusal_line}
use Rattle.diagnostics.proofs.meanings.push_refusals.Given as goal

abbrev pub invariant-loop-code : goal.invariant-loop-code
invariant-loop-code g l = l.lines.items ++ flat_map refusal_line (drop l.code-index l.codes) ≡ l.fn.lines.items ++ flat_map refusal_line l.codes
