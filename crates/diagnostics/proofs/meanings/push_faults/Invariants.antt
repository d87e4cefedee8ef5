use Rattle.std.proofs.Common.{◌≡◌, ◌++◌, flat_map, drop}
use Rattle.diagnostics.specs.Meanings.{fault_line}
use Rattle.diagnostics.proofs.meanings.push_faults.Given as goal

abbrev pub invariant-loop-kind : goal.invariant-loop-kind
invariant-loop-kind g l = l.lines.items ++ flat_map fault_line (drop l.kind-index l.kinds) ≡ l.fn.lines.items ++ flat_map fault_line l.kinds
