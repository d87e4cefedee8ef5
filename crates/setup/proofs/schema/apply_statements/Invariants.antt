use Rattle.std.proofs.Common.{◌≡◌, ◌+◌, Ok, drop, map, take}
use Rattle.row_ast.specs.View.{statement_of}
use Rattle.setup.specs.Schema.{applied, applied_from}
use Rattle.setup.proofs.schema.apply_statements.Given as goal

abbrev pub invariant-loop-i : goal.invariant-loop-i
invariant-loop-i g l =
    (applied_from (l.i + 1) l.store (map (λ s. statement_of s) (drop l.i l.statements)) ≡ applied l.fn.store (map (λ s. statement_of s) l.statements))
    × (applied l.fn.store (map (λ s. statement_of s) (take l.i l.statements)) ≡ Ok l.store)
