use Rattle.std.proofs.Common.{map, take}
use Rattle.access_matrix.specs.Sights.{IsReported, pair_of}
use Rattle.access_matrix.proofs.comparing.add_role.Given as goal

abbrev pub invariant-loop-table : goal.invariant-loop-table
invariant-loop-table g l = IsReported l.stores.old.now l.stores.new.now (map (λ p. pair_of p) l.allowed) (map (λ table. (l.role, table.now)) (take l.table-index l.tables)) l.fn.report l.report
