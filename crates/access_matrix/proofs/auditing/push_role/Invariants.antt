use Rattle.std.proofs.Common.{◌≡◌, ◌++◌, [], drop, map}
use Rattle.access_matrix.specs.Matrix.{matrix_row}
use Rattle.access_matrix.proofs.auditing.push_role.Given as goal

abbrev pub invariant-loop-index : goal.invariant-loop-index
invariant-loop-index g l = record {
  unfinished : l.rows.unfinished ≡ [];
  rest : l.rows.rows ++ map (λ t. matrix_row l.store l.role t) (drop l.index l.store.catalog.tables) ≡ l.fn.rows.rows ++ map (λ t. matrix_row l.store l.role t) l.store.catalog.tables;
}
