use Rattle.std.proofs.Common.{◌≡◌, ◌++◌, [], drop, map}
use Rattle.access_matrix.specs.Matrix.{matrix_rows}
use Rattle.access_matrix.proofs.auditing.matrix_rows.Given as goal

abbrev pub invariant-loop-role : goal.invariant-loop-role
invariant-loop-role g l = record {
  unfinished : l.rows.unfinished ≡ [];
  rest : l.rows.rows ++ matrix_rows l.store (map (λ r. r.now) (drop l.role-index l.roles)) ≡ matrix_rows l.store (map (λ r. r.now) l.roles);
}
