use Rattle.std.proofs.Common.{map, refl}
use Rattle.columns.specs.Data.{cells_of}
use Rattle.columns.specs.Rows.{rows_from}
use Rattle.columns.proofs.Growth.{none_held}
use Rattle.columns.proofs.rows.Rows.new.Goals as goal

pub invariant_of-result : goal.invariant_of-result
invariant_of-result g c = none_held (map cells_of c.in_ok-empty_columns.field-0.items) c.in_ok-empty_columns.ensures.cells

pub returns-clause-rows : goal.returns-clause-rows
unfolding rows_from
returns-clause-rows g c = refl
