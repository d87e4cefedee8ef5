use Rattle.std.proofs.Common.{ap₂, ◌∙◌}
use Rattle.value.specs.Datum.{row_of}
use Rattle.value.specs.Orders.{row_cmp}
use Rattle.groups.proofs.keys.KeyOrd.cmp.Goals as goal

pub returns : goal.returns
returns g c = c.cmp_rows.ensures ∙ ap₂ (λ k l. row_cmp (row_of k) (row_of l)) c.as_slice.ensures c.as_slice-2.ensures
