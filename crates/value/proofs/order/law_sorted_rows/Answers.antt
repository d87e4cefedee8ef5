use Rattle.bags.proofs.Order.{sorted_by-means}
use Rattle.value.specs.Orders.{row_cmp}
use Rattle.value.proofs.DatumOrder.{row_cmp_total, row_cmp_exact}
use Rattle.value.proofs.order.law_sorted_rows.Goals as goal

pub returns : goal.returns
returns c = sorted_by-means row_cmp row_cmp_total row_cmp_exact
