use Rattle.bags.proofs.Order.{sorted_by-means}
use Rattle.answer_rows.specs.Ordered.{output_cmp}
use Rattle.answer_rows.proofs.OutputOrder.{output_total, output_exact}
use Rattle.answer_rows.proofs.order_laws.law_ordered_rows.Goals as goal

pub returns : goal.returns
returns c keys = sorted_by-means (output_cmp keys) (output_total keys) (output_exact keys)
