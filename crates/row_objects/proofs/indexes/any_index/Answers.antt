use Rattle.std.proofs.Common.{◌∙◌, ap, map}
use Rattle.row_objects.specs.Indexes.{has_index}
use Rattle.row_objects.specs.View.{index_of}
use Rattle.row_objects.proofs.Values.{further, there}
use Rattle.row_objects.proofs.indexes.any_index.Goals as goal

pub returns-then-has_index : goal.returns-then-has_index
returns-then-has_index g c =
    there c.args.name.now c.args.tables.now c.loop-index.index c.at.result.now c.has_index.result c.at.ensures
    (c.has_index.ensures ∙ ap (λ is. has_index c.args.name.now (map (λ i. index_of i) is)) c.as_slice.ensures) c.if-has_index.true
    ∙ c.loop-index.invariant.1

pub loop-index-preserved : goal.loop-index-preserved
loop-index-preserved g c = (
  c.loop-index.invariant.0,
  further c.args.name.now c.args.tables.now c.loop-index.index c.at.result.now c.has_index.result c.at.ensures
      (c.has_index.ensures ∙ ap (λ is. has_index c.args.name.now (map (λ i. index_of i) is)) c.as_slice.ensures) c.if-has_index.false
      ∙ c.loop-index.invariant.1,
)
