use Rattle.std.proofs.Common.{map, sym, ap, ◌∙◌, arith}
use Rattle.std.proofs.lemmas.List.{drop_all}
use Rattle.row_objects.specs.View.{index_of}
use Rattle.row_objects.specs.Indexes.{has_index}
use Rattle.row_objects.proofs.indexes.has_index.Goals as goal

pub returns : goal.returns
returns g c = sym (ap (λ l. has_index c.args.name.now (map (λ x. index_of x) l)) (drop_all c.loop-index.index-index c.args.indexes.now (omega (arith, c.loop-index-test.false)))) ∙ c.loop-index.invariant
