use Rattle.std.proofs.Common.{map, sym, ap, ◌∙◌, arith}
use Rattle.std.proofs.lemmas.List.{drop_all}
use Rattle.row_objects.specs.Indexes.{is_indexed}
use Rattle.row_objects.specs.View.{index_of}
use Rattle.row_objects.proofs.indexes.is_indexed.Goals as goal

pub returns : goal.returns
returns g c = sym (ap (λ l. is_indexed c.args.column (map (λ x. index_of x) l)) (drop_all c.loop-index.index-index c.args.indexes.now (omega (arith, c.loop-index-test.false)))) ∙ c.loop-index.invariant
