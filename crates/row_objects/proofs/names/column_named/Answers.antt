use Rattle.std.proofs.Common.{map, sym, ap, ◌∙◌, arith}
use Rattle.std.proofs.lemmas.List.{drop_all}
use Rattle.value.specs.Columns.{column_of}
use Rattle.row_objects.specs.ColumnNames.{column_named}
use Rattle.row_objects.proofs.names.column_named.Goals as goal

pub returns : goal.returns
returns g c = sym (ap (λ l. column_named c.args.name.now (map (λ x. column_of x) l)) (drop_all c.loop-column.column-index c.args.columns.now (omega (arith, c.loop-column-test.false)))) ∙ c.loop-column.invariant
