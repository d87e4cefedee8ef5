use Rattle.std.proofs.Common.{map, sym, ap, ◌∙◌, is_some, arith}
use Rattle.std.proofs.lemmas.List.{drop_all}
use Rattle.std.specs.List.{list_all}
use Rattle.value.specs.Columns.{column_of}
use Rattle.row_objects.specs.ColumnNames.{column_named}
use Rattle.row_objects.proofs.names.have_names.Goals as goal

pub returns : goal.returns
returns g c = sym (ap (λ l. list_all (λ name. is_some (column_named name (map (λ x. column_of x) c.args.columns.now))) l) (drop_all c.loop-name.name-index c.args.names.now (omega (arith, c.loop-name-test.false)))) ∙ c.loop-name.invariant
