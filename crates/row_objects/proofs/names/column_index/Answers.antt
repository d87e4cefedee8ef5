use Rattle.std.proofs.Common.{map, sym, ap, ◌∙◌, bytes_eq, arith}
use Rattle.std.proofs.lemmas.List.{drop_all}
use Rattle.std.specs.List.{position_from}
use Rattle.value.specs.Columns.{Column, column_of}
use Rattle.row_objects.proofs.names.column_index.Goals as goal

pub returns : goal.returns
returns g c = sym (ap (λ l. position_from (λ (x : Column). bytes_eq c.args.name.now x.name) c.loop-i.i (map (λ x. column_of x) l)) (drop_all c.loop-i.i c.args.columns.now (omega (arith, c.loop-i-test.false)))) ∙ c.loop-i.invariant
