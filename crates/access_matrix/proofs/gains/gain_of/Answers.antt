use Rattle.std.proofs.Common.{◌∙◌}
use Rattle.access_matrix.proofs.Gained.{columns_are, rows_are}
use Rattle.access_matrix.proofs.gains.gain_of.Goals as goal

pub returns : goal.returns
returns g c = λ before after role table o n. record {
  rows = c.count_gained.ensures ∙ rows_are before after role table c.args.old.now c.args.new.now o n;
  columns = (rw (c.new-columns.ensures, c.as_slice.ensures, c.as_slice-2.ensures) at c.in_ok-push_absent.ensures) ∙ columns_are before after role table c.args.old.now c.args.new.now o n;
}
