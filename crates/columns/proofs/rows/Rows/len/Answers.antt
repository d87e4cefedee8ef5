use Rattle.std.proofs.Common.{map, length, sym, ap, ◌∙◌}
use Rattle.columns.specs.Data.{cells_of}
use Rattle.columns.specs.Rows.{TypedRows}
use Rattle.columns.proofs.Growth.{length-rows}
use Rattle.columns.proofs.rows.Rows.len.Goals as goal

pub returns : goal.returns
returns g c = sym (length-rows (map cells_of c.self.inside.columns.items) 0 c.self.inside.len) ∙ ap (λ (t : TypedRows). length t.rows) c.self.view_is
