use Rattle.std.proofs.Common.{◌∙◌, map, ap}
use Rattle.row_objects.specs.View.{table_of}
use Rattle.access.specs.Access.{sees}
use Rattle.engine.proofs.setting.setting_with.Goals as goal

pub returns-clause-shows : goal.returns-clause-shows
returns-clause-shows g c = λ row. c.in_ok-frame.ensures.shows row ∙ ap (map (λ e. sees c.args.catalog.now c.args.role.now (table_of e.table) row)) c.as_slice-entries.ensures
