use Rattle.std.proofs.lemmas.List.{length-map}
use Rattle.tuples.specs.View.{guard_of}
use Rattle.trailcheck.proofs.shapes.under_others.Goals as goal

pub returns : goal.returns
returns g c = rw (c.as_slice.ensures, c.len.ensures, ← length-map c.args.setting.now.frame guard_of) at c.filtered_by.ensures
