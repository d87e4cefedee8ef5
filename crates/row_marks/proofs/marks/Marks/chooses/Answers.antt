use Rattle.std.proofs.Common.{◌≡◌, Bool, true, false, not, ◌&&◌, refl}
use Rattle.expr.specs.Conjuncts.{fragile_conjuncts}
use Rattle.row_marks.specs.Marked.{drops_first, is_left}
use Rattle.row_marks.proofs.marks.Marks.chooses.Goals as goal

kept : (left drops : Bool) → not drops ≡ true → not (not left && drops) ≡ true
kept true drops h = refl
kept false drops h = h

pub returns : goal.returns
returns g c = λ w are off number. kept (is_left w c.args.entry) (drops_first w (fragile_conjuncts w.query) c.args.entry number) (c.first_chooses.ensures w are off number)
