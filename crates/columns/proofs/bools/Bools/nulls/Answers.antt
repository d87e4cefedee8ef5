use Rattle.std.proofs.Common.{Bool, List, map, sym, ap, subst, ◌∙◌}
use Rattle.columns.specs.Bits.{IsMaskOf}
use Rattle.columns.specs.Columns.{bool_unless}
use Rattle.columns.specs.Optional.{is_null}
use Rattle.columns.proofs.Nulls.{nulls_are, bool_null}
use Rattle.columns.proofs.bools.Bools.nulls.Goals as goal

pub returns : goal.returns
returns g c =
    subst (λ (bits : List Bool). IsMaskOf bits c.words.result.now)
    (sym (ap (map is_null) (sym c.self.view_is) ∙ nulls_are bool_unless bool_null c.self.inside.trues c.self.inside.nulls c.self.invariant)) c.words.ensures
