use Rattle.std.proofs.Common.{Bool, List, map, sym, ap, subst, ◌∙◌}
use Rattle.columns.specs.Bits.{IsMaskOf}
use Rattle.columns.specs.Columns.{int_unless}
use Rattle.columns.specs.Optional.{is_null}
use Rattle.columns.proofs.Nulls.{nulls_are, int_null}
use Rattle.columns.proofs.ints.Ints.nulls.Goals as goal

pub returns : goal.returns
returns g c =
    subst (λ (bits : List Bool). IsMaskOf bits c.words.result.now)
    (sym (ap (map is_null) (sym c.self.view_is) ∙ nulls_are int_unless int_null c.self.inside.values.items c.self.inside.nulls c.self.invariant)) c.words.ensures
