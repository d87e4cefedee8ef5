use Rattle.std.proofs.Common.{Bool, List, map, sym, ap, subst, ◌∙◌}
use Rattle.columns.specs.Bits.{IsMaskOf}
use Rattle.columns.specs.Columns.{text_unless, texts_from}
use Rattle.columns.specs.Optional.{is_null}
use Rattle.columns.proofs.Nulls.{nulls_are, text_null}
use Rattle.columns.proofs.Runs.{length-texts}
use Rattle.columns.proofs.texts.Texts.nulls.Goals as goal

pub returns : goal.returns
returns g c =
    let bytes = c.self.inside.bytes.items in
    let ends = c.self.inside.ends.items in
    subst (λ (bits : List Bool). IsMaskOf bits c.words.result.now)
    (sym (ap (map is_null) (sym c.self.view_is) ∙ nulls_are text_unless text_null (texts_from bytes 0 ends) c.self.inside.nulls (c.self.invariant.bits ∙ sym (length-texts bytes 0 ends)))) c.words.ensures
