use Rattle.std.proofs.Common.{◌∙◌, refl, ap, slice_get}
use Rattle.row_objects.specs.Named.{set_value_at}
use Rattle.row_objects.proofs.Entries.{set_value_at-by_bytes, values-by_bytes}
use Rattle.row_objects.proofs.by_name.ByName.at_mut.Goals as goal

pub returns : goal.returns
returns g c =
    let es = c.self.inside.entries.entries in (
      (refl, λ w. set_value_at-by_bytes es c.args.index w ∙ ap (λ v. set_value_at v c.args.index w) c.self.view_is),
      record { writes_back = tt; value = rw (← c.self.view_is) (ap (λ l. slice_get l c.args.index) (values-by_bytes es) ∙ c.index_mut.ensures.value) },
    )
