use Rattle.std.proofs.Common.{◌≡◌, None, sym, ap, ◌∙◌, unwrap_or}
use Rattle.std.specs.List.{slice_get}
use Rattle.std.specs.Option.{option_copied}
use Rattle.std.proofs.lemmas.Option.{unwrap_or-slice_get}
use Rattle.stats.specs.Statistics.{no_values}
use Rattle.stats.proofs.statistics.Stats.column.Goals as goal

pub returns-in-None : goal.returns-in-None
returns-in-None g c =
    let past : slice_get c.in-Known.columns c.args.column ≡ None = sym c.get.ensures ∙ ap option_copied c.in-None.is in
    rw c.in-Known.is (ap (λ o. unwrap_or o no_values) (sym past) ∙ unwrap_or-slice_get c.in-Known.columns c.args.column no_values)
