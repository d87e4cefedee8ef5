use Rattle.std.proofs.Common.{◌∙◌, sym}
use Rattle.std.proofs.lemmas.Bool.{and_left}
use Rattle.syntax.proofs.limits.within_joined.Goals as goal

pub returns-else-within_entries : goal.returns-else-within_entries
returns-else-within_entries g c =
    c.if-within_entries.false ∙ sym (and_left _ _ (sym c.within_entries.ensures ∙ c.if-within_entries.false))
