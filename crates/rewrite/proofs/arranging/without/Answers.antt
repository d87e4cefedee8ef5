use Rattle.std.proofs.Common.{◌∙◌, remove, sym, ap}
use Rattle.rewrite.proofs.Added.{without_found, without_absent}
use Rattle.rewrite.proofs.arranging.without.Goals as goal

pub returns : goal.returns
returns g c =
    c.from-2.ensures ∙ c.remove.ensures.items ∙ ap (λ l. remove l c.in-Some.index) c.in_ok-rest.ensures.items
    ∙ sym (without_found c.args.entry c.args.entries.now c.in-Some.index (sym c.index_of.ensures ∙ c.in-Some.is))

pub returns-in_default : goal.returns-in_default
returns-in_default g c = c.from.ensures ∙ c.in_ok-rest.ensures.items ∙ sym (without_absent c.args.entry c.args.entries.now (sym c.index_of.ensures ∙ c.in_default.is))
