use Rattle.std.proofs.Common.{◌≡◌, List, Some, sym, ap, subst, ◌∙◌}
use Rattle.std.specs.List.{slice_get}
use Rattle.std.proofs.lemmas.Option.{slice_get-get_or}
use Rattle.seen_tables.specs.Known.{SeenTable}
use Rattle.seen_tables.proofs.Known.{of_both}
use Rattle.seen_tables.proofs.seen.Seen.place.Goals as goal

pub returns-then-is_of-clause-found : goal.returns-then-is_of-clause-found
returns-then-is_of-clause-found g c =
    let one = c.one-item.result in
    let both = of_both c.args.role.now c.args.table.now one (sym c.is_of.ensures ∙ c.if-is_of.true) in
    let items : c.deref-one-items.result.now ≡ c.args.self.now = c.deref-one-items.ensures.value ∙ c.self.view_is in
    (one, subst (λ (l : List SeenTable). slice_get l c.loop-place.place ≡ Some one) items (slice_get-get_or c.deref-one-items.result.now c.loop-place.place one c.loop-place-test.true ∙ ap Some (sym c.one-item.is)), both.0, both.1)
