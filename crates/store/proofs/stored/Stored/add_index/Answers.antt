use Rattle.std.proofs.Common.{◌-◌}
use Rattle.std.proofs.lemmas.List.Elements.{All-push, All-same}
use Rattle.indexes.specs.Indexes.{IsIndex}
use Rattle.store.proofs.stored.Stored.add_index.Goals as goal

pub returns-in_ok-push-clause-derived : goal.returns-in_ok-push-clause-derived
returns-in_ok-push-clause-derived g c =
    All-same (λ i. IsIndex c.args.self.now.contents.rows (i.column - 1) i.numbers) _ _ c.in_ok-push.ensures.items
    (All-push (λ i. IsIndex c.args.self.now.contents.rows (i.column - 1) i.numbers) c.args.self.now.indexes.items c.in_ok-made.made c.requires c.in_ok-made.ensures.1)
