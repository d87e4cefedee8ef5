use Rattle.std.proofs.Common.{ap, sym, ◌∙◌}
use Rattle.std.proofs.lemmas.List.{take-map}
use Rattle.store.specs.Derived.{kept_columns}
use Rattle.store.proofs.stored.Stored.truncate_indexes.Goals as goal

pub returns-clause-indexes : goal.returns-clause-indexes
returns-clause-indexes g c = ap kept_columns c.truncate.ensures.items ∙ sym (take-map (λ i. i.column) c.args.count c.args.self.now.indexes.items)
