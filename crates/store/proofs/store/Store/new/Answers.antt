use Rattle.std.proofs.Common.{[], rules}
use Rattle.std.proofs.lemmas.List.Elements.{All-nil, All-same}
use Rattle.store.specs.Derived.{IsDerived}
use Rattle.store.proofs.store.Store.new.Goals as goal

pub invariant_of-result : goal.invariant_of-result
invariant_of-result g c = record { agrees = search rules; derived = All-same (λ t. IsDerived t) _ [] c.new-2.ensures.items (All-nil (λ t. IsDerived t)); indexed = search rules }
