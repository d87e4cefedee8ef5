use Rattle.std.proofs.Common.{◌≡◌, [], drop, map}
use Rattle.resolve.specs.Entries.{entries_in}
use Rattle.resolve.proofs.Behind.{all_after}
use Rattle.scope.specs.View.{entry_of}
use Rattle.resolve.specs.View.{joined_table_of}
use Rattle.resolve.proofs.from.entries_in.Given as goal

abbrev pub invariant-loop-joined : goal.invariant-loop-joined
invariant-loop-joined g l = all_after l.catalog (map (λ e. entry_of e) l.entries) (map (λ j. joined_table_of j) (drop l.joined-index l.tables)) ≡ entries_in l.catalog [] (map (λ j. joined_table_of j) l.tables)
