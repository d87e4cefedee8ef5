use Rattle.std.proofs.Common.{◌≡◌, drop}
use Rattle.std.specs.List.{list_all}
use Rattle.catalog.specs.Catalog.{is_known}
use Rattle.catalog.proofs.catalog.Catalog.are_known.Given as goal

abbrev pub invariant-loop-name : goal.invariant-loop-name
invariant-loop-name g l = list_all (is_known l.self) (drop l.name-index l.names) ≡ list_all (is_known l.self) l.names
