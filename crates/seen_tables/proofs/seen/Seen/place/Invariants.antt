use Rattle.std.proofs.Common.{◌≡◌, drop}
use Rattle.std.specs.List.{position_from}
use Rattle.seen_tables.specs.Known.{is_of}
use Rattle.seen_tables.proofs.seen.Seen.place.Given as goal

abbrev pub invariant-loop-place : goal.invariant-loop-place
invariant-loop-place g l = position_from (is_of l.role l.table) l.place (drop l.place l.self) ≡ position_from (is_of l.role l.table) 0 l.self
