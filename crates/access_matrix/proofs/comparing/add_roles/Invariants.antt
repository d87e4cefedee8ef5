use Rattle.std.proofs.Common.{map, take}
use Rattle.std.specs.List.{flat_map}
use Rattle.access_matrix.specs.Sights.{IsReported, pair_of}
use Rattle.access_matrix.proofs.comparing.add_roles.Given as goal

abbrev pub invariant-loop-role : goal.invariant-loop-role
invariant-loop-role g l =
    IsReported l.stores.old.now l.stores.new.now (map (λ p. pair_of p) l.allowed) (flat_map (λ role. map (λ table. (role.now, table.now)) l.tables) (take l.role-index l.roles)) l.fn.report l.report
