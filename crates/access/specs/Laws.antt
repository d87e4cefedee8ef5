-- Laws of guards.
use Rattle.std.specs.Prelude.{◌≡◌, true, false, [], filter}
use Rattle.std.specs.List.{list_all}
use Rattle.value.specs.Datum.{Row}
use Rattle.value.specs.Names.{Name}
use Rattle.expr.specs.Movable.{movable}
use Rattle.row_objects.specs.Objects.{Table}
use Rattle.catalog.specs.Catalog.{Catalog}
use Rattle.access.specs.Access.{bypasses_policies, permits, sees}
use Rattle.tuples.specs.Guards.{All, None, shows}
use Rattle.access.specs.Guards.{guard}

-- if no policy of the table can fault, the guard is true on a row exactly where the role sees it
abbrev pub GuardShows : Type 0
GuardShows = (cat : Catalog) (r : Name) (t : Table) (row : Row) → list_all (λ p. movable p.predicate) t.policies ≡ true → shows r (guard cat r t) row ≡ sees cat r t row

-- it is All exactly where the role bypasses the policies
abbrev pub AllBypasses : Type 0
AllBypasses = (cat : Catalog) (r : Name) (t : Table) → (guard cat r t ≡ All → bypasses_policies cat r t ≡ true) × (bypasses_policies cat r t ≡ true → guard cat r t ≡ All)

-- it is None exactly where the role does not bypass them and no permissive policy applies to it
abbrev pub NoneIsUnpermitted : Type 0
NoneIsUnpermitted = (cat : Catalog) (r : Name) (t : Table) →
    (guard cat r t ≡ None → (bypasses_policies cat r t ≡ false) × (filter (permits cat r) t.policies ≡ []))
    × ((bypasses_policies cat r t ≡ false) × (filter (permits cat r) t.policies ≡ []) → guard cat r t ≡ None)
