-- A query without left joins.
use Rattle.std.proofs.Common.{◌≡◌, ◌-◌, List, [], length, ap, arith}
use Rattle.std.proofs.lemmas.List.{take_all}
use Rattle.value.specs.Datum.{Row}
use Rattle.value.specs.Names.{Name}
use Rattle.tuples.specs.Combinations.{combinations}
use Rattle.tuples.specs.LeftCombinations.{left_combinations}

-- its combinations are all of them
pub no_lefts : (role : Name) (tables : List (List Row)) → left_combinations role [] tables ≡ combinations tables
no_lefts role tables = ap combinations (take_all (length tables - 0) tables (omega arith))
