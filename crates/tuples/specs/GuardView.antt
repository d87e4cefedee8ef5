-- The view of guards.
use Rattle.tuples.specs.Guards.{Guard, All, None, Expr}
use Rattle.tuples.specs.declared.guard.Guard as declared
use Rattle.tuples.specs.declared.guard.Guard.TheVariants as code

abbrev pub guard_of : {A : Type 0} → declared.Guard A → Guard
guard_of code.All = All
guard_of code.None = None
guard_of (code.Expr predicate) = Expr predicate
