-- The negator and the commutator of a comparison (PostgreSQL: Operator Optimization Information).
use Rattle.value.specs.declared.operators.Comparison.{Comparison}
use Rattle.value.specs.declared.operators.Comparison.TheVariants.{Equal, NotEqual, Less, LessOrEqual, Greater, GreaterOrEqual}

-- true where the other is false, and false where it is true
abbrev pub negator : Comparison → Comparison
negator Equal = NotEqual
negator NotEqual = Equal
negator Less = GreaterOrEqual
negator LessOrEqual = Greater
negator Greater = LessOrEqual
negator GreaterOrEqual = Less

-- the same where the operands are exchanged
abbrev pub commutator : Comparison → Comparison
commutator Equal = Equal
commutator NotEqual = NotEqual
commutator Less = Greater
commutator LessOrEqual = GreaterOrEqual
commutator Greater = Less
commutator GreaterOrEqual = LessOrEqual
