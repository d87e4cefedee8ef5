use Rattle.std.proofs.Common.{take, All, FitsSigned, w64}
use Rattle.columns.proofs.compare.known_to_fit.Given as goal

abbrev pub invariant-loop-value : goal.invariant-loop-value
invariant-loop-value l = All (FitsSigned w64) (take l.value-index l.values)
