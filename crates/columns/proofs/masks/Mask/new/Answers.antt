use Rattle.std.proofs.Common.{refl}
use Rattle.columns.specs.Bits.{bits_from}
use Rattle.columns.proofs.Bits.{nothing}
use Rattle.columns.proofs.masks.Mask.new.Goals as goal

pub invariant_of-result : goal.invariant_of-result
invariant_of-result g c = nothing c.new.result.items c.new.ensures.items

pub returns : goal.returns
unfolding bits_from
returns g c = refl
