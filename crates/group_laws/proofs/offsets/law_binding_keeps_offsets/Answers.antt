use Rattle.group_laws.proofs.KeptOffsets.{binding_keeps_offsets}
use Rattle.group_laws.proofs.offsets.law_binding_keeps_offsets.Goals as goal

pub returns : goal.returns
returns c = binding_keeps_offsets
