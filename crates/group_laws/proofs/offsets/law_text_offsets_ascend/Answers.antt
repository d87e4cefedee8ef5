use Rattle.group_laws.proofs.Texts.{offsets_ascend}
use Rattle.group_laws.proofs.offsets.law_text_offsets_ascend.Goals as goal

pub returns : goal.returns
returns c = λ text q is. offsets_ascend text q (c.law_parsing_is_determined.ensures.query.found text q is).0
