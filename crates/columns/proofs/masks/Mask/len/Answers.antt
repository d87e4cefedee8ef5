use Rattle.std.proofs.Common.{sym, ap, ◌∙◌, length}
use Rattle.columns.proofs.Bits.{length-bits_from}
use Rattle.columns.proofs.masks.Mask.len.Goals as goal

pub returns : goal.returns
returns g c = sym (length-bits_from c.self.inside.words.items 0 c.self.inside.len) ∙ ap length c.self.view_is
