use Rattle.std.proofs.Common.{◌≤◌, List, Bool, length, take, sym, ap, subst, ◌∙◌, arith}
use Rattle.columns.specs.Bits.{IsMaskOf}
use Rattle.columns.proofs.Bits.{length-bits_from, cut}
use Rattle.columns.proofs.masks.Mask.truncate.Goals as goal

pub truncate_bits-requires-clause-within : goal.truncate_bits-requires-clause-within
truncate_bits-requires-clause-within g c = omega (arith, c.requires, ap length c.self.view_is, length-bits_from c.self.inside.words.items 0 c.self.inside.len)

pub invariant_of-self : goal.invariant_of-self
invariant_of-self g c =
    let within : c.args.len ≤ c.self.inside.len = omega (arith, c.requires, ap length c.self.view_is, length-bits_from c.self.inside.words.items 0 c.self.inside.len) in
    subst (λ (bs : List Bool). IsMaskOf bs c.truncate_bits.new.words.items) (sym (cut c.self.inside.words.items c.truncate_bits.new.words.items c.self.inside.len c.args.len within c.truncate_bits.ensures)) c.truncate_bits.ensures

pub returns : goal.returns
returns g c =
    let within : c.args.len ≤ c.self.inside.len = omega (arith, c.requires, ap length c.self.view_is, length-bits_from c.self.inside.words.items 0 c.self.inside.len) in
    cut c.self.inside.words.items c.truncate_bits.new.words.items c.self.inside.len c.args.len within c.truncate_bits.ensures ∙ ap (take c.args.len) c.self.view_is
