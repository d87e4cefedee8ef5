use Rattle.std.proofs.Common.{List, Bool, [], ◌∷◌, ◌++◌, length, sym, ap, subst, ◌∙◌, arith}
use Rattle.columns.specs.Bits.{IsMaskOf}
use Rattle.columns.proofs.Bits.{length-bits_from, pushed}
use Rattle.columns.proofs.masks.Mask.push.Goals as goal

pub overflow_add-self : goal.overflow_add-self
overflow_add-self g c = record { fits = omega (arith, c.requires, ap length c.self.view_is, length-bits_from c.self.inside.words.items 0 c.self.inside.len) }

pub invariant_of-self-2 : goal.invariant_of-self-2
invariant_of-self-2 g c =
    subst (λ (bs : List Bool). IsMaskOf bs c.push_bit.new.words.items) (sym (pushed c.self.inside.words.items c.push_bit.new.words.items c.self.inside.len c.args.bit c.in_ok-push_bit.ensures.ok)) c.in_ok-push_bit.ensures.ok

pub returns-clause-ok : goal.returns-clause-ok
returns-clause-ok g c =
    pushed c.self.inside.words.items c.push_bit.new.words.items c.self.inside.len c.args.bit c.in_ok-push_bit.ensures.ok ∙ ap (λ (bs : List Bool). bs ++ c.args.bit ∷ []) c.self.view_is
