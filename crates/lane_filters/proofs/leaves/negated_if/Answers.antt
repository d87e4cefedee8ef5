use Rattle.std.proofs.Common.{◌≡◌, Bool, false, List, [], ◌∷◌, map, refl, sym, ap, ◌∙◌}
use Rattle.value.specs.declared.order.Truth.{Truth}
use Rattle.eval.specs.Operators.{negated_if}
use Rattle.lane_filters.proofs.leaves.negated_if.Goals as goal

as_written : (ts : List Truth) → ts ≡ map (negated_if false) ts
as_written [] = refl
as_written (t ∷ ts) = λ p. t ∷ as_written ts p

pub returns-else-negated : goal.returns-else-negated
returns-else-negated g c = as_written c.args.truths ∙ ap (λ (b : Bool). map (negated_if b) c.args.truths) (sym c.if-negated.false)
