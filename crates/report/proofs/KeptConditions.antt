-- The conditions that keep a row, one after another.
use Rattle.std.proofs.Common.{◌≡◌, List, ◌∷◌, true, false, sym, ap, ◌∙◌, Ok}
use Rattle.memory.specs.Gives.{IsFailure}
use Rattle.memory.specs.declared.failure.Failure.{Failure}
use Rattle.memory.specs.declared.failure.Failure.TheVariants as failures
use Rattle.value.specs.Names.{Name}
use Rattle.value.specs.declared.faults.Fault.{Fault}
use Rattle.eval.specs.Meaning.{Cells, meaning}
use Rattle.expr.specs.Bound.{BoundExpr}
use Rattle.report.specs.QueryStages.{keeps, truth_in, unless_dropped}

module _ (cells : Cells) (role : Name) (es rest : List BoundExpr) (e : BoundExpr) (left : List BoundExpr) (here : left ≡ e ∷ rest) (whole : keeps cells role left ≡ keeps cells role es) where
  next_of : unless_dropped (truth_in (meaning cells role e)) (keeps cells role rest) ≡ keeps cells role es
  next_of = sym (ap (keeps cells role) here) ∙ whole

  pub kept_on : truth_in (meaning cells role e) ≡ Ok true → keeps cells role rest ≡ keeps cells role es
  kept_on is = ap (λ r. unless_dropped r (keeps cells role rest)) (sym is) ∙ next_of

  pub dropped_by : truth_in (meaning cells role e) ≡ Ok false → keeps cells role es ≡ Ok false
  dropped_by is = sym next_of ∙ ap (λ r. unless_dropped r (keeps cells role rest)) is

  pub failed_by : (failure : Failure Fault) → IsFailure failure (truth_in (meaning cells role e)) → IsFailure failure (keeps cells role es)
  failed_by (failures.Error f) is = sym next_of ∙ ap (λ r. unless_dropped r (keeps cells role rest)) is
  failed_by failures.OutOfMemory is = tt
