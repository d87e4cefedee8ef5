-- A left join that becomes a join, by its parts.
use Rattle.std.proofs.Common.{◌≡◌, ◌∙◌, sym, ap, Bool, true, false, Ok, Err}
use Rattle.expr.specs.Bound.{BoundExpr}
use Rattle.predicates.specs.NullRows.{rejects_null_rows}
use Rattle.row_terms.specs.Terms.{Term, Filtered, Joined, LeftJoined, covers}
use Rattle.algebra.specs.declared.step.Reason.TheVariants.{Unmet}
use Rattle.algebra.specs.Rules.{where_met, make_inner}

module _ (t x y : Term) (f on : BoundExpr) (b : Bool) (is : t ≡ Filtered f (LeftJoined on x y)) (tested : b ≡ rejects_null_rows (covers y) f) where
  made : (c : Bool) → b ≡ c → make_inner t ≡ where_met c (Filtered f (Filtered on (Joined x y)))
  made c h = ap make_inner is ∙ ap (λ d. where_met d (Filtered f (Filtered on (Joined x y)))) (sym tested ∙ h)

  pub unmet : b ≡ false → make_inner t ≡ Err Unmet
  unmet h = made false h

  pub met : b ≡ true → (z : Term) → z ≡ Filtered on (Joined x y) → make_inner t ≡ Ok (Filtered f z)
  met h z e = made true h ∙ ap (λ z. Ok (Filtered f z)) (sym e)
