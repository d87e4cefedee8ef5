-- The arms of a CASE that fit a type.
use Rattle.std.proofs.Common.{List, [], ◌∷◌}
use Rattle.expr.specs.Bound.{BoundExpr, bound_arms_of}
use Rattle.scope.specs.Entry.{Entry}
use Rattle.typing.specs.Typing.{TypeOf}
use Rattle.type_laws.specs.Rules.{ArmsFit, IsFitting}
use Rattle.type_laws.proofs.Fitting.{fits_further}

module _ (entries : List Entry) where
  pub fit_further : (xs : List (BoundExpr × BoundExpr)) (a b : TypeOf) → ArmsFit entries (bound_arms_of xs) a → IsFitting a b → ArmsFit entries (bound_arms_of xs) b
  fit_further [] a b h k = tt
  fit_further (x ∷ xs) a b h k = (h.0, (h.1.0, h.1.1, fits_further h.1.0 a b h.1.2 k), fit_further xs a b h.2 k)
