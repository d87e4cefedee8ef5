-- The forms of a condition, and the values that they keep.
use Rattle.std.specs.Prelude.{◌≡◌, ℕ, true, false, ◌&&◌, List, Option, Some}
use Rattle.value.specs.declared.operators.Comparison.TheVariants.{Equal}
use Rattle.expr.specs.Bound.{BoundExpr, Comparison}
use Rattle.expr.specs.Movable.{movable}
use Rattle.eval.specs.Meaning.{Cells, meaning, condition, holds}
use Rattle.predicates.specs.Offsets.{without_offsets}
use Rattle.predicates.specs.Inward.{inward}
use Rattle.predicates.specs.Folded.{folded}
use Rattle.predicates.specs.Connectives.{both, parted, factored}
use Rattle.predicates.specs.Equalities.{not_null_form, is_never_true}

-- a form of movable expressions that are movable, with the same value on every row for every role
pub record KeepsValue (form : BoundExpr → BoundExpr) : Type 0 where
  pub stays_movable : (e : BoundExpr) → movable e ≡ true → movable (form e) ≡ true
  pub same_value : (e : BoundExpr) → movable e ≡ true → (cells : Cells) (role : List ℕ) → meaning cells role (form e) ≡ meaning cells role e

-- the same truth value, true, false or null, or the same fault, on every row for every role
pub record KeepsTruth (form : BoundExpr → BoundExpr) : Type 0 where
  pub stays_movable : (e : BoundExpr) → movable e ≡ true → movable (form e) ≡ true
  pub same_truth : (e : BoundExpr) (cells : Cells) (role : List ℕ) → condition (meaning cells role (form e)) ≡ condition (meaning cells role e)

abbrev pub OffsetsKeepValue : Type 0
OffsetsKeepValue = KeepsValue without_offsets

abbrev pub FoldingKeepsValue : Type 0
FoldingKeepsValue = KeepsValue folded

abbrev pub InwardKeepsTruth : Type 0
InwardKeepsTruth = KeepsTruth inward

-- ---- conditions that hold

-- one AND of two movable conditions is movable; it holds where both do
pub record BothHold : Type 0 where
  pub stays_movable : (e f : BoundExpr) → movable e ≡ true → movable f ≡ true → movable (both e f) ≡ true
  pub same_rows : (e f : BoundExpr) (cells : Cells) (role : List ℕ) → holds cells role (both e f) ≡ holds cells role e && holds cells role f

-- the two parts of a movable condition are movable; it holds where both do
pub record PartsHold : Type 0 where
  pub first_movable : (e first rest : BoundExpr) → movable e ≡ true → parted e ≡ Some (first, rest) → movable first ≡ true
  pub rest_movable : (e first rest : BoundExpr) → movable e ≡ true → parted e ≡ Some (first, rest) → movable rest ≡ true
  pub same_rows : (e first rest : BoundExpr) → parted e ≡ Some (first, rest) → (cells : Cells) (role : List ℕ) → holds cells role e ≡ holds cells role first && holds cells role rest

-- a form of some movable expressions that is movable, and holds on the same rows for the same roles
pub record KeepsRows (form : BoundExpr → Option BoundExpr) : Type 0 where
  pub stays_movable : (e f : BoundExpr) → movable e ≡ true → form e ≡ Some f → movable f ≡ true
  pub same_rows : (e f : BoundExpr) → movable e ≡ true → form e ≡ Some f → (cells : Cells) (role : List ℕ) → holds cells role f ≡ holds cells role e

abbrev pub FactoringKeeps : Type 0
FactoringKeeps = KeepsRows factored

abbrev pub NotNullKeeps : Type 0
NotNullKeeps = KeepsRows not_null_form

-- an equality holds where that with its sides exchanged does
abbrev pub EqualityTurns : Type 0
EqualityTurns = (e f : BoundExpr) (offset other : ℕ) (cells : Cells) (role : List ℕ) → holds cells role (Comparison Equal offset e f) ≡ holds cells role (Comparison Equal other f e)

-- two equalities with a side in common make a third
abbrev pub EqualityChains : Type 0
EqualityChains = (e f g : BoundExpr) (one two three : ℕ) (cells : Cells) (role : List ℕ) → holds cells role (Comparison Equal one e f) ≡ true → holds cells role (Comparison Equal two f g) ≡ true → holds cells role (Comparison Equal three e g) ≡ true

abbrev pub NeverTrue : Type 0
NeverTrue = (e : BoundExpr) → is_never_true e ≡ true → (cells : Cells) (role : List ℕ) → holds cells role e ≡ false
