-- Truth values as values, and back.
use Rattle.std.proofs.Common.{◌≡◌, Bool, true, false, refl}
use Rattle.value.specs.Conditions.{at_truth, truth_at}
use Rattle.value.specs.Orders.{is_true, of_bool}
use Rattle.value.specs.declared.order.Truth.{Truth}
use Rattle.value.specs.declared.order.Truth.TheVariants.{False, Unknown, True}

pub truth_back : (t : Truth) → truth_at (at_truth t) ≡ t
truth_back False = refl
truth_back Unknown = refl
truth_back True = refl

pub true_bool : (b : Bool) → is_true (of_bool b) ≡ b
true_bool true = refl
true_bool false = refl
