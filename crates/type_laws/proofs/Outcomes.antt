-- The types of the outcomes of operators.
use Rattle.std.proofs.Common.{◌≡◌, inl, inr, ℕ, ℤ, Bool, true, List, Some, Result, Ok, Err, refl, ap, ◌∙◌}
use Rattle.value.specs.Datum.{Datum, null, int, text, bool}
use Rattle.value.specs.Truths.{negated as turned}
use Rattle.value.specs.Conditions.{at_truth, truth_at}
use Rattle.value.specs.Exact.{as_number, with_number, with_numbers, negated_of, sum_of, difference_of, product_of, quotient_of, remainder_of}
use Rattle.value.specs.Casts.{cast_of}
use Rattle.value.specs.Texts.{bigint_at}
use Rattle.value.specs.declared.order.Truth.{Truth}
use Rattle.value.specs.declared.order.Truth.TheVariants.{False, Unknown, True}
use Rattle.value.specs.declared.types.ColType.{ColType}
use Rattle.value.specs.declared.types.ColType.TheVariants.{Bigint, Text, Boolean}
use Rattle.value.specs.declared.types.FaultKind.{FaultKind}
use Rattle.value.specs.declared.faults.Fault.{Fault}
use Rattle.value.specs.declared.operators.Arithmetic as operators
use Rattle.value.specs.declared.operators.Arithmetic.TheVariants.{Add, Subtract, Multiply, Divide, Remainder}
use Rattle.value.specs.declared.operators.Comparison as operators'
use Rattle.eval.specs.Operators.{arithmetic_of, comparison_of, between_of, in_of, null_test, negated_if}
use Rattle.eval.specs.Meaning.{Outcome, at_offset, negation, arithmetic, comparison, between, membership, null_check, logical_not, cast_at, as_datum, when_true}
use Rattle.typing.specs.Typing.{TypeOf, type_of, can_cast}
use Rattle.type_laws.specs.Rules.{IsFitting, HasType}
use Rattle.type_laws.specs.Laws.{GivesType}
use Rattle.type_laws.proofs.Fitting.{fits_further}

pub gives_further : (a t : TypeOf) (m : Outcome) → GivesType a m → IsFitting a t → GivesType t m
gives_further a t (Ok d) h f = fits_further (type_of d) a t h f
gives_further a t (Err fault) h f = tt

-- ---- numbers

number_given : (offset : ℕ) (r : Result ℤ FaultKind) → GivesType (Some Bigint) (at_offset offset (as_number r))
number_given offset (Ok n) = inr refl
number_given offset (Err kind) = tt

of_one : (offset : ℕ) (f : ℤ → Result ℤ FaultKind) (x : Datum) → GivesType (Some Bigint) (at_offset offset (with_number f x))
of_one offset f (int x) = number_given offset (f x)
of_one offset f null = inl refl
of_one offset f (text t) = inl refl
of_one offset f (bool b) = inl refl

of_two : (offset : ℕ) (f : ℤ → ℤ → Result ℤ FaultKind) (x y : Datum) → GivesType (Some Bigint) (at_offset offset (with_numbers f x y))
of_two offset f (int x) (int y) = number_given offset (f x y)
of_two offset f (int x) null = inl refl
of_two offset f (int x) (text t) = inl refl
of_two offset f (int x) (bool b) = inl refl
of_two offset f null y = inl refl
of_two offset f (text t) y = inl refl
of_two offset f (bool b) y = inl refl

pub negation_gives : (offset : ℕ) (m : Outcome) → GivesType (Some Bigint) (negation offset m)
negation_gives offset (Ok x) = of_one offset negated_of x
negation_gives offset (Err fault) = tt

of_operator : (op : operators.Arithmetic) (offset : ℕ) (x y : Datum) → GivesType (Some Bigint) (at_offset offset (arithmetic_of op x y))
of_operator Add offset = of_two offset sum_of
of_operator Subtract offset = of_two offset difference_of
of_operator Multiply offset = of_two offset product_of
of_operator Divide offset = of_two offset quotient_of
of_operator Remainder offset = of_two offset remainder_of

pub arithmetic_gives : (op : operators.Arithmetic) (offset : ℕ) (m n : Outcome) → GivesType (Some Bigint) (arithmetic op offset m n)
arithmetic_gives op offset (Ok x) (Ok y) = of_operator op offset x y
arithmetic_gives op offset (Ok x) (Err fault) = tt
arithmetic_gives op offset (Err fault) n = tt

-- ---- truth values

truth_given : (t : Truth) → HasType (Some Boolean) (at_truth t)
truth_given True = inr refl
truth_given False = inr refl
truth_given Unknown = inl refl

pub comparison_gives : (op : operators'.Comparison) (m n : Outcome) → GivesType (Some Boolean) (comparison op m n)
comparison_gives op (Ok x) (Ok y) = truth_given (comparison_of op x y)
comparison_gives op (Ok x) (Err fault) = tt
comparison_gives op (Err fault) n = tt

pub between_gives : (negated : Bool) (m low high : Outcome) → GivesType (Some Boolean) (between negated m low high)
between_gives negated (Ok x) (Ok y) (Ok z) = truth_given (negated_if negated (between_of x y z))
between_gives negated (Ok x) (Ok y) (Err fault) = tt
between_gives negated (Ok x) (Err fault) high = tt
between_gives negated (Err fault) low high = tt

pub membership_gives : (negated : Bool) (m : Outcome) (values : List Datum) → GivesType (Some Boolean) (membership negated m values)
membership_gives negated (Ok x) values = truth_given (negated_if negated (in_of x values))
membership_gives negated (Err fault) values = tt

pub null_check_gives : (negated : Bool) (m : Outcome) → GivesType (Some Boolean) (null_check negated m)
null_check_gives negated (Ok x) = truth_given (negated_if negated (null_test x))
null_check_gives negated (Err fault) = tt

pub not_gives : (m : Outcome) → GivesType (Some Boolean) (logical_not m)
not_gives (Ok x) = truth_given (turned (truth_at x))
not_gives (Err fault) = tt

pub truth_gives : (r : Result Truth Fault) → GivesType (Some Boolean) (as_datum r)
truth_gives (Ok t) = truth_given t
truth_gives (Err fault) = tt

-- ---- casts

can_be_cast : (to : ColType) (a : TypeOf) (x : Datum) → HasType a x → can_cast to a ≡ true → can_cast to (type_of x) ≡ true
can_be_cast to a x (inl e) k = ap (can_cast to) e
can_be_cast to a x (inr e) k = ap (can_cast to) e ∙ k

cast_given : (to : ColType) (offset : ℕ) (x : Datum) → can_cast to (type_of x) ≡ true → GivesType (Some to) (at_offset offset (cast_of to x))
cast_given Bigint offset null k = inl refl
cast_given Bigint offset (int n) k = inr refl
cast_given Bigint offset (text t) k = number_given offset (bigint_at t)
cast_given Bigint offset (bool b) k = absurd (cc)
cast_given Text offset null k = inl refl
cast_given Text offset (int n) k = inr refl
cast_given Text offset (text t) k = inr refl
cast_given Text offset (bool b) k = absurd (cc)
cast_given Boolean offset null k = inl refl
cast_given Boolean offset (int n) k = absurd (cc)
cast_given Boolean offset (text t) k = absurd (cc)
cast_given Boolean offset (bool b) k = inr refl

pub cast_gives : (to : ColType) (offset : ℕ) (a : TypeOf) (m : Outcome) → GivesType a m → can_cast to a ≡ true → GivesType (Some to) (cast_at to offset m)
cast_gives to offset a (Ok x) h k = cast_given to offset x (can_be_cast to a x h k)
cast_gives to offset a (Err fault) h k = tt

-- ---- CASE

pub arm_gives : (t : TypeOf) (c : Result Truth Fault) (result rest : Outcome) → GivesType t result → GivesType t rest → GivesType t (when_true c result rest)
arm_gives t (Ok True) result rest h k = h
arm_gives t (Ok False) result rest h k = k
arm_gives t (Ok Unknown) result rest h k = k
arm_gives t (Err fault) result rest h k = tt
