-- The words of left joins in a code.
use Rattle.std.proofs.Common.{◌≡◌, ℕ, nat_lt, nat_le, Bool, true, false, ◌&&◌, if◌then◌else◌, List, [], ◌∷◌, refl, sym, ap, ◌∙◌, arith}
use Rattle.std.specs.Prelude.{map}
use Rattle.std.specs.List.{list_all}
use Rattle.std.proofs.lemmas.Bool.{ltb-false, le-leb}
use Rattle.expr.specs.Codes as codes
use Rattle.expr.specs.declared.code.CodeStep.{CodeStep}
use Rattle.plan_texts.specs.Plans.{Empty, Steps}
use Rattle.bound_plans.specs.LeftJoins.{is_marked, are_marked, plain_code, marked_step, marked_code, MarksAreRight}

marked_is : (inner : ℕ) (s : CodeStep) → is_marked inner (marked_step inner s) ≡ true
marked_is inner s = go (nat_lt inner s.entry) refl
  where
    go : (b : Bool) → nat_lt inner s.entry ≡ b → (if b then nat_lt inner s.entry else nat_le s.entry inner) ≡ true
    go true e = e
    go false e = le-leb s.entry inner (ltb-false inner s.entry e)

all_marked : (inner : ℕ) (steps : List CodeStep) → list_all (is_marked inner) (map (marked_step inner) steps) ≡ true
all_marked inner [] = refl
all_marked inner (s ∷ steps) = ap (λ b. b && list_all (is_marked inner) (map (marked_step inner) steps)) (marked_is inner s) ∙ all_marked inner steps

plain_back : (inner : ℕ) (steps : List CodeStep) → map (λ s. s.step) (map (marked_step inner) steps) ≡ steps
plain_back inner [] = refl
plain_back inner (s ∷ steps) = ap (λ ss. s ∷ ss) (plain_back inner steps)

pub marks_are_right : MarksAreRight
marks_are_right inner codes.Empty = (refl, refl)
marks_are_right inner (codes.Steps steps) = (all_marked inner steps, ap (λ ss. codes.Steps ss) (plain_back inner steps))
