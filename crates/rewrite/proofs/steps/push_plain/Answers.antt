use Rattle.std.proofs.Common.{◌≡◌, ◌∙◌, ℕ, Bool, List, [], ◌∷◌, ◌++◌, map, refl, sym, ap, ap₂}
use Rattle.std.proofs.lemmas.List.{map_push}
use Rattle.std.proofs.lemmas.Result.{on_ok_weaker}
use Rattle.row_terms.specs.declared.path.Branch.{Branch}
use Rattle.algebra.specs.declared.step.Step as declared
use Rattle.algebra.specs.Steps.{Step}
use Rattle.algebra.specs.View.{step_of}
use Rattle.rewrite.specs.Trails.{plain, below_path}
use Rattle.rewrite.proofs.Below.{below_step}
use Rattle.rewrite.proofs.steps.push_plain.Goals as goal

abbrev as_step : ℕ → Bool → List Branch → List ℕ → Step
as_step rule is_reverse path arguments = record { rule = rule; is_reverse = is_reverse; path = path; arguments = arguments }

pushed : {A : Type 0} (old new : List (declared.Step A)) (s : declared.Step A) (rule : ℕ) (is_reverse : Bool) (p path : List Branch) (arguments : List ℕ) → step_of s ≡ as_step rule is_reverse p arguments → p ≡ path → arguments ≡ [] → new ≡ old ++ s ∷ [] →
    map step_of new ≡ map step_of old ++ below_path path (plain rule is_reverse ∷ [])
pushed old new s rule is_reverse p path arguments is q a n =
    ap (map step_of) n ∙ map_push step_of old s
    ∙ ap (λ t. map step_of old ++ t ∷ []) (is ∙ ap₂ (as_step rule is_reverse) q a)
    ∙ ap (λ l. map step_of old ++ l) (sym (below_step path rule is_reverse))

pub returns : goal.returns
returns g c = on_ok_weaker c.push.result (λ n. pushed c.args.trail.now c.push.new.self _ c.args.rule c.args.is_reverse c.in_ok-path.path c.args.path.now c.new.result refl c.in_ok-path.ensures c.new.ensures n) c.push.ensures.ok
