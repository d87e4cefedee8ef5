-- Guards play no part in which codes a plan may have.
use Rattle.std.proofs.Common.{◌≡◌, ℕ, zero, suc, ◌-◌, Bool, not, nat_le, ◌==◌, ◌&&◌, ◌||◌, List, [], ◌∷◌, ◌++◌, length, take, drop, refl, ap, ◌∙◌}
use Rattle.std.specs.List.{list_any, range_with_len}
use Rattle.expr.specs.declared.code.Access.{Access}
use Rattle.expr.specs.declared.code.Access.TheVariants.{Full, Index, Range}
use Rattle.expr.specs.declared.code.Method.{Method}
use Rattle.expr.specs.declared.code.Method.TheVariants.{Nested, Hash, Merge}
use Rattle.expr.specs.declared.code.CodeStep.{CodeStep}
use Rattle.expr.specs.Bound.{BoundExpr}
use Rattle.expr.specs.Codes.{Code, Empty, Steps}
use Rattle.trailcheck.specs.Guards.{Guard}
use Rattle.trailcheck.specs.Admissible.{are_allowed_steps, are_left_steps, bounds, condition_at, equates, is_admissible, is_allowed_access, is_allowed_method, is_allowed_step, is_connected, is_indexed, is_joined, is_next, is_refuted, is_some_and, is_waiting}
use Rattle.trailcheck.specs.Entries.{is_among}
use Rattle.trailcheck.specs.Settings.{Setting}
use Rattle.trailcheck.specs.Shapes.{entry_index, inner_steps}
use Rattle.code_costs.specs.Best.{Problem, estimates}
use Rattle.code_costs.specs.Cost.{cost}

module _ (frame other : List Guard) (same : length frame ≡ length other) (indexed : List (List ℕ)) (conditions lefts : List BoundExpr) where
  abbrev here : Setting
  here = record { frame = frame; indexed = indexed; conditions = conditions; lefts = lefts }

  abbrev there : Setting
  there = record { frame = other; indexed = indexed; conditions = conditions; lefts = lefts }

  same_condition : (number : ℕ) → condition_at here number ≡ condition_at there number
  same_condition zero = refl
  same_condition (suc k) = refl

  same_access : (entry : ℕ) (access : Access) → is_allowed_access here entry access ≡ is_allowed_access there entry access
  same_access entry Full = refl
  same_access entry (Index column) = refl
  same_access entry (Range column bound) = ap (λ o. is_indexed here entry column && is_some_and (bounds entry column) o) (same_condition bound)

  same_method : (placed : List ℕ) (entry : ℕ) (method : Method) → is_allowed_method here placed entry method ≡ is_allowed_method there placed entry method
  same_method placed entry Nested = refl
  same_method placed entry (Hash conjunct) = ap (is_some_and (equates placed entry)) (same_condition conjunct)
  same_method placed entry (Merge conjunct) = ap (is_some_and (equates placed entry)) (same_condition conjunct)

  same_next : (placed : List ℕ) (s : CodeStep) → is_next here placed s ≡ is_next there placed s
  same_next placed s = ap (λ n. (nat_le 1 s.entry && nat_le s.entry (n - length lefts)) && not (is_among placed (entry_index s))) same

  same_connected : (placed : List ℕ) (entry : ℕ) → is_connected here placed entry ≡ is_connected there placed entry
  same_connected placed entry = ap (λ n. is_joined here placed entry || not (list_any (is_waiting here placed) (range_with_len 0 (n - length lefts)))) same

  both : {a b c d : Bool} → a ≡ b → c ≡ d → (a && c) ≡ (b && d)
  both {a} {b} {c} {d} e f = ap (λ x. x && c) e ∙ ap (λ y. b && y) f

  same_step : (placed : List ℕ) (s : CodeStep) → is_allowed_step here placed s ≡ is_allowed_step there placed s
  same_step placed s = both (both (same_next placed s) (same_connected placed (entry_index s))) (both (same_access (entry_index s) s.access) (same_method placed (entry_index s) s.method))

  same_steps : (placed : List ℕ) (steps : List CodeStep) → are_allowed_steps here placed steps ≡ are_allowed_steps there placed steps
  same_steps placed [] = refl
  same_steps placed (s ∷ ss) = both (same_step placed s) (same_steps (placed ++ entry_index s ∷ []) ss)

  -- of the guards only their number plays a part
  same_admissible : (code : Code) → is_admissible here code ≡ is_admissible there code
  same_admissible Empty = refl
  same_admissible (Steps ss) =
      ap (λ b. not (is_refuted here) && b)
      (both (ap (λ n. length ss == n) same)
      (both (same_steps [] (inner_steps here ss) ∙ ap (λ n. are_allowed_steps there [] (take (n - length lefts) ss)) same) (ap (λ n. are_left_steps (n - length lefts) lefts (drop (n - length lefts) ss)) same)))

pub admissible_alike : (at to : Setting) (code : Code) → length at.frame ≡ length to.frame → at.indexed ≡ to.indexed → at.conditions ≡ to.conditions → at.lefts ≡ to.lefts → is_admissible at code ≡ is_admissible to code
admissible_alike at to code frames indexes conditions lefts =
    ap (λ (is : List (List ℕ)). is_admissible (record { frame = at.frame; indexed = is; conditions = at.conditions; lefts = at.lefts }) code) indexes
    ∙ ap (λ (cs : List BoundExpr). is_admissible (record { frame = at.frame; indexed = to.indexed; conditions = cs; lefts = at.lefts }) code) conditions
    ∙ ap (λ (ons : List BoundExpr). is_admissible (record { frame = at.frame; indexed = to.indexed; conditions = to.conditions; lefts = ons }) code) lefts
    ∙ same_admissible at.frame to.frame frames to.indexed to.conditions to.lefts code

pub cost_alike : (p q : Problem) (code : Code) → p.setting.conditions ≡ q.setting.conditions → p.setting.lefts ≡ q.setting.lefts → p.statistics ≡ q.statistics → p.wanted ≡ q.wanted → cost (estimates p) code ≡ cost (estimates q) code
cost_alike p q code conditions lefts statistics wanted =
    ap (λ cs. cost (record { statistics = p.statistics; conditions = cs; lefts = p.setting.lefts; wanted = p.wanted }) code) conditions
    ∙ ap (λ ons. cost (record { statistics = p.statistics; conditions = q.setting.conditions; lefts = ons; wanted = p.wanted }) code) lefts
    ∙ ap (λ ss. cost (record { statistics = ss; conditions = q.setting.conditions; lefts = q.setting.lefts; wanted = p.wanted }) code) statistics
    ∙ ap (λ w. cost (record { statistics = q.statistics; conditions = q.setting.conditions; lefts = q.setting.lefts; wanted = w }) code) wanted
