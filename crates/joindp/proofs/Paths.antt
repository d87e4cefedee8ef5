-- The codes that a plan may have are the paths of the search, and cost the same.
use Rattle.std.proofs.Common.{◌≡◌, ◌∙◌, refl, sym, ap, ap₂, ℕ, ◌+◌, ◌^◌, ◌≤◌, true, false, List, [], ◌∷◌, ◌++◌, length, arith, length-append, eqb-true}
use mathlib.Core.Path.{fun_ext}
use Rattle.std.proofs.lemmas.Bool.{eq-eqb}
use Rattle.expr.specs.declared.code.CodeStep.{CodeStep}
use Rattle.predicates.proofs.Movables.{and_left, and_right}
use Rattle.predicates.proofs.Keeping.{both}
use Rattle.stats.specs.Card.{Entries}
use Rattle.trailcheck.specs.Admissible.{is_allowed_step, are_allowed_steps}
use Rattle.trailcheck.specs.Shapes.{entry_index}
use Rattle.code_costs.specs.Best.{Problem, estimates}
use Rattle.code_costs.specs.Cost.{access_cost, cost_after, step_cost, steps_cost}
use Rattle.joins.specs.Orders.{Order, order_after, order_of}
use Rattle.joindp.specs.Following.{may_follow}
use Rattle.joindp.specs.Search.{After, Start, entry_count, search, set_of}
use Rattle.joindp.specs.Walks.{IsPath, path_cost}
use Rattle.joindp.proofs.NewSteps.{is_new}
use Rattle.joindp.proofs.PlacedSets.{IsPlaced, placed_more, placed_first, all_placed, as_many_placed, same_steps_of}

module _ (p : Problem) (few : entry_count p ≤ 12) where
  -- the step that may follow the placed entries may follow their set
  follows : (placed : List ℕ) (set : ℕ) → IsPlaced (entry_count p) placed set → (s : CodeStep) → is_allowed_step p.setting placed s ≡ may_follow p.setting (set_of set) s
  follows placed set h s = same_steps_of p.setting placed (set_of set) h.bits s

  more : (placed : List ℕ) (set : ℕ) → IsPlaced (entry_count p) placed set → (s : CodeStep) → may_follow p.setting (set_of set) s ≡ true → IsPlaced (entry_count p) (placed ++ entry_index s ∷ []) (set + 2 ^ entry_index s)
  more placed set h s may = let new = is_new p.setting (set_of set) s may in placed_more (entry_count p) placed set (entry_index s) (omega arith) h new.below new.new

  -- ---- after the first step

  pub path_after : (placed : List ℕ) (set : ℕ) (order : Order) (ss : List CodeStep) → IsPlaced (entry_count p) placed set → are_allowed_steps p.setting placed ss ≡ true → length placed + length ss ≡ entry_count p → IsPath (search p) (After set order) ss
  path_after placed set order [] h allowed long = eq-eqb (set + 1) (2 ^ entry_count p) (all_placed (entry_count p) placed set h (omega arith))
  path_after placed set order (s ∷ ss) h allowed long =
      let i = entry_index s in
      let step = and_left (is_allowed_step p.setting placed s) (are_allowed_steps p.setting (placed ++ i ∷ []) ss) allowed in
      let rest = and_right (is_allowed_step p.setting placed s) (are_allowed_steps p.setting (placed ++ i ∷ []) ss) allowed in
      let may : may_follow p.setting (set_of set) s ≡ true = sym (follows placed set h s) ∙ step in
      let l = length-append placed (i ∷ []) in
      (may, path_after (placed ++ i ∷ []) (set + 2 ^ i) (order_after p.setting.conditions i order s.method) ss (more placed set h s may) rest (omega (arith, l)))

  pub steps_after : (placed : List ℕ) (set : ℕ) (order : Order) (ss : List CodeStep) → IsPlaced (entry_count p) placed set → IsPath (search p) (After set order) ss
      → (are_allowed_steps p.setting placed ss ≡ true) × (length placed + length ss ≡ entry_count p)
  steps_after placed set order [] h path =
      let l = as_many_placed (entry_count p) placed set h (eqb-true (set + 1) (2 ^ entry_count p) path) in
      (refl, omega (arith, l))
  steps_after placed set order (s ∷ ss) h path =
      let i = entry_index s in
      let rest = steps_after (placed ++ i ∷ []) (set + 2 ^ i) (order_after p.setting.conditions i order s.method) ss (more placed set h s path.0) path.1 in
      let l = length-append placed (i ∷ []) in
      let long = rest.1 in
      (both (is_allowed_step p.setting placed s) (are_allowed_steps p.setting (placed ++ i ∷ []) ss) (follows placed set h s ∙ path.0) rest.0, omega (arith, l, long))

  pub cost_of_path : (placed : List ℕ) (set : ℕ) (order : Order) (ss : List CodeStep) → IsPlaced (entry_count p) placed set → IsPath (search p) (After set order) ss → path_cost (search p) (After set order) ss ≡ cost_after (estimates p) placed order ss
  cost_of_path placed set order [] h path = refl
  cost_of_path placed set order (s ∷ ss) h path =
      let i = entry_index s in
      ap₂ (λ a b. a + b) (ap (λ (e : Entries). step_cost (estimates p) e order s) (sym (fun_ext h.bits)))
      (cost_of_path (placed ++ i ∷ []) (set + 2 ^ i) (order_after p.setting.conditions i order s.method) ss (more placed set h s path.0) path.1)

  -- ---- from the first step on

  first_follows : (s : CodeStep) → is_allowed_step p.setting [] s ≡ may_follow p.setting (λ entry. false) s
  first_follows s = same_steps_of p.setting [] (λ entry. false) (λ i. refl) s

  first_placed : (s : CodeStep) → may_follow p.setting (λ entry. false) s ≡ true → IsPlaced (entry_count p) (entry_index s ∷ []) (2 ^ entry_index s)
  first_placed s may = let new = is_new p.setting (λ entry. false) s may in placed_first (entry_count p) (entry_index s) (omega arith) new.below

  pub path_of : (ss : List CodeStep) → are_allowed_steps p.setting [] ss ≡ true → length ss ≡ entry_count p → IsPath (search p) Start ss
  path_of [] allowed long = eq-eqb (entry_count p) 0 (sym long)
  path_of (s ∷ ss) allowed long =
      let i = entry_index s in
      let step = and_left (is_allowed_step p.setting [] s) (are_allowed_steps p.setting (i ∷ []) ss) allowed in
      let rest = and_right (is_allowed_step p.setting [] s) (are_allowed_steps p.setting (i ∷ []) ss) allowed in
      let may : may_follow p.setting (λ entry. false) s ≡ true = sym (first_follows s) ∙ step in
      (may, path_after (i ∷ []) (2 ^ i) (order_of i s.access) ss (first_placed s may) rest (omega arith))

  pub steps_of : (ss : List CodeStep) → IsPath (search p) Start ss → (are_allowed_steps p.setting [] ss ≡ true) × (length ss ≡ entry_count p)
  steps_of [] path = (refl, sym (eqb-true (entry_count p) 0 path))
  steps_of (s ∷ ss) path =
      let i = entry_index s in
      let rest = steps_after (i ∷ []) (2 ^ i) (order_of i s.access) ss (first_placed s path.0) path.1 in
      let long = rest.1 in
      (both (is_allowed_step p.setting [] s) (are_allowed_steps p.setting (i ∷ []) ss) (first_follows s ∙ path.0) rest.0, omega (arith, long))

  pub cost_of_all : (ss : List CodeStep) → IsPath (search p) Start ss → path_cost (search p) Start ss ≡ steps_cost (estimates p) ss
  cost_of_all [] path = refl
  cost_of_all (s ∷ ss) path =
      let i = entry_index s in
      ap (λ b. access_cost (estimates p) i s.access + b) (cost_of_path (i ∷ []) (2 ^ i) (order_of i s.access) ss (first_placed s path.0) path.1)
