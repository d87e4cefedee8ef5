-- What the costs of codes are made from.
use Rattle.std.proofs.Common.{◌≡◌, ℕ, zero, suc, ◌+◌, ◌-◌, ◌*◌, ◌%◌, ◌^◌, ◌<◌, ◌≤◌, ◌==◌, nat_le, nat_lt, Bool, not, true, false, ◌||◌, ◌&&◌, List, [], ◌∷◌, ◌++◌, length, All, drop, get_or, Option, Some, None, slice_get, option_map, refl, sym, ap, ◌∙◌, subst, arith}
use Rattle.std.specs.List.{list_all}
use Rattle.std.proofs.Math.Path.{fun_ext}
use Rattle.std.proofs.lemmas.Bool.{and_parts, and_from, leb-true, lt-ltb}
use Rattle.std.proofs.lemmas.List.{drop_more, drop_all}
use Rattle.std.proofs.lemmas.Nat.{pow_below}
use Rattle.std.proofs.lemmas.Option.{get_or_from_slice_get, slice_get-map, slice_get_within}
use Rattle.expr.specs.Bound.{BoundExpr}
use Rattle.expr.specs.declared.bound.ColumnId.{ColumnId}
use Rattle.expr.specs.declared.code.CodeStep.{CodeStep}
use Rattle.expr.specs.Codes.{Code, Steps}
use Rattle.stats.specs.Card.{Entries, Selection, selection, selections}
use Rattle.stats.specs.Factors.{million}
use Rattle.stats.specs.Statistics.{Stats}
use Rattle.stats.specs.View.{selection_of, selections_of}
use Rattle.stats.specs.declared.selection.Selection as declared
use Rattle.trailcheck.specs.Admissible.{are_allowed_steps, is_admissible, is_allowed_access, is_allowed_method, is_allowed_step, is_connected, is_next}
use Rattle.trailcheck.specs.Entries.{is_among}
use Rattle.trailcheck.specs.Settings.{Setting, inner_count}
use Rattle.trailcheck.proofs.Placed.{among_more}
use Rattle.trailcheck.specs.Shapes.{entry_index, inner_steps}
use Rattle.code_costs.specs.Cost.{Estimates, cost_after, entry_size, factor_held, last_sorting, size, step_cost, step_cost_of, whole_size}
use Rattle.predicates.specs.Numbered.{numbered}
use Rattle.joins.specs.Orders.{Order, is_ordered_by, order_after, sorting_unless}
use Rattle.predicates.proofs.Connected.{or_false}
use Rattle.code_costs.proofs.Codes.{inner_many, is_code}

-- ---- bits

-- 1 << n, less 1, for at most 12
pub ones_of_few : (n : ℕ) → n ≤ 12 → 1 * 2 ^ n % 2 ^ 64 - 1 ≡ 2 ^ n - 1
ones_of_few n few = let e : 2 ^ n < 2 ^ 64 = pow_below n 64 (omega arith) in omega arith

-- ---- factors

abbrev seen : Option Selection → ℕ
seen None = million
seen (Some s) = s.factor

held_seen : (of : List Stats) (o : Option BoundExpr) → factor_held of o ≡ seen (option_map (selection of) o)
held_seen of None = refl
held_seen of (Some e) = refl

numbered_from : (conditions : List BoundExpr) (number : ℕ) → (number ≡ 0 → ⊥) → numbered conditions number ≡ slice_get conditions (number - 1)
numbered_from conditions zero some = absurd (some refl)
numbered_from conditions (suc k) some = let e : k ≡ suc k - 1 = omega arith in ap (slice_get conditions) e

module _ {A : Type 0} where
  -- the factor of what is held for a condition, if there is one
  abbrev pub kept : Option (declared.Selection A) → ℕ
  kept None = million
  kept (Some s) = s.factor

  kept_seen : (o : Option (declared.Selection A)) → kept o ≡ seen (option_map (λ s. selection_of s) o)
  kept_seen None = refl
  kept_seen (Some s) = refl

  module _ (held : List (declared.Selection A)) (number : ℕ) (o : Option (declared.Selection A)) (is : o ≡ slice_get held (number - 1)) where
    -- what is held for each condition has its factor
    pub factor_kept : (of : List Stats) (conditions : List BoundExpr) → selections_of held ≡ selections of conditions → (number ≡ 0 → ⊥) → kept o ≡ factor_held of (numbered conditions number)
    factor_kept of conditions prepared some =
        ap kept is
        ∙ kept_seen (slice_get held (number - 1))
        ∙ ap seen (sym (slice_get-map (λ s. selection_of s) held (number - 1)) ∙ ap (λ ss. slice_get ss (number - 1)) prepared ∙ slice_get-map (selection of) conditions (number - 1))
        ∙ sym (held_seen of (slice_get conditions (number - 1)))
        ∙ ap (factor_held of) (sym (numbered_from conditions number some))

  -- it is of a million parts
  pub parts_kept : (held : List (declared.Selection A)) (k : ℕ) (s : declared.Selection A) → Some s ≡ slice_get held k → All (λ s. s.factor ≤ million) held → s.factor ≤ million
  parts_kept held k s is parts = subst (λ x. x.factor ≤ million) (get_or_from_slice_get held k s s (sym is)) (parts k s (slice_get_within held k s (sym is)))

-- ---- sets of placed entries

regroup : (before cost after first rest left whole : ℕ) → after ≡ before + cost → cost ≡ first → left ≡ rest → before + (first + rest) ≡ whole → after + left ≡ whole
regroup before cost after first rest left whole a b c d = omega arith

module _ (at : Estimates) where
  -- sets with the same members have the same size
  pub same_size : (f g : Entries) → ((i : ℕ) → f i ≡ g i) → size at f ≡ size at g
  same_size f g h = ap (size at) (fun_ext h)

  -- so much, and the cost of the steps that are left after some list of the placed entries, is the whole
  abbrev pub IsPart : (placed : Entries) → Order → (before : ℕ) → (left : List CodeStep) → (whole : ℕ) → Type 0
  IsPart placed order before left whole = (list : List ℕ) × (((i : ℕ) → is_among list i ≡ placed i) × (before + cost_after at list order left ≡ whole))

  -- before the first step
  pub part_first : (list : List ℕ) (placed : Entries) (order : Order) (steps : List CodeStep) → ((i : ℕ) → is_among list i ≡ placed i) → IsPart placed order 0 steps (cost_after at list order steps)
  part_first list placed order steps same = (list, (same, omega arith))

  -- what is wanted in order is sorted in the end
  pub last_sorted : (order wanted : Order) (id : ColumnId) (ordered : Bool) (x cost : ℕ) → wanted ≡ Some id → ordered ≡ is_ordered_by order id → x ≡ whole_size at → cost ≡ sorting_unless ordered x → cost ≡ last_sorting at order wanted
  last_sorted order wanted id ordered x cost is orders sizes costs = costs ∙ ap (λ b. sorting_unless b x) orders ∙ ap (sorting_unless (is_ordered_by order id)) sizes ∙ sym (ap (last_sorting at order) is)

  -- the set of one entry
  pub size_of_one : (entry x : ℕ) (one none : Entries) → ((i : ℕ) → none i ≡ false) → ((i : ℕ) → one i ≡ ((entry == i) || none i)) → x ≡ size at one → x ≡ entry_size at entry
  size_of_one entry x one none empty added is = is ∙ same_size one (λ i. entry == i) (λ i. added i ∙ ap (λ b. (entry == i) || b) (empty i) ∙ or_false (entry == i))

  -- one step more
  module _ (steps : List CodeStep) (k : ℕ) (d : CodeStep) (more : k < length steps) where
    first_left : drop k steps ≡ get_or steps k d ∷ drop (k + 1) steps
    first_left = drop_more steps k d more

    part_step : (placed now : Entries) (order next : Order) (cost before after whole : ℕ) → ((i : ℕ) → now i ≡ ((entry_index (get_or steps k d) == i) || placed i)) → cost ≡ step_cost at placed order (get_or steps k d) → after ≡ before + cost
        → next ≡ order_after at.conditions (entry_index (get_or steps k d)) order (get_or steps k d).method → IsPart placed order before (drop k steps) whole → IsPart now next after (drop (k + 1) steps) whole
    part_step placed now order next cost before after whole added costs sum follows part =
        let s = get_or steps k d in
        let list = part.0 in
        let rest = drop (k + 1) steps in
        let costs' : cost ≡ step_cost at (is_among list) order s = costs ∙ ap (λ f. step_cost at f order s) (sym (fun_ext part.1.0)) in (
          list ++ entry_index s ∷ [],
          (
            λ i. among_more list (entry_index s) i ∙ ap (λ b. (entry_index s == i) || b) (part.1.0 i) ∙ sym (added i),
            regroup before cost after (step_cost at (is_among list) order s) (cost_after at (list ++ entry_index s ∷ []) (order_after at.conditions (entry_index s) order s.method) rest) (cost_after at (list ++ entry_index s ∷ []) next rest) whole sum costs'
                (ap (λ o. cost_after at (list ++ entry_index s ∷ []) o rest) follows)
                (ap (λ l. before + cost_after at list order l) (sym first_left) ∙ part.1.1),
          ),
        )

    module _ (entry : ℕ) (is : entry ≡ entry_index (get_or steps k d)) where
      pub part_more : (placed now : Entries) (order next : Order) (x y cost before after whole : ℕ) → ((i : ℕ) → now i ≡ ((entry == i) || placed i)) → x ≡ size at placed → y ≡ entry_size at entry → cost ≡ step_cost_of at x y order (get_or steps k d)
          → after ≡ before + cost → next ≡ order_after at.conditions entry order (get_or steps k d).method → IsPart placed order before (drop k steps) whole → IsPart now next after (drop (k + 1) steps) whole
      part_more placed now order next x y cost before after whole added left right costs sum follows =
          let s = get_or steps k d in
          part_step placed now order next cost before after whole (λ i. added i ∙ ap (λ e. (e == i) || placed i) is)
          (costs ∙ ap (λ n. step_cost_of at n y order s) left ∙ ap (λ n. step_cost_of at (size at placed) n order s) (right ∙ ap (entry_size at) is)) sum
          (follows ∙ ap (λ e. order_after at.conditions e order s.method) is)

  -- no step is left
  pub part_all : (steps : List CodeStep) (k : ℕ) (placed : Entries) (order : Order) (before last whole : ℕ) → length steps ≤ k → last ≡ last_sorting at order at.wanted → IsPart placed order before (drop k steps) whole → before + last ≡ whole
  part_all steps k placed order before last whole none sorts part = ap (λ n. before + n) sorts ∙ ap (λ l. before + cost_after at part.0 order l) (sym (drop_all k steps none)) ∙ part.1.1

-- where each step that is left is of an entry below 12, so are those after the next
pub rest_below : (steps : List CodeStep) (k : ℕ) (d : CodeStep) → k < length steps → list_all (λ s. nat_lt (entry_index s) 12) (drop k steps) ≡ true → list_all (λ s. nat_lt (entry_index s) 12) (drop (k + 1) steps) ≡ true
rest_below steps k d more below =
    let parts = and_parts (nat_lt (entry_index (get_or steps k d)) 12) (list_all (λ s. nat_lt (entry_index s) 12) (drop (k + 1) steps)) (ap (list_all (λ s. nat_lt (entry_index s) 12)) (sym (drop_more steps k d more)) ∙ below) in
    parts.1

-- ---- codes that a plan may have

next_below : (at : Setting) (placed : List ℕ) (s : CodeStep) → inner_count at ≤ 12 → is_next at placed s ≡ true → nat_lt (entry_index s) 12 ≡ true
next_below at placed s few next =
    let within = and_parts (nat_le 1 s.entry && nat_le s.entry (inner_count at)) (not (is_among placed (entry_index s))) next in
    let ends = and_parts (nat_le 1 s.entry) (nat_le s.entry (inner_count at)) within.0 in
    let low = leb-true 1 s.entry ends.0 in
    let high = leb-true s.entry (inner_count at) ends.1 in
    lt-ltb (entry_index s) 12 (omega (arith, low, high))

-- each step is of one of at most 12 entries
pub steps_below : (at : Setting) (placed : List ℕ) (steps : List CodeStep) → inner_count at ≤ 12 → are_allowed_steps at placed steps ≡ true → list_all (λ s. nat_lt (entry_index s) 12) steps ≡ true
steps_below at placed [] few allowed = refl
steps_below at placed (s ∷ ss) few allowed =
    let parts = and_parts (is_allowed_step at placed s) (are_allowed_steps at (placed ++ entry_index s ∷ []) ss) allowed in
    let first = and_parts (is_next at placed s && is_connected at placed (entry_index s)) (is_allowed_access at (entry_index s) s.access && is_allowed_method at placed (entry_index s) s.method) parts.0 in
    let next = and_parts (is_next at placed s) (is_connected at placed (entry_index s)) first.0 in
    and_from _ _ (next_below at placed s few next.0) (steps_below at (placed ++ entry_index s ∷ []) ss few parts.1)

-- that holds of the inner steps of a code that a plan may have
pub admissible_below : (at : Setting) (code : Code) (steps read : List CodeStep) → inner_count at ≤ 12 → is_admissible at code ≡ true → code ≡ Steps steps → read ≡ inner_steps at steps → list_all (λ s. nat_lt (entry_index s) 12) read ≡ true
admissible_below at code steps read few admissible is same =
    let h = is_code at steps (ap (is_admissible at) (sym is) ∙ admissible) in
    ap (list_all (λ s. nat_lt (entry_index s) 12)) same ∙ steps_below at [] (inner_steps at steps) few h.inner

-- and they are no more
pub admissible_few : (at : Setting) (code : Code) (steps read : List CodeStep) → inner_count at ≤ 12 → is_admissible at code ≡ true → code ≡ Steps steps → read ≡ inner_steps at steps → length read ≤ 12
admissible_few at code steps read few admissible is same =
    let h = is_code at steps (ap (is_admissible at) (sym is) ∙ admissible) in
    let many = inner_many at steps h.long in
    let n = ap (λ ss. length ss) same in
    omega (arith, n, many, few)
