-- The answer is a function of the bags of the rows of each entry, restricted to the columns that the query names.
use Rattle.std.proofs.Common.{◌≡◌, Bool, true, false, List, [], ◌∷◌, map, refl, sym, ap, ap₂, ◌∙◌, Option, Some, None, Result, Ok, Err}
use Rattle.std.specs.List.{filter_map}
use Rattle.bags.specs.Least.{least}
use Rattle.bags.proofs.Bags.{SameSums-filter}
use Rattle.value.specs.Datum.{Row}
use Rattle.value.specs.declared.faults.Fault.{Fault}
use Rattle.value.specs.Names.{Name}
use Rattle.expr.specs.Movable.{movable}
use Rattle.eval.specs.Laws.{AgreeOn}
use Rattle.eval.specs.Meaning.{◌>>=◌}
use Rattle.groups.specs.Stages.{fault_cmp, fault_in, given_in, gives, gives_if, stage, unless_fault}
use Rattle.groups.proofs.SameGroups.{map-map}
use Rattle.expr.specs.BoundQuery.{BoundQuery}
use Rattle.expr.specs.Conjuncts.{conjuncts, fragile, fragile_conjuncts, left_ons, movable_conjuncts}
use Rattle.expr.specs.NamedColumns.{named_columns}
use Rattle.tuples.specs.Combinations.{Combination, joined_cells, all_hold, passing}
use Rattle.tuples.specs.LeftCombinations.{left_combinations}
use Rattle.report.specs.QueryStages.{keeps, where_fate, where_stage, items_fate, arguments_fate, rows_of_members}
use Rattle.report.specs.Answer.{rows_of, in_order, rows_of_kept, answer, answer_over}
use Rattle.report.specs.Restricted.{SeesSame}
use Rattle.report.proofs.NamedColumns.{agree_items, agree_conjuncts, agree_lefts, agree_some, same_all_hold, same_each, same_keeps, same_values, same_member}
use Rattle.report.proofs.ChangedRows.{IsUnseen, each_row, each_table, filter-map, combinations_of_each, same_combinations}
use Rattle.report.proofs.Restricting.{to_named, named_kept}
use Rattle.report.proofs.SameCombinations.{same_bag_answer}

-- ---- a stage that keeps some of the values that a function changes

module _ {X Y : Type 0} (g : X → Y) (test : X → Result Bool Fault) where
  module _ (x : X) (xs : List X) where
    one_fault : (r : Result Bool Fault) → filter_map fault_in (map (λ y. gives_if (g y) (test y)) xs) ≡ filter_map fault_in (map (λ y. gives_if y (test y)) xs)
        → filter_map fault_in (gives_if (g x) r ∷ map (λ y. gives_if (g y) (test y)) xs) ≡ filter_map fault_in (gives_if x r ∷ map (λ y. gives_if y (test y)) xs)
    one_fault (Ok true) more = more
    one_fault (Ok false) more = more
    one_fault (Err f) more = ap (λ l. f ∷ l) more

    one_given : (r : Result Bool Fault) → filter_map given_in (map (λ y. gives_if (g y) (test y)) xs) ≡ map g (filter_map given_in (map (λ y. gives_if y (test y)) xs))
        → filter_map given_in (gives_if (g x) r ∷ map (λ y. gives_if (g y) (test y)) xs) ≡ map g (filter_map given_in (gives_if x r ∷ map (λ y. gives_if y (test y)) xs))
    one_given (Ok true) more = ap (λ l. g x ∷ l) more
    one_given (Ok false) more = more
    one_given (Err f) more = more

  same_faults : (xs : List X) → filter_map fault_in (map (λ x. gives_if (g x) (test x)) xs) ≡ filter_map fault_in (map (λ x. gives_if x (test x)) xs)
  same_faults [] = refl
  same_faults (x ∷ xs) = one_fault x xs (test x) (same_faults xs)

  changed_given : (xs : List X) → filter_map given_in (map (λ x. gives_if (g x) (test x)) xs) ≡ map g (filter_map given_in (map (λ x. gives_if x (test x)) xs))
  changed_given [] = refl
  changed_given (x ∷ xs) = one_given x xs (test x) (changed_given xs)

  changed_then : {Z : Type 0} (f : List Y → Result Z Fault) (o : Option Fault) (xs : List X) → (unless_fault o (map g xs) >>= f) ≡ (unless_fault o xs >>= (λ ys. f (map g ys)))
  changed_then f None xs = refl
  changed_then f (Some fault) xs = refl

  kept_changed : {Z : Type 0} (f : List Y → Result Z Fault) (xs : List X) → (stage (map (λ x. gives_if (g x) (test x)) xs) >>= f) ≡ (stage (map (λ x. gives_if x (test x)) xs) >>= (λ ys. f (map g ys)))
  kept_changed f xs =
      ap₂ (λ faults given. unless_fault (least fault_cmp faults) given >>= f) (same_faults xs) (changed_given xs)
      ∙ changed_then f (least fault_cmp (filter_map fault_in (map (λ x. gives_if x (test x)) xs))) (filter_map given_in (map (λ x. gives_if x (test x)) xs))

-- ---- combinations that are changed in columns that the query does not name

-- a value that is the same of each is the same of all
same_of_each : {X Y : Type 0} (f : X → Y) (g : X → X) → ((x : X) → f (g x) ≡ f x) → (xs : List X) → map f (map g xs) ≡ map f xs
same_of_each f g h xs = map-map f g xs ∙ (λ i. map (λ x. h x i) xs)

module _ (role : Name) (q : BoundQuery) (g : Combination → Combination) (h : (c : Combination) → AgreeOn (named_columns q) (joined_cells (g c)) (joined_cells c)) where
  passes : (c : Combination) → all_hold role (movable_conjuncts q) (g c) ≡ all_hold role (movable_conjuncts q) c
  passes c = same_all_hold (joined_cells (g c)) (joined_cells c) role (movable_conjuncts q) (agree_some (joined_cells (g c)) (joined_cells c) movable (conjuncts q) (agree_conjuncts (joined_cells (g c)) (joined_cells c) q (h c)))

  kept_by : Combination → Result Bool Fault
  kept_by c = keeps (joined_cells c) role (fragile_conjuncts q)

  where_is : (c : Combination) → where_fate role q (g c) ≡ gives_if (g c) (kept_by c)
  unfolding kept_by
  where_is c =
      ap (gives_if (g c)) (same_keeps (joined_cells (g c)) (joined_cells c) role (fragile_conjuncts q) (agree_some (joined_cells (g c)) (joined_cells c) fragile (conjuncts q) (agree_conjuncts (joined_cells (g c)) (joined_cells c) q (h c))))

  items_stay : (c : Combination) → items_fate role q (g c) ≡ items_fate role q c
  items_stay c = ap gives (same_values (joined_cells (g c)) (joined_cells c) role q.items (agree_items (joined_cells (g c)) (joined_cells c) q (h c)))

  arguments_stay : (c : Combination) → arguments_fate role q (g c) ≡ arguments_fate role q c
  arguments_stay c = ap gives (same_member (joined_cells (g c)) (joined_cells c) role q (h c))

  rows_stay : (grouped : Bool) (cs : List Combination) → rows_of role q grouped (map g cs) ≡ rows_of role q grouped cs
  rows_stay true cs = ap (λ fates. stage fates >>= rows_of_members role q) (same_of_each (arguments_fate role q) g arguments_stay cs)
  rows_stay false cs = ap stage (same_of_each (items_fate role q) g items_stay cs)

  kept_stay : (cs : List Combination) → rows_of_kept role q (map g cs) ≡ rows_of_kept role q cs
  kept_stay cs = ap (λ r. r >>= in_order role q) (rows_stay q.is_grouped cs)

  where_stays : (cs : List Combination) → where_stage role q (map g cs) ≡ stage (map (λ c. gives_if (g c) (kept_by c)) cs)
  where_stays cs = ap stage (map-map (where_fate role q) g cs ∙ (λ i. map (λ c. where_is c i) cs))

  answer_stays : (cs : List Combination) → answer role q (passing role (movable_conjuncts q) (map g cs)) ≡ answer role q (passing role (movable_conjuncts q) cs)
  unfolding kept_by
  answer_stays cs =
      let these : List Combination = passing role (movable_conjuncts q) cs in
      ap (answer role q) (filter-map (all_hold role (movable_conjuncts q)) g passes cs)
      ∙ ap (λ r. r >>= rows_of_kept role q) (where_stays these)
      ∙ kept_changed g kept_by (rows_of_kept role q) these
      ∙ (λ i. where_stage role q these >>= (λ kept. kept_stay kept i))

-- no ON of a left join reads a column that the query does not name
unseen : (role : Name) (q : BoundQuery) → IsUnseen role (to_named q) (left_ons q)
unseen role q = record {
  null_row = λ k. refl;
  ons = λ c. same_each (joined_cells (each_row (to_named q) 0 c)) (joined_cells c) role (left_ons q) (agree_lefts (joined_cells (each_row (to_named q) 0 c)) (joined_cells c) q (named_kept q c));
}

-- rows that are not seen, and columns that are not named, make no difference
pub same_answer_over : (role : Name) (q : BoundQuery) (one other : List (List Row)) → SeesSame q one other → answer_over role q one ≡ answer_over role q other
same_answer_over role q one other same =
    let restricted_combinations = λ (tables : List (List Row)). left_combinations role (left_ons q) (each_table (to_named q) 0 tables) in
    let passed = λ (tables : List (List Row)). passing role (movable_conjuncts q) (restricted_combinations tables) in
    let whole = λ (tables : List (List Row)).
    sym (answer_stays role q (each_row (to_named q) 0) (named_kept q) (left_combinations role (left_ons q) tables)) ∙ ap (λ cs. answer role q (passing role (movable_conjuncts q) cs)) (sym (combinations_of_each role (to_named q) (left_ons q) (unseen role q) tables)) in
    whole one
    ∙ same_bag_answer role q (passed one) (passed other)
    (SameSums-filter (restricted_combinations one) (restricted_combinations other) (same_combinations role (to_named q) (left_ons q) one other same.entries same.rows) (all_hold role (movable_conjuncts q)))
    ∙ sym (whole other)
