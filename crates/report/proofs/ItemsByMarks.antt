-- The values of items by their marks are those on the combination.
use Rattle.std.proofs.Common.{◌≡◌, List, [], ◌∷◌, map, refl, ap, ◌∙◌}
use Rattle.memory.specs.Results.{first_then}
use Rattle.expr.specs.BoundQuery.{BoundItem}
use Rattle.eval.specs.Meaning.{Cells, meaning}
use Rattle.groups.specs.Members.{all_of}
use Rattle.tuples.specs.Combinations.{joined_cells}
use Rattle.tuples.specs.World.{World, combination_at}
use Rattle.tuples.specs.declared.slot.Slot.{Slot}
use Rattle.row_marks.specs.Marks.{AreMarked, exprs_of, outcome_in}
use Rattle.row_marks.specs.declared.marked.Marked.{Marked}
use Rattle.row_marks.proofs.MarkOutcomes.{outcomes_are}
use Rattle.report.specs.QueryStages.{values_of}

module _ (w : World) (slots : List Slot) where
  abbrev cells : Cells
  cells = joined_cells (combination_at w.tables slots)

  values_are : (is : List BoundItem) → all_of (map (meaning cells w.role) (map (λ i. i.value) is)) ≡ values_of cells w.role is
  values_are [] = refl
  values_are (i ∷ is) = ap (first_then (meaning cells w.role i.value)) (values_are is)

  -- the values of items by their marks are those on the combination
  pub items_are : {A : Type 0} (ms : List (Marked A)) → AreMarked w ms → (is : List BoundItem) → exprs_of ms ≡ map (λ i. i.value) is
      → all_of (map (λ m. outcome_in cells w.role slots m) ms) ≡ values_of cells w.role is
  items_are ms are is same = ap all_of (outcomes_are w slots ms are ∙ ap (map (meaning cells w.role)) same) ∙ values_are is
