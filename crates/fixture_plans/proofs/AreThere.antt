-- The indexes of the tables of a world, made for each entry, are those that a run asks for.
use Rattle.std.proofs.Common.{◌≡◌, ◌∙◌, refl, sym, ap, subst, ℕ, ◌-◌, ◌==◌, ◌<◌, ◌≤◌, ◌⊎◌, inl, inr, true, List, [], map, length, All, Option, Some, None, slice_index_or, option_map, arith, true≢false}
use Rattle.std.specs.List.{list_any, slice_get}
use Rattle.std.proofs.lemmas.List.{get_or_past}
use Rattle.std.proofs.lemmas.List.Elements.{All-nil}
use Rattle.std.proofs.lemmas.Option.{slice_get-map, slice_get_cases}
use Rattle.indexes.specs.declared.index.IndexRows.{IndexRows}
use Rattle.indexes.specs.Indexes.{IsIndex}
use Rattle.tuples.specs.View.{guarded_table_of}
use Rattle.tuples.specs.World.{GuardedTable, World}
use Rattle.tuples.specs.declared.world.GuardedTable as declared
use Rattle.trailcheck.specs.Admissible.{is_indexed, is_listed}
use Rattle.trailcheck.specs.Settings.{Setting}
use Rattle.expr.proofs.Lists.{any_map}
use Rattle.access_paths.specs.Indexed.{AreIndexes, of_entry}
use Rattle.fixture_plans.specs.Worlds.{AreOf}
use Rattle.fixture_plans.proofs.EachIndexed.{some_same}

module _ {A : Type 0} (tables : List (declared.GuardedTable A)) (w : World) (at : Setting) (all : List (List (IndexRows A))) (same : w.tables ≡ map (λ t. guarded_table_of t) tables) (long : length all ≡ length at.indexed)
    (each : (entry : ℕ) (columns : List ℕ) → slice_get at.indexed entry ≡ Some columns → AreOf tables entry columns (slice_index_or all entry [])) where
  -- the table of an entry
  table_is : (entry : ℕ) (t : GuardedTable) (columns : List ℕ) (r : AreOf tables entry columns (slice_index_or all entry [])) → slice_get w.tables entry ≡ Some t → guarded_table_of r.table ≡ t
  table_is entry t columns r e =
      some_same (guarded_table_of r.table) t
      (sym (ap (option_map (λ x. guarded_table_of x)) r.at) ∙ sym (slice_get-map (λ x. guarded_table_of x) tables entry) ∙ sym (ap (λ l. slice_get l entry) same) ∙ e)

  right : (entry : ℕ) (t : GuardedTable) → slice_get w.tables entry ≡ Some t → All (λ x. IsIndex t.rows (x.column - 1) x.numbers) (of_entry all entry)
  right entry t e = go (slice_get_cases at.indexed entry).1
    where
      go : ((x : List ℕ) × (entry < length at.indexed) × (slice_get at.indexed entry ≡ Some x) × (slice_index_or at.indexed entry x ≡ x)) ⊎ ((length at.indexed ≤ entry) × (slice_get at.indexed entry ≡ None)) → All (λ x. IsIndex t.rows (x.column - 1) x.numbers) (of_entry all entry)
      go (inl h) =
          let r = each entry h.0 h.2 in
          subst (λ (u : GuardedTable). All (λ x. IsIndex u.rows (x.column - 1) x.numbers) (of_entry all entry)) (table_is entry t h.0 r e) r.are.1
      go (inr h) =
          let none : slice_index_or all entry [] ≡ [] = get_or_past all entry [] (omega (arith, long, h.0)) in
          subst (All (λ x. IsIndex t.rows (x.column - 1) x.numbers)) (sym none) (All-nil (λ x. IsIndex t.rows (x.column - 1) x.numbers))

  there : (entry column : ℕ) → is_indexed at entry column ≡ true → list_any (λ x. x.column == column) (of_entry all entry) ≡ true
  there entry column h = go (slice_get at.indexed entry) refl h
    where
      go : (o : Option (List ℕ)) → slice_get at.indexed entry ≡ o → is_listed column o ≡ true → list_any (λ x. x.column == column) (of_entry all entry) ≡ true
      go None e k = absurd (true≢false (sym k))
      go (Some columns) e k =
          let r = each entry columns e in
          sym (any_map (λ c. c == column) (λ (x : IndexRows A). x.column) (slice_index_or all entry [])) ∙ ap (list_any (λ c. c == column)) r.are.0 ∙ k

  pub are_there : AreIndexes w at all
  are_there = record { right = right; there = there }
