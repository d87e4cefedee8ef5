use Rattle.std.proofs.Common.{◌≡◌, ◌⊎◌, ℕ, ◌<◌, ◌≤◌, nat_le, nat_lt, true, false, ◌||◌, List, length, map, Some, None, refl, sym, arith}
use Rattle.std.proofs.lemmas.Bool.Decides.{nat_tests}
use Rattle.std.proofs.lemmas.List.{length-map}
use Rattle.value.specs.Columns.{Column, column_of}
use Rattle.value.specs.declared.refusal.Refusal.TheVariants as r
use Rattle.value.specs.Names.{Name}
use Rattle.row_objects.specs.ColumnNames.{has_name_twice}
use Rattle.catalog.specs.Catalog.{Catalog, is_index, is_table}
use Rattle.catalog.specs.Checks.{first_refusal}
use Rattle.catalog.specs.CreateTable.{checks_create_table}
use Rattle.catalog.proofs.create_table.check_create_table.Goals as goal

many : (m n : ℕ) → (64 ≤ m) ⊎ ((m < 64) × (64 < n)) → (nat_le 64 m || nat_lt 64 n) ≡ true
many m n h = grind (arith, nat_tests)

few : (m n : ℕ) → (m < 64) × (n ≤ 64) → (nat_le 64 m || nat_lt 64 n) ≡ false
few m n h = grind (arith, nat_tests)

module _ (cat : Catalog) (name : Name) (columns : List Column) where
  named_as_table : true ≡ is_table cat name → Some r.DuplicateTable ≡ first_refusal (checks_create_table cat name columns)
  named_as_table taken = rw (← taken) refl

  module _ (new : false ≡ is_table cat name) where
    named_as_index : true ≡ is_index cat name → Some r.DuplicateTable ≡ first_refusal (checks_create_table cat name columns)
    named_as_index taken = rw (← new, ← taken) refl

    module _ (no_index : false ≡ is_index cat name) where
      named_twice : true ≡ has_name_twice columns → Some r.DuplicateColumn ≡ first_refusal (checks_create_table cat name columns)
      named_twice twice = rw (← new, ← no_index, ← twice) refl

      module _ (once : false ≡ has_name_twice columns) (m n : ℕ) (tables : m ≡ length cat.tables) (wide : n ≡ length columns) where
        too_many : (64 ≤ m) ⊎ ((m < 64) × (64 < n)) → Some r.ProgramLimitExceeded ≡ first_refusal (checks_create_table cat name columns)
        too_many h = rw (← new, ← no_index, ← once, ← tables, ← wide, many m n h) refl

        none_refuses : (m < 64) × (n ≤ 64) → None ≡ first_refusal (checks_create_table cat name columns)
        none_refuses h = rw (← new, ← no_index, ← once, ← tables, ← wide, few m n h) refl

pub returns-then-is_table : goal.returns-then-is_table
returns-then-is_table g c = named_as_table c.args.catalog.now c.args.name.now (map (λ x. column_of x) c.args.columns.now) c.if-is_table.ensures

pub returns-then-is_index : goal.returns-then-is_index
returns-then-is_index g c = named_as_index c.args.catalog.now c.args.name.now (map (λ x. column_of x) c.args.columns.now) c.if-is_table.ensures c.if-is_index.ensures

pub returns-then-has_name_twice : goal.returns-then-has_name_twice
returns-then-has_name_twice g c =
    named_twice c.args.catalog.now c.args.name.now (map (λ x. column_of x) c.args.columns.now) c.if-is_table.ensures c.if-is_index.ensures c.if-has_name_twice.ensures

pub returns-then-columns-gt-MOST_COLUMNS : goal.returns-then-columns-gt-MOST_COLUMNS
returns-then-columns-gt-MOST_COLUMNS g c =
    too_many c.args.catalog.now c.args.name.now (map (λ x. column_of x) c.args.columns.now) c.if-is_table.ensures c.if-is_index.ensures c.if-has_name_twice.ensures
    c.tables.result (length c.args.columns.now) c.tables.ensures (sym (length-map c.args.columns.now (λ x. column_of x))) c.if-columns-gt-MOST_COLUMNS.either

pub returns-else-columns-gt-MOST_COLUMNS : goal.returns-else-columns-gt-MOST_COLUMNS
returns-else-columns-gt-MOST_COLUMNS g c =
    none_refuses c.args.catalog.now c.args.name.now (map (λ x. column_of x) c.args.columns.now) c.if-is_table.ensures c.if-is_index.ensures c.if-has_name_twice.ensures
    c.tables.result (length c.args.columns.now) c.tables.ensures (sym (length-map c.args.columns.now (λ x. column_of x))) c.if-columns-gt-MOST_COLUMNS.false
