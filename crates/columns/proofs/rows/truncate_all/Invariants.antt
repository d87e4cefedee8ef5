use Rattle.std.proofs.Common.{◌≡◌, ◌<◌, ◌≤◌, ℕ, [], length, map, take, get_or}
use Rattle.columns.specs.Data.{cells_of, type_of}
use Rattle.columns.proofs.rows.truncate_all.Given as goal

abbrev pub invariant-loop-i : goal.invariant-loop-i
invariant-loop-i g l = record {
  long : length l.columns.items ≡ length l.fn.columns.items;
  types : map type_of l.columns.items ≡ map type_of l.fn.columns.items;
  cut : (j : ℕ) → j < l.i → get_or (map cells_of l.columns.items) j [] ≡ take l.len (get_or (map cells_of l.fn.columns.items) j []);
  left : (j : ℕ) → l.i ≤ j → get_or (map cells_of l.columns.items) j [] ≡ get_or (map cells_of l.fn.columns.items) j [];
}
