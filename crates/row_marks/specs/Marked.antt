-- Expressions over one entry, and the rows that the first fragile conjunct drops.
use Rattle.std.specs.Prelude.{ℕ, ◌-◌, ◌==◌, nat_le, nat_lt, Bool, false, not, ◌&&◌, List, [], ◌∷◌, length, slice_get, Option, Some, None, Ok, Err, if◌then◌else◌}
use Rattle.std.specs.List.{list_all}
use Rattle.value.specs.Datum.{Row, row_at}
use Rattle.value.specs.Conditions.{truth_at}
use Rattle.value.specs.Names.{Name}
use Rattle.value.specs.Orders.{is_true}
use Rattle.expr.specs.declared.bound.ColumnId.{ColumnId}
use Rattle.expr.specs.Bound.{BoundExpr, Column}
use Rattle.expr.specs.Columns.{columns}
use Rattle.expr.specs.Conjuncts.{fragile_conjuncts}
use Rattle.eval.specs.Meaning.{Outcome, meaning}
use Rattle.tuples.specs.Guards.{shows}
use Rattle.tuples.specs.Rows.{cells_of}
use Rattle.tuples.specs.World.{GuardedTable, World}

-- ---- the entry of an expression

-- that of some columns, where they are all of one
abbrev pub one_entry : List ColumnId → Option ℕ
one_entry [] = None
one_entry (id ∷ ids) = if list_all (λ other. other.entry == id.entry) ids then Some id.entry else None

-- that whose columns an expression names, where they are all of one
abbrev pub entry_of : BoundExpr → Option ℕ
entry_of e = one_entry (columns e)

-- among some entries, of which a query of one entry counts none: there each row comes once
abbrev pub among : ℕ → Option ℕ → Option ℕ
among count None = None
among count (Some entry) = if nat_lt 1 count && nat_lt entry count then Some entry else None

-- the entry on whose rows an expression is computed once
abbrev pub marked_entry : World → BoundExpr → Option ℕ
marked_entry w e = among (length w.tables) (entry_of e)

abbrev pub unless_column : BoundExpr → Option ℕ → Option ℕ
unless_column (Column id) entry = None
unless_column _ entry = entry

-- that of an item or an argument: none of a column, whose cells are there already
abbrev pub computed_entry : World → BoundExpr → Option ℕ
computed_entry w e = unless_column e (marked_entry w e)

-- ---- its outcome on the rows

abbrev pub rows_in : Option GuardedTable → List Row
rows_in None = []
rows_in (Some t) = t.rows

abbrev pub entry_rows : World → (entry : ℕ) → List Row
entry_rows w entry = rows_in (slice_get w.tables entry)

-- on the row of a number, counted from 0
abbrev pub mark_on : World → (entry : ℕ) → BoundExpr → (number : ℕ) → Outcome
mark_on w entry e number = meaning (cells_of (row_at (entry_rows w entry) number)) w.role e

-- on the null row
abbrev pub mark_on_null : World → BoundExpr → Outcome
mark_on_null w e = meaning (cells_of []) w.role e

-- ---- the rows that the role sees

-- a table has the row of this number, and its guard shows it
abbrev pub sees_in : Name → Option GuardedTable → (number : ℕ) → Bool
sees_in role None number = false
sees_in role (Some t) number = nat_lt number (length t.rows) && shows role t.guard (row_at t.rows number)

abbrev pub is_seen : World → (entry number : ℕ) → Bool
is_seen w entry number = sees_in w.role (slice_get w.tables entry) number

-- the outcome on a row that the role sees, and none on another
abbrev pub seen_mark : World → (entry : ℕ) → BoundExpr → (number : ℕ) → Option Outcome
seen_mark w entry e number = if is_seen w entry number then Some (mark_on w entry e number) else None

-- ---- the rows that are dropped

-- false or null: neither true nor a fault
abbrev pub is_dropping : Outcome → Bool
is_dropping (Ok d) = not (is_true (truth_at d))
is_dropping (Err fault) = false

abbrev pub is_entry : Option ℕ → ℕ → Bool
is_entry None entry = false
is_entry (Some own) entry = own == entry

-- the condition is over the entry alone, and false or null on its row of this number
abbrev pub drops_by : World → BoundExpr → (entry number : ℕ) → Bool
drops_by w e entry number = (is_entry (marked_entry w e) entry && nat_lt number (length (entry_rows w entry))) && is_dropping (mark_on w entry e number)

abbrev pub drops_first : World → List BoundExpr → (entry number : ℕ) → Bool
drops_first w [] entry number = false
drops_first w (e ∷ es) entry number = drops_by w e entry number

-- the entry is left joined in the text: these are the last
abbrev pub is_left : World → (entry : ℕ) → Bool
is_left w entry = nat_le (length w.tables - w.query.left_count) entry

-- by the first fragile conjunct in written order, of which no other drops a row: an earlier one could fault; and none of a left joined
-- entry, where the null row would take its place
abbrev pub drops : World → (entry number : ℕ) → Bool
drops w entry number = not (is_left w entry) && drops_first w (fragile_conjuncts w.query) entry number

-- the rows that a run is asked for
abbrev pub keeps_row : World → (entry number : ℕ) → Bool
keeps_row w entry number = not (drops w entry number)
