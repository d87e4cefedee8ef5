-- The column that a name resolves to, among the entries in scope.
use Rattle.std.specs.Prelude.{ℕ, nat_lt, ◌+◌, ◌&&◌, ◌||◌, not, Bool, true, false, List, [], ◌∷◌, length, Option, None, option_map, Result, Ok, Err, if◌then◌else◌}
use Rattle.std.specs.List.{cons_option}
use Rattle.value.specs.declared.refusal.Refusal.TheVariants as r
use Rattle.row_ast.specs.Ast as ast
use Rattle.row_objects.specs.ColumnNames.{is_qualified, column_index}
use Rattle.scope.specs.declared.error.BindError.{BindError}
use Rattle.scope.specs.declared.lookup.Scope.{Scope}
use Rattle.expr.specs.declared.bound.ColumnId.{ColumnId}
use Rattle.scope.specs.Entry.{Entry, fault}

-- ---- scope

-- the scope of items, WHERE, GROUP BY and HAVING is every entry
abbrev pub everywhere : List Entry → Scope
everywhere entries = record { from = 0; to = length entries }

-- the scope of the ON of an entry is from the first entry of its comma item to the entry itself
abbrev pub on_scope : ℕ → Entry → Scope
on_scope entry e = record { from = e.first; to = entry + 1 }

abbrev pub is_within : Scope → ℕ → Bool
is_within scope entry = not (nat_lt entry scope.from) && nat_lt entry scope.to

-- ---- the columns that a name matches

-- the entry is in scope, and the name before the dot, if there is one, is its alias
abbrev pub is_meant : Scope → ast.ColumnRef → ℕ → Entry → Bool
is_meant scope c entry e = is_within scope entry && is_qualified e.alias c.table

-- some entry is meant, of those from a number on
abbrev pub means_some : Scope → ast.ColumnRef → ℕ → List Entry → Bool
means_some scope c entry [] = false
means_some scope c entry (e ∷ more) = is_meant scope c entry e || means_some scope c (entry + 1) more

-- the column of that name, if the entry is meant and has one
abbrev pub match_in : Scope → ast.ColumnRef → ℕ → Entry → Option ColumnId
match_in scope c entry e = if is_meant scope c entry e then option_map (λ column. record { entry = entry; column = column }) (column_index e.table.columns c.name) else None

-- the columns that the name matches, in the entries from a number on
abbrev pub matches : Scope → ast.ColumnRef → ℕ → List Entry → List ColumnId
matches scope c entry [] = []
matches scope c entry (e ∷ more) = cons_option (match_in scope c entry e) (matches scope c (entry + 1) more)

-- the one column that matches; no entry is meant; none that is meant has such a column; or several columns match
abbrev pub one_column : ℕ → Bool → List ColumnId → Result ColumnId BindError
one_column offset is_named (id ∷ []) = Ok id
one_column offset is_named (id ∷ other ∷ more) = Err (fault r.AmbiguousColumn offset)
one_column offset false [] = Err (fault r.UndefinedTable offset)
one_column offset true [] = Err (fault r.UndefinedColumn offset)

abbrev pub find_column : List Entry → Scope → ast.ColumnRef → Result ColumnId BindError
find_column entries scope c = one_column c.offset (means_some scope c 0 entries) (matches scope c 0 entries)
