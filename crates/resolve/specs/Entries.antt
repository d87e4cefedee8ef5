-- The entries of FROM, in written order.
use Rattle.std.specs.Prelude.{ℕ, ◌+◌, Bool, false, ◌||◌, List, [], ◌∷◌, ◌++◌, length, map, Option, Some, None, Result, Ok, Err, if◌then◌else◌}
use Rattle.std.specs.Str.{bytes_eq}
use Rattle.value.specs.declared.refusal.Refusal.TheVariants as r
use Rattle.row_ast.specs.Ast as ast
use Rattle.value.specs.Names.{Name}
use Rattle.row_objects.specs.Objects.{Table}
use Rattle.catalog.specs.Catalog.{Catalog, table_named}
use Rattle.scope.specs.declared.error.BindError.{BindError}
use Rattle.scope.specs.Entry.{Entry, fault}
use Rattle.memory.specs.Results.{and_then, first_then}

-- a table of FROM, the index of the first one of its comma item, and its ON
pub record JoinedTable : Type 0 where
  pub table : ast.TableRef
  pub first : ℕ
  pub on : Option ast.Condition

-- ---- the tables as written

abbrev pub joined_by : ℕ → ast.Join → JoinedTable
joined_by first (ast.Inner table condition) = record { table = table; first = first; on = Some condition }
joined_by first (ast.Cross table) = record { table = table; first = first; on = None }

abbrev pub first_table : ℕ → ast.TableRef → JoinedTable
first_table first table = record { table = table; first = first; on = None }

-- the tables of a comma item, of which the first has an index
abbrev pub item_tables : ℕ → ast.FromItem → List JoinedTable
item_tables first f = first_table first f.first ∷ map (joined_by first) f.joins

-- the tables of comma items, from an index on
abbrev pub joined : ℕ → List ast.FromItem → List JoinedTable
joined first [] = []
joined first (f ∷ more) = item_tables first f ++ joined (first + length (item_tables first f)) more

-- the index of the first table of the last comma item, from an index on
abbrev pub last_first : ℕ → List ast.FromItem → ℕ
last_first first [] = first
last_first first (f ∷ []) = first
last_first first (f ∷ g ∷ more) = last_first (first + length (item_tables first f)) (g ∷ more)

-- the same, of their tables
abbrev pub first_of_last : List JoinedTable → ℕ
first_of_last [] = 0
first_of_last (j ∷ []) = j.first
first_of_last (j ∷ k ∷ more) = first_of_last (k ∷ more)

-- the table of a left join, which goes on the last comma item
abbrev pub left_table : ℕ → ast.LeftJoin → JoinedTable
left_table first l = record { table = l.table; first = first; on = Some l.on_ }

-- those of comma items, and then those of left joins
abbrev pub tables_of : ast.Query → List JoinedTable
tables_of q = joined 0 q.from ++ map (left_table (last_first 0 q.from)) q.lefts

-- ---- the tables in the catalogue

-- the alias, or the table's name where none is written
abbrev pub alias_or : Option Name → Name → Name
alias_or (Some alias) table = alias
alias_or None table = table

abbrev pub alias_of : ast.TableRef → Name
alias_of t = alias_or t.alias t.table

abbrev pub is_used : Name → List Entry → Bool
is_used name [] = false
is_used name (e ∷ more) = bytes_eq e.alias name || is_used name more

-- no such table; an alias that an earlier entry has; or the entry
abbrev pub found_entry : List Entry → JoinedTable → Option Table → Result Entry BindError
found_entry before j None = Err (fault r.UndefinedTable j.table.offset)
found_entry before j (Some t) =
    if is_used (alias_of j.table) before
    then Err (fault r.DuplicateAlias j.table.offset)
    else Ok record { table = t; alias = alias_of j.table; first = j.first; on = j.on }

abbrev pub entry_in : Catalog → List Entry → JoinedTable → Result Entry BindError
entry_in cat before j = found_entry before j (table_named j.table.table cat)

-- the entries of tables after others, or the first error
abbrev pub entries_in : Catalog → List Entry → List JoinedTable → Result (List Entry) BindError
entries_in cat before [] = Ok []
entries_in cat before (j ∷ more) = and_then (entry_in cat before j) (λ e. first_then (Ok e) (entries_in cat (before ++ e ∷ []) more))

abbrev pub entries : Catalog → ast.Query → Result (List Entry) BindError
entries cat q = entries_in cat [] (tables_of q)
