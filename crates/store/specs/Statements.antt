-- The statements that make an index.
use Rattle.std.specs.Prelude.{Option, Some, None}
use Rattle.value.specs.Names.{Name}
use Rattle.row_ast.specs.Statements.{Statement, CreateIndex}

-- the table and the column of a CREATE INDEX
abbrev pub new_index_of : Statement → Option (Name × Name)
new_index_of (CreateIndex name table column) = Some (table, column)
new_index_of _ = None
