-- Schema statements as spec data.
use Rattle.std.specs.Prelude.{Bool, List}
use Rattle.value.specs.Columns.{Column}
use Rattle.row_ast.specs.Ast as ast
use Rattle.value.specs.Names.{Name}
use Rattle.row_ast.specs.declared.statement.RowSecurity.{RowSecurity}

-- a schema statement
pub data Statement : Type 0 where
  CreateRole : (name : Name) → (superuser bypass_rls : Bool) → Statement
  -- the role that is granted, and its new member
  GrantRole : (group member : Name) → Statement
  RevokeRole : (group member : Name) → Statement
  CreateTable : (name : Name) → (columns : List Column) → Statement
  SetOwner : (table owner : Name) → Statement
  SetRowSecurity : (table : Name) → (setting : RowSecurity) → Statement
  CreateIndex : (name table column : Name) → Statement
  GrantSelect : ast.Grant → Statement
  RevokeSelect : ast.Grant → Statement
  CreatePolicy : ast.CreatePolicy → Statement
  DropPolicy : (name table : Name) → Statement
