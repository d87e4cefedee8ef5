-- The entries of FROM.
use Rattle.std.specs.Prelude.{ℕ, Option}
use Rattle.value.specs.declared.refusal.Refusal.{Refusal}
use Rattle.row_ast.specs.Ast as ast
use Rattle.value.specs.Names.{Name}
use Rattle.row_objects.specs.Objects.{Table}
use Rattle.scope.specs.declared.error.BindError.{BindError}

-- a refusal, and its offset in the text
abbrev pub fault : Refusal → ℕ → BindError
fault code offset = record { code = code; offset = offset }

-- a table, the name before a dot, the index of the first entry of its comma item, and its ON
pub record Entry : Type 0 where
  pub table : Table
  pub alias : Name
  pub first : ℕ
  pub on : Option ast.Condition
