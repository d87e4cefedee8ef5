-- The objects of a catalogue as spec data.
use Rattle.std.specs.Prelude.{ℕ, Bool, List}
use Rattle.value.specs.Columns.{Column}
use Rattle.value.specs.Names.{Name}
use Rattle.expr.specs.Bound.{BoundExpr}
use Rattle.row_objects.specs.Grants.{Grant}

-- the most policies of all tables of a catalogue
abbrev pub most_policies : ℕ
most_policies = 256

pub record Role : Type 0 where
  pub name : Name
  pub superuser : Bool
  -- row security does not act on its queries
  pub bypass_rls : Bool

-- a policy for these roles, with its condition over the table's own columns
pub record Policy : Type 0 where
  pub name : Name
  pub restrictive : Bool
  pub roles : List Name
  pub predicate : BoundExpr

-- an index on a column, by its index in the table
pub record Index : Type 0 where
  pub name : Name
  pub column : ℕ

pub record Table : Type 0 where
  pub name : Name
  pub columns : List Column
  pub owner : Name
  -- row security is enabled
  pub row_security : Bool
  -- row security acts on the owner too
  pub forced : Bool
  pub policies : List Policy
  pub grants : List Grant
  pub indexes : List Index
