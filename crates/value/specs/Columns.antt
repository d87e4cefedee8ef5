-- The columns of tables.
use Rattle.std.specs.Prelude.{ℕ, Bool, true, false, List, map}
use Rattle.value.specs.Datum.{Datum, null, int, text, bool}
use Rattle.value.specs.declared.column.Column as declared
use Rattle.value.specs.declared.types.ColType.{ColType}
use Rattle.value.specs.declared.types.ColType.TheVariants as types

-- a column: its name, its type, and true where no row may be null there
pub record Column : Type 0 where
  pub name : List ℕ
  pub data_type : ColType
  pub not_null : Bool

abbrev pub column_of : {A : Type 0} → declared.Column A → Column
column_of c = record { name = c.name; data_type = c.data_type; not_null = c.not_null }

abbrev pub columns_of : {A : Type 0} → List (declared.Column A) → List Column
columns_of columns = map (λ c. column_of c) columns

-- the value is of the type, or null
abbrev pub fits_type : ColType → Datum → Bool
fits_type data_type null = true
fits_type types.Bigint (int n) = true
fits_type types.Text (text t) = true
fits_type types.Boolean (bool b) = true
fits_type types.Bigint (text t) = false
fits_type types.Bigint (bool b) = false
fits_type types.Text (int n) = false
fits_type types.Text (bool b) = false
fits_type types.Boolean (int n) = false
fits_type types.Boolean (text t) = false
