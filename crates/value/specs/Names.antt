-- Names of roles, tables and columns.
use Rattle.std.specs.Prelude.{ℕ, List, codes}

-- a name is its bytes, in lower case
abbrev pub Name : Type 0
Name = List ℕ

-- the name that stands for every role
abbrev pub everyone : Name
everyone = codes "public"
