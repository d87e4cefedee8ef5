-- A change that opens nothing.
use Rattle.std.specs.Prelude.{◌≡◌, ℕ, true, false, List}
use Rattle.std.specs.List.{list_any}
use Rattle.value.specs.Names.{Name}
use Rattle.store.specs.Database.{Database}
use Rattle.access_matrix.specs.Changes.{is_pair, opens}
use Rattle.access_matrix.specs.Reading.{reads_cell}

-- where a change opens nothing but what is allowed, each cell that a role reads in the new database it reads in the old one, unless
-- the role and the table are among what is allowed
abbrev pub NothingOpens : Type 0
NothingOpens = (old new : Database) (allowed : List (Name × Name)) (role table column : Name) (number : ℕ) → opens old new allowed ≡ false
    → list_any (λ other. is_pair (role, table) other) allowed ≡ false → reads_cell new role table number column ≡ true → reads_cell old role table number column ≡ true
