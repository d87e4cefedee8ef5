-- The paths of the files of tables.
use Rattle.std.specs.Prelude.{ℕ, List, ◌++◌, codes}

-- the path of a table's file in a folder
abbrev pub csv_path : List ℕ → List ℕ → List ℕ
csv_path dir table = dir ++ codes "/" ++ table ++ codes ".csv"
