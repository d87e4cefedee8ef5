-- Statements one after another.
use Rattle.std.specs.Prelude.{List, [], ◌∷◌, Result, Ok, Err}
use Rattle.value.specs.declared.refusal.Refusal.{Refusal}
use Rattle.value.specs.Names.{Name}
use Rattle.row_ast.specs.Statements.{Statement}
use Rattle.catalog.specs.Catalog.{Catalog}
use Rattle.catalog.specs.Changes.{changed}

-- a refused statement changes nothing
abbrev pub or_same : Catalog → Result Catalog Refusal → Catalog
or_same cat (Ok new) = new
or_same cat (Err why) = cat

-- the catalogue after statements, each of an actor
abbrev pub run : List (Name × Statement) → Catalog → Catalog
run [] cat = cat
run (s ∷ ss) cat = run ss (or_same cat (changed cat s.0 s.1))
