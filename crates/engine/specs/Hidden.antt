-- Two contents that are the same to a role that asks a text.
use Rattle.std.specs.Prelude.{◌≡◌, ℕ, List, Ok}
use Rattle.value.specs.Names.{Name}
use Rattle.catalog.specs.Catalog.{Catalog}
use Rattle.resolve.specs.Resolved.{Bound}
use Rattle.report.specs.Restricted as tables
use Rattle.store.specs.Database.{Rows}
use Rattle.analysis.specs.Analysis.{admitted}
use Rattle.engine.specs.Answer.{seen}

-- if the text is answered, the rows of each entry that the role sees, restricted to the columns of the entry that the
-- text names, are the same bag in both
abbrev pub SeesSame : Catalog → Name → List ℕ → Rows → Rows → Type 0
SeesSame cat role text one other = (b : Bound) → admitted cat role text ≡ Ok b → tables.SeesSame b.query (seen cat one role b.entries) (seen cat other role b.entries)
