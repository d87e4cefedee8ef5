-- The description of a text, by what was read of it.
use Rattle.std.proofs.Common.{◌≡◌, ℕ, List, Result, ap}
use Rattle.value.specs.Names.{Name}
use Rattle.row_ast.specs.Ast.{Query}
use Rattle.memory.specs.Results.{and_then}
use Rattle.catalog.specs.Catalog.{Catalog}
use Rattle.replies.specs.Reply.{Reply}
use Rattle.analysis.specs.Analysis.{admitted_query, query_read}
use Rattle.descriptions.specs.Descriptions.{described, described_query}

pub described_as_read : (cat : Catalog) (role : Name) (text : List ℕ) (r : Result Query Reply) → r ≡ query_read cat role text → described_query (and_then r (admitted_query cat role)) ≡ described cat role text
described_as_read cat role text r e = ap (λ r. described_query (and_then r (admitted_query cat role))) e
