-- A text that is refused at once is not read.
use Rattle.std.proofs.Common.{◌≡◌, ◌∙◌, ℕ, List, true, Ok, sym}
use Rattle.value.specs.Names.{Name}
use Rattle.row_ast.specs.Ast.{Query}
use Rattle.catalog.specs.Catalog.{Catalog}
use Rattle.analysis.specs.Analysis.{is_refused_at_once, query_read}
use Rattle.analysis.proofs.Admitted.{refused_at_once}

pub never_read : (cat : Catalog) (role : Name) (text : List ℕ) (q : Query) → is_refused_at_once cat role text ≡ true → query_read cat role text ≡ Ok q → ⊥
never_read cat role text q e is = let h = sym is ∙ (refused_at_once cat role text e).1 in cc
