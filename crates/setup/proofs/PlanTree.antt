-- The tree of what explains a text.
use Rattle.std.proofs.Common.{◌≡◌, ◌∙◌, ℕ, List, Result, Ok, Err, refl, ap}
use Rattle.value.specs.Names.{Name}
use Rattle.resolve.specs.Resolved.{Bound}
use Rattle.replies.specs.Reply.{Reply}
use Rattle.engine.specs.Analysis.{admitted}
use Rattle.engine.specs.Catalog.{Catalog}
use Rattle.engine.specs.Database.{Rows}
use Rattle.engine.specs.Explained.{explained, explained_query, explained_status, explained_text}
use Rattle.engine.specs.Hidden.{SeesSame}
use Rattle.engine.proofs.ExplainedTexts.{same_explained}
use Rattle.setup.specs.PlanTree.{explained_tree, tree_or_same, with_tree}

module _ (cat : Catalog) (rows : Rows) (role : Name) where
  tree_text_of : (a : Result Bound Reply) → explained_text (with_tree a (explained_query cat rows role a)) ≡ tree_or_same a (explained_text (explained_query cat rows role a))
  tree_text_of (Ok b) = refl
  tree_text_of (Err refusal) = refl

  tree_status_of : (a : Result Bound Reply) → explained_status (with_tree a (explained_query cat rows role a)) ≡ explained_status (explained_query cat rows role a)
  tree_status_of (Ok b) = refl
  tree_status_of (Err refusal) = refl

  pub tree_text : (text : List ℕ) → explained_text (explained_tree cat rows role text) ≡ tree_or_same (admitted cat role text) (explained_text (explained cat rows role text))
  tree_text text = tree_text_of (admitted cat role text)

  pub tree_status : (text : List ℕ) → explained_status (explained_tree cat rows role text) ≡ explained_status (explained cat rows role text)
  tree_status text = tree_status_of (admitted cat role text)

pub same_tree : (cat : Catalog) (role : Name) (text : List ℕ) (one other : Rows) → SeesSame cat role text one other → explained_tree cat one role text ≡ explained_tree cat other role text
same_tree cat role text one other same = ap (with_tree (admitted cat role text)) (same_explained cat role text one other same)
