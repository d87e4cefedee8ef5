-- One index more.
use Rattle.std.proofs.Common.{◌≡◌, ℕ, List, [], ◌∷◌, ◌++◌, map, ap, ◌∙◌}
use Rattle.std.proofs.lemmas.List.{map-append}
use Rattle.indexes.specs.declared.index.IndexRows.{IndexRows}

pub one_more : {A : Type 0} (made : List (IndexRows A)) (x : IndexRows A) (known : List ℕ) (column : ℕ) → map (λ i. i.column) made ≡ known → x.column ≡ column → map (λ i. i.column) (made ++ x ∷ []) ≡ known ++ column ∷ []
one_more made x known column so_far is = map-append (λ i. i.column) made (x ∷ []) ∙ ap (λ l. l ++ x.column ∷ []) so_far ∙ ap (λ k. known ++ k ∷ []) is
