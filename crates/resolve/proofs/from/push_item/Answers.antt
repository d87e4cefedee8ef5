use Rattle.std.proofs.Common.{◌≡◌, ◌∙◌, ◌++◌, ◌∷◌, [], ℕ, List, append_assoc, length, map, refl, ap}
use Rattle.std.proofs.lemmas.List.{map-append}
use Rattle.row_ast.specs.View.{join_of, from_item_of}
use Rattle.resolve.specs.Entries.{JoinedTable, first_table, joined_by}
use Rattle.resolve.specs.View.{joined_table_of}
use Rattle.resolve.proofs.from.push_item.Goals as goal

-- the first table of an item, and its joins
item_put : {J : Type 0} (v : J → JoinedTable) (old mid : List J) (x : J) (first : ℕ) (head : ℕ → JoinedTable) (tail : ℕ → List JoinedTable) (new : List JoinedTable) → mid ≡ old ++ x ∷ [] → first ≡ length old → v x ≡ head first
    → new ≡ map v mid ++ tail first → new ≡ map v old ++ (head (length old) ∷ tail (length old))
item_put v old mid x first head tail new m n e w = rw (w, m, map-append, e, n) (append_assoc (map v old) (head (length old) ∷ []) (tail (length old)))

pub returns : goal.returns
returns g c =
    item_put (λ j. joined_table_of j) c.args.tables.now c.push.new.self _ c.len-first.result (λ n. first_table n (from_item_of c.args.item.now).first) (λ n. map (joined_by n) (from_item_of c.args.item.now).joins) _ c.in_ok-push.ensures.ok c.len-first.ensures refl
    (c.in_ok-push_joins.ensures ∙ ap (λ js. map (λ j. joined_table_of j) c.push.new.self ++ map (joined_by c.len-first.result) (map (λ j. join_of j) js)) c.as_slice.ensures)
