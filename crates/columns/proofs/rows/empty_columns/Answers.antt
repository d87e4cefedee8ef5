use Rattle.std.proofs.Common.{◌≡◌, ◌++◌, [], ◌∷◌, List, length, map, All, sym, ap, subst, ◌∙◌}
use Rattle.std.proofs.lemmas.List.{map_push}
use Rattle.std.proofs.lemmas.List.Elements.{All-push}
use Rattle.value.specs.Datum.{Datum}
use Rattle.columns.specs.Data.{cells_of, type_of}
use Rattle.columns.proofs.Growth.{types_more}
use Rattle.columns.proofs.rows.empty_columns.Goals as goal

pub loop-column-preserved : goal.loop-column-preserved
loop-column-preserved g c =
    let xs = c.loop-column.made.items in
    let x = c.new.result in
    let i = c.loop-column.column-index in
    let items : c.push.new.self.items ≡ xs ++ x ∷ [] = c.in_ok-push.ensures.items in
    record {
      types = ap (λ l. map type_of l) items ∙ map_push type_of xs x ∙ (λ p. c.loop-column.invariant.types p ++ c.new.ensures.data_type p ∷ [])
          ∙ sym (types_more c.args.columns.now i c.column-item.result c.loop-column-test.true c.column-item.is);
      none = subst (All (λ (cells : List Datum). length cells ≡ 0)) (sym (ap (λ l. map cells_of l) items ∙ map_push cells_of xs x))
          (All-push (λ (cells : List Datum). length cells ≡ 0) (map cells_of xs) (cells_of x) c.loop-column.invariant.none (ap length c.new.ensures.cells));
    }
