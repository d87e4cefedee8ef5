use Rattle.std.proofs.Common.{◌++◌, ◌∷◌, [], map, length, sym, ap, ◌∙◌, arith}
use Rattle.std.proofs.lemmas.List.{length-map}
use Rattle.columns.specs.Data.{cells_of, type_of}
use Rattle.columns.specs.Rows.{TypedRows}
use Rattle.columns.proofs.Growth.{length-rows, length-unfinished, finished_held, rows_finished}
use Rattle.columns.proofs.rows.Rows.finish_row.Goals as goal

pub overflow_add-self : goal.overflow_add-self
overflow_add-self g c =
    record { fits = omega (arith, c.requires.room, ap (λ (t : TypedRows). length t.rows) c.self.view_is, length-rows (map cells_of c.self.inside.columns.items) 0 c.self.inside.len) }

pub invariant_of-self : goal.invariant_of-self
invariant_of-self g c =
    let xs = c.self.inside.columns.items in
    let cols = map cells_of xs in
    let n = c.self.inside.len in
    let s = c.self.inside.started in
    finished_held n s cols c.self.invariant
    (sym (length-unfinished n s cols c.self.invariant.within) ∙ ap (λ (t : TypedRows). length t.unfinished) c.self.view_is ∙ c.requires.whole ∙ sym (ap (λ (t : TypedRows). length t.types) c.self.view_is) ∙ length-map xs type_of ∙ sym (length-map xs cells_of))

pub returns-clause-rows : goal.returns-clause-rows
returns-clause-rows g c =
    let xs = c.self.inside.columns.items in
    let cols = map cells_of xs in
    let n = c.self.inside.len in
    let s = c.self.inside.started in
    rows_finished cols n s
    (sym (length-unfinished n s cols c.self.invariant.within) ∙ ap (λ (t : TypedRows). length t.unfinished) c.self.view_is ∙ c.requires.whole ∙ sym (ap (λ (t : TypedRows). length t.types) c.self.view_is) ∙ length-map xs type_of ∙ sym (length-map xs cells_of))
    ∙ ap (λ (t : TypedRows). t.rows ++ t.unfinished ∷ []) c.self.view_is
