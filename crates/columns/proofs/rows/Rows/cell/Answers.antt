use Rattle.std.proofs.Common.{◌≡◌, ◌+◌, ◌<◌, List, [], map, length, get_or, sym, ap, ◌∙◌, arith}
use Rattle.std.proofs.lemmas.List.{get_or-map, length-map}
use Rattle.value.specs.Datum.{Datum, null}
use Rattle.columns.specs.Data.{cells_of, type_of}
use Rattle.columns.specs.Rows.{TypedRows, row_across}
use Rattle.columns.proofs.Growth.{length-rows, row_in, item_is, hold_long}
use Rattle.columns.proofs.rows.Rows.cell.Goals as goal

pub get-requires : goal.get-requires
get-requires g c =
    let xs = c.self.inside.columns.items in
    let n = c.self.inside.len in
    let within : c.args.column < length xs = omega (arith, c.requires.column, ap (λ (t : TypedRows). length t.types) c.self.view_is, length-map xs type_of) in
    omega (
      arith,
      c.requires.row,
      ap (λ (t : TypedRows). length t.rows) c.self.view_is,
      length-rows (map cells_of xs) 0 n,
      ap length (item_is cells_of xs c.args.column c.index.result.now [] within c.index.ensures),
      hold_long n c.self.inside.started (map cells_of xs) c.self.invariant c.args.column [] (omega (arith, length-map xs cells_of)),
    )

pub returns : goal.returns
returns g c =
    let xs = c.self.inside.columns.items in
    let n = c.self.inside.len in
    let cols = map cells_of xs in
    let within : c.args.column < length xs = omega (arith, c.requires.column, ap (λ (t : TypedRows). length t.types) c.self.view_is, length-map xs type_of) in
    let below : c.args.row < n = omega (arith, c.requires.row, ap (λ (t : TypedRows). length t.rows) c.self.view_is, length-rows cols 0 n) in
    let same_index : 0 + c.args.row ≡ c.args.row = omega arith in
    c.get.ensures ∙ ap (λ (l : List Datum). get_or l c.args.row null) (item_is cells_of xs c.args.column c.index.result.now [] within c.index.ensures)
    ∙ sym (get_or-map (λ (l : List Datum). get_or l c.args.row null) cols c.args.column [] null (omega (arith, length-map xs cells_of)))
    ∙ sym (ap (λ (r : List Datum). get_or r c.args.column null) (row_in cols 0 n c.args.row below ∙ ap (row_across cols) same_index))
    ∙ ap (λ (t : TypedRows). get_or (get_or t.rows c.args.row []) c.args.column null) c.self.view_is
