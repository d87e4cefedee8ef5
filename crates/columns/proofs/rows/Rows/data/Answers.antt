use Rattle.std.proofs.Common.{◌<◌, List, [], map, length, get_or, ap, ◌∙◌, arith}
use Rattle.std.proofs.lemmas.List.{length-map}
use Rattle.value.specs.Datum.{Datum, null}
use Rattle.value.specs.declared.types.ColType.TheVariants.{Bigint}
use Rattle.columns.specs.Data.{cells_of, type_of}
use Rattle.columns.specs.Rows.{TypedRows}
use Rattle.columns.proofs.Growth.{item_is, column_is}
use Rattle.columns.proofs.rows.Rows.data.Goals as goal

pub index-requires : goal.index-requires
index-requires g c = omega (arith, c.requires.column, ap (λ (t : TypedRows). length t.types) c.self.view_is, length-map c.self.inside.columns.items type_of)

pub returns-clause-data_type : goal.returns-clause-data_type
returns-clause-data_type g c =
    let xs = c.self.inside.columns.items in
    let within : c.args.column < length xs = omega (arith, c.requires.column, ap (λ (t : TypedRows). length t.types) c.self.view_is, length-map xs type_of) in
    item_is type_of xs c.args.column c.index.result.now Bigint within c.index.ensures ∙ ap (λ (t : TypedRows). get_or t.types c.args.column Bigint) c.self.view_is

pub returns-clause-cells : goal.returns-clause-cells
returns-clause-cells g c =
    let xs = c.self.inside.columns.items in
    let cols = map cells_of xs in
    let within : c.args.column < length xs = omega (arith, c.requires.column, ap (λ (t : TypedRows). length t.types) c.self.view_is, length-map xs type_of) in
    item_is cells_of xs c.args.column c.index.result.now [] within c.index.ensures
    ∙ column_is c.self.inside.len c.self.inside.started cols c.self.invariant (ap (λ (t : TypedRows). t.unfinished) c.self.view_is ∙ c.requires.finished) c.args.column (omega (arith, length-map xs cells_of))
    ∙ ap (λ (t : TypedRows). map (λ (row : List Datum). get_or row c.args.column null) t.rows) c.self.view_is
