use Rattle.std.proofs.Common.{ℕ, ◌≡◌, ◌≤◌, ◌<◌, arith, get_or, length, map, refl, ap, ◌∙◌}
use Rattle.std.proofs.lemmas.List.{length-map}
use Rattle.value.specs.Columns.{column_of, fits_type}
use Rattle.value.specs.Datum.{null_or}
use Rattle.value.specs.declared.types.ColType.{ColType}
use Rattle.value.specs.declared.types.ColType.TheVariants.{Bigint}
use Rattle.tables.specs.Loading.{cells_of}
use Rattle.tables.proofs.Cells.{all_cells, exit_gives, field_missing, no_cell_yet, one_more_cell, one_refused, type_at}
use Rattle.tables.proofs.load.add_cells.Goals as goal

all_long : (n i m : ℕ) → n ≡ i → i ≤ m → m ≤ i → n ≡ m
all_long n i m e l k = omega arith

pub loop-i-init : goal.loop-i-init
loop-i-init g c = record { types = refl; rows = refl; read = no_cell_yet (map column_of c.args.columns.now) c.args.cells.now c.args.row c.args.rows.now.unfinished c.requires.none }

pub returns-in_default : goal.returns-in_default
returns-in_default g c =
    let within : c.loop-i.i < length c.args.cells.now = rw c.requires.wide c.loop-i-test.true in
    absurd (field_missing c.args.cells.now c.loop-i.i within c.in_default.ensures)

pub push_cell-requires-clause-within : goal.push_cell-requires-clause-within
push_cell-requires-clause-within g c =
    let cols = map column_of c.args.columns.now in
    omega (arith, c.loop-i.invariant.read.0, ap length (c.loop-i.invariant.types ∙ c.requires.types), length-map cols (λ c. c.data_type), length-map c.args.columns.now column_of, c.loop-i-test.true)

pub push_cell-requires-clause-fits : goal.push_cell-requires-clause-fits
push_cell-requires-clause-fits g c =
    let cols = map column_of c.args.columns.now in
    let is : get_or c.loop-i.rows.types (length c.loop-i.rows.unfinished) Bigint ≡ c.index-columns-i.result.data_type =
    (λ i. get_or ((c.loop-i.invariant.types ∙ c.requires.types) i) (c.loop-i.invariant.read.0 i) Bigint) ∙ type_at c.args.columns.now c.loop-i.i c.index-columns-i.result c.loop-i-test.true c.index-columns-i.is in
    ap (λ (t : ColType). fits_type t (null_or c.in_ok-value.value)) is ∙ c.in_ok-value.ensures.fits

pub push_cell-requires-clause-room : goal.push_cell-requires-clause-room
push_cell-requires-clause-room g c = omega (arith, ap length c.loop-i.invariant.rows, c.requires.room)

pub loop-i-preserved : goal.loop-i-preserved
loop-i-preserved g c = record {
  types = c.push_cell.ensures.types ∙ c.loop-i.invariant.types;
  rows = c.push_cell.ensures.rows ∙ c.loop-i.invariant.rows;
  read = one_more_cell c.args.columns.now c.args.cells.now c.args.row c.loop-i.i c.index-columns-i.result c.in-Some.field.now c.loop-i.rows.unfinished _ _ _ c.loop-i-test.true c.index-columns-i.is c.in-Some.ensures c.loop-i.invariant.read.0 c.loop-i.invariant.read.1
      c.in_ok-value.ensures.cell c.in_ok-push_cell.ensures.ok;
}

pub returns-in_err-value-clause-cells : goal.returns-in_err-value-clause-cells
returns-in_err-value-clause-cells g c =
    exit_gives (λ _. c.loop-i.rows.unfinished) c.from_residual.result c.in_err-value.field-0.0 (cells_of (map column_of c.args.columns.now) c.args.row 0 c.args.cells.now) c.from_residual.ensures.1
    (one_refused c.args.columns.now c.args.cells.now c.args.row c.loop-i.i c.index-columns-i.result c.in-Some.field.now c.loop-i.rows.unfinished c.in_err-value.field-0.0 (cells_of (map column_of c.args.columns.now) c.args.row 0 c.args.cells.now)
    c.loop-i-test.true c.index-columns-i.is c.in-Some.ensures c.loop-i.invariant.read.1 c.in_err-value.ensures.cell)

pub returns-clause-cells : goal.returns-clause-cells
returns-clause-cells g c = all_cells (map column_of c.args.columns.now) c.args.cells.now c.args.row c.loop-i.i c.loop-i.rows.unfinished _ (rw length-map c.loop-i-test.false) c.loop-i.invariant.read.1
