use Rattle.std.proofs.Common.{rules, ◌≡◌, ◌≢◌, sym, true, false, map, length}
use Rattle.std.specs.Str.{bytes_eq}
use Rattle.std.proofs.lemmas.List.{length-map}
use Rattle.value.specs.Columns.{column_of}
use Rattle.tables.proofs.Names.{names-other_length, names_end, names_missing, names_step}
use Rattle.tables.proofs.load.has_names.Goals as goal

pub returns-then-len-columns : goal.returns-then-len-columns
returns-then-len-columns g c =
    let ne : length c.args.cells.now ≢ length (map column_of c.args.columns.now) = rw (length-map, ← c.len.ensures) c.if-len-columns.true in
    record { names = sym (names-other_length _ _ ne); len = λ e. cc e }

pub returns-in_default : goal.returns-in_default
returns-in_default g c =
    record { names = sym (names_missing c.args.columns.now c.args.cells.now c.loop-i.i c.index-columns-i.result _ c.loop-i-test.true c.index-columns-i.is c.in_default.ensures c.loop-i.invariant); len = λ e. cc e }

pub returns-then-ne : goal.returns-then-ne
returns-then-ne g c =
    let differ : bytes_eq c.in-Some.field.now c.index-columns-i.result.name ≡ false = search rules in
    record { names = sym (rw differ at (names_step c.args.columns.now c.args.cells.now c.loop-i.i c.index-columns-i.result c.in-Some.field.now _ c.loop-i-test.true c.index-columns-i.is c.in-Some.ensures c.loop-i.invariant)); len = λ e. cc e }

pub loop-i-preserved : goal.loop-i-preserved
loop-i-preserved g c =
    let same : bytes_eq c.in-Some.field.now c.index-columns-i.result.name ≡ true = search rules in
    rw same at (names_step c.args.columns.now c.args.cells.now c.loop-i.i c.index-columns-i.result c.in-Some.field.now _ c.loop-i-test.true c.index-columns-i.is c.in-Some.ensures c.loop-i.invariant)

pub returns : goal.returns
returns g c =
    let len : length c.args.cells.now ≡ length c.args.columns.now = search rules in
    let all = names_end (map column_of c.args.columns.now) c.args.cells.now c.loop-i.i _ (rw length-map c.loop-i-test.false) (rw length-map len) c.loop-i.invariant in
    record { names = sym all; len = λ _. len }
