use Rattle.std.proofs.Common.{◌∙◌, refl, sym}
use Rattle.std.proofs.lemmas.Bool.{or_parts}
use Rattle.access_matrix.specs.Sights.{is_any, pair_of}
use Rattle.access_matrix.proofs.Gained.{any_gain}
use Rattle.access_matrix.proofs.Reported.{no_row, one_row, changed_by}
use Rattle.access_matrix.proofs.comparing.push_change.Goals as goal

pub returns-then-not-are_any-clause-rows : goal.returns-then-not-are_any-clause-rows
returns-then-not-are_any-clause-rows g c = λ before after o n.
    let more = c.in_ok-gained.ensures before after c.args.pair.role.now c.args.pair.table.now o n in
    let less = c.in_ok-lost.ensures after before c.args.pair.role.now c.args.pair.table.now n o in
    no_row before after (pair_of c.args.pair) c.args.rows.now c.args.rows.now
    (sym (changed_by before after (pair_of c.args.pair) c.in_ok-gained.gained c.in_ok-lost.lost more less) ∙ sym c.if-not-are_any.ensures) c.requires refl

pub returns-then-not-are_any-clause-gains : goal.returns-then-not-are_any-clause-gains
returns-then-not-are_any-clause-gains g c = λ before after o n.
    sym (or_parts (is_any c.in_ok-gained.gained) (is_any c.in_ok-lost.lost) (sym c.if-not-are_any.ensures)).0
    ∙ any_gain before after c.args.pair.role.now c.args.pair.table.now c.in_ok-gained.gained (c.in_ok-gained.ensures before after c.args.pair.role.now c.args.pair.table.now o n)

pub returns-clause-rows : goal.returns-clause-rows
returns-clause-rows g c = λ before after o n.
    let more = c.in_ok-gained.ensures before after c.args.pair.role.now c.args.pair.table.now o n in
    let less = c.in_ok-lost.ensures after before c.args.pair.role.now c.args.pair.table.now n o in
    one_row before after (pair_of c.args.pair) c.args.rows.now _
    (sym (changed_by before after (pair_of c.args.pair) c.in_ok-gained.gained c.in_ok-lost.lost more less) ∙ sym c.if-not-are_any.ensures) (c.in_ok-push_row.ensures before after more less)

pub returns-clause-gains : goal.returns-clause-gains
returns-clause-gains g c = λ before after o n.
    c.is_any.ensures ∙ any_gain before after c.args.pair.role.now c.args.pair.table.now c.in_ok-gained.gained (c.in_ok-gained.ensures before after c.args.pair.role.now c.args.pair.table.now o n)
