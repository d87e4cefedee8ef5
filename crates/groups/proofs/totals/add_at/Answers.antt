use Rattle.std.proofs.Common.{arith, sym, true≢false}
use Rattle.value.specs.Datum.{datum_of}
use Rattle.groups.specs.Aggregates.{not_null}
use Rattle.groups.proofs.Adding.{none_at, place_at, set_at}
use Rattle.groups.proofs.totals.add_at.Goals as goal

pub returns-in_err-add-clause-in_place : goal.returns-in_err-add-clause-in_place
returns-in_err-add-clause-in_place g c = λ outcomes place.
    absurd (true≢false (sym (c.in_err-add.ensures.in_place (place_at c.args.totals.now.items c.args.index c.index_mut.result.now (datum_of c.args.argument.now) outcomes (omega (arith, c.if-index-len.true, c.len.ensures, c.args.totals.now.ok.0)) c.index_mut.ensures.value place))))

pub returns-in_ok-add-clause-added : goal.returns-in_ok-add-clause-added
returns-in_ok-add-clause-added g c =
    set_at c.args.totals.now.items c.args.index c.index_mut.result.now c.add.new.self (not_null (datum_of c.args.argument.now)) (omega (arith, c.if-index-len.true, c.len.ensures, c.args.totals.now.ok.0)) c.index_mut.ensures.value c.in_ok-add.ensures.added

pub returns-else-index-len-clause-added : goal.returns-else-index-len-clause-added
returns-else-index-len-clause-added g c = none_at c.args.totals.now.items c.args.index (not_null (datum_of c.args.argument.now)) (omega (arith, c.if-index-len.false, c.len.ensures, c.args.totals.now.ok.0))
