use Rattle.std.proofs.Common.{◌≡◌, ◌-◌, ap, refl, arith}
use Rattle.row_terms.specs.Terms as terms
use Rattle.row_terms.specs.View.{term_of}
use Rattle.algebra.proofs.Entries.{one_more, no_more}
use Rattle.algebra.proofs.runs.emptied.Goals as goal

pub loop-entry-init : goal.loop-entry-init
loop-entry-init g c = let z : c.args.count - 0 ≡ c.args.count = omega arith in rw (c.new-entries.ensures, z) refl

pub loop-entry-preserved : goal.loop-entry-preserved
loop-entry-preserved g c = one_more (terms.covers (term_of c.args.term.now)) c.args.count c.loop-entry.entry c.loop-entry.entries _ c.loop-entry.invariant (omega (arith, c.loop-entry-test.true)) _ c.in_ok-push_if_covered.ensures

pub returns : goal.returns
returns g c = ap terms.Empty (no_more (terms.covers (term_of c.args.term.now)) c.args.count c.loop-entry.entry c.loop-entry.entries _ c.loop-entry.invariant (omega (arith, c.loop-entry-test.false)))
