use Rattle.std.proofs.Common.{◌∙◌, ◌+◌, refl, sym}
use Rattle.std.proofs.Math.ListN.{drop_of_length-le}
use Rattle.row_ast.specs.View.{statement_of}
use Rattle.setup.proofs.Fold.{done, next, stops_after, stops_at}
use Rattle.setup.proofs.schema.apply_statements.Goals as goal

pub returns-in-Err : goal.returns-in-Err
returns-in-Err g c =
    let h = c.in-Err.ensures in
    rw (h.2, h.0) record {
      applied = stops_at (λ s. statement_of s) c.args.statements.now c.index-statements-i.result c.loop-i.i c.loop-i-test.true c.index-statements-i.is (c.loop-i.i + 1) c.args.store.now c.loop-i.store h.1 h.3 c.loop-i.invariant.0;
      stops = stops_after (λ s. statement_of s) c.args.statements.now c.index-statements-i.result c.loop-i.i c.loop-i-test.true c.index-statements-i.is c.args.store.now c.loop-i.store h.1 c.loop-i.invariant.1;
    }

pub loop-i-preserved : goal.loop-i-preserved
loop-i-preserved g c = (
  sym (next (λ s. statement_of s) c.args.statements.now c.index-statements-i.result c.loop-i.i c.loop-i-test.true c.index-statements-i.is (c.loop-i.i + 1) c.loop-i.store c.apply_statement.new.store c.in-Ok.ensures) ∙ c.loop-i.invariant.0,
  done (λ s. statement_of s) c.args.statements.now c.index-statements-i.result c.loop-i.i c.loop-i-test.true c.index-statements-i.is 1 c.args.store.now c.loop-i.store c.apply_statement.new.store c.loop-i.invariant.1 c.in-Ok.ensures,
)

pub returns-clause-applied : goal.returns-clause-applied
returns-clause-applied g c = sym c.loop-i.invariant.0 ∙ rw (drop_of_length-le c.args.statements.now {i = c.loop-i.i} c.loop-i-test.false) refl
