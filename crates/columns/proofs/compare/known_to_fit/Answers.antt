use Rattle.std.proofs.Common.{get_or, All, FitsSigned, w64, pos, rules, subst}
use Rattle.std.proofs.lemmas.List.Elements.{All-more}
use Rattle.std.proofs.lemmas.List.{take_all}
use Rattle.columns.proofs.compare.known_to_fit.Goals as goal

pub loop-value-preserved : goal.loop-value-preserved
loop-value-preserved c =
    let f : FitsSigned w64 (get_or c.args.values.now c.loop-value.value-index (pos 0)) = search rules in
    All-more (FitsSigned w64) c.args.values.now c.loop-value.value-index (pos 0) c.loop-value-test.true c.loop-value.invariant f

pub returns : goal.returns
returns c = subst (All (FitsSigned w64)) (take_all c.loop-value.value-index c.args.values.now c.loop-value-test.false) c.loop-value.invariant
