use Rattle.std.proofs.Common.{◌∙◌, sym, ap, arith, map, Some}
use Rattle.value.specs.Datum.{datum}
use Rattle.typing.specs.Typing.{common_of, common_of_all, type_of}
use Rattle.memory.proofs.Lists.{known_next}
use Rattle.typing.proofs.Walks.{common_alone, common_assoc, known_over}
use Rattle.typing.proofs.types.common_of_all.Goals as goal

pub loop-value-preserved : goal.loop-value-preserved
loop-value-preserved g c =
    known_next (λ known ds. common_of known (common_of_all (map type_of ds))) (λ known d. common_of known (Some (type_of d))) datum c.args.values.now c.loop-value.value-index
    (λ known d ds. sym (common_assoc known (Some (type_of d)) (common_of_all (map type_of ds)))) c.value-item.result c.loop-value-test.true c.value-item.is c.loop-value.known _ _ c.loop-value.invariant
    (c.common_of-known.ensures ∙ ap (λ t. common_of c.loop-value.known (Some t)) c.type_of.ensures)

pub returns : goal.returns
returns g c = known_over (λ known ds. common_of known (common_of_all (map type_of ds))) datum c.args.values.now c.loop-value.value-index common_alone c.loop-value.known _ c.loop-value.invariant (omega (arith, c.loop-value-test.false))
