use Rattle.std.proofs.Common.{[], ◌∷◌, ap, map, subst, sym, take, ◌∙◌, arith}
use Rattle.std.proofs.lemmas.List.{map-append}
use Rattle.std.proofs.lemmas.Result.{err_from_is_err_and}
use Rattle.tuples.specs.View.{world_of}
use Rattle.tuples.specs.World.{combination_at}
use Rattle.row_marks.proofs.Marking.{all_taken}
use Rattle.report.specs.Answering.{Took}
use Rattle.report.proofs.Taking.{next_taken}
use Rattle.report.proofs.finishing.finish_marked.Goals as goal

pub loop-combination-preserved : goal.loop-combination-preserved
loop-combination-preserved g c = λ are.
    let w = world_of c.args.world.now in
    let these = c.args.combinations.now in
    let i = c.loop-combination.combination-index in
    let next = next_taken these i c.combination-item.result c.loop-combination-test.true c.combination-item.is in
    subst (Took w c.take_marked.new.self) (sym (ap (map (combination_at w.tables)) next ∙ map-append (combination_at w.tables) (take i these) (c.combination-item.result ∷ [])))
    (c.in_ok-take_marked.ensures w _ are (c.loop-combination.invariant are))

pub returns : goal.returns
returns g c = λ are same p.
    let w = world_of c.args.world.now in
    let all = all_taken c.args.combinations.now c.loop-combination.combination-index (omega arith) in
    c.end.ensures w _ same (subst (λ l. Took w c.loop-combination.answering (map (combination_at w.tables) l)) all (c.loop-combination.invariant are)) p

pub returns-in_err-take_marked : goal.returns-in_err-take_marked
returns-in_err-take_marked g c = λ are same q.
    let p = err_from_is_err_and c.from_residual-in_err-take_marked.result c.from_residual-in_err-take_marked.ensures.1 in
    rw (p.1, p.2) tt
