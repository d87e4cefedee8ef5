use Rattle.std.proofs.Common.{◌∙◌, length, map}
use Rattle.std.proofs.lemmas.Result.{on_ok_weaker}
use Rattle.row_terms.specs.View.{term_of}
use Rattle.algebra.specs.View.{step_of}
use Rattle.rewrite.specs.Placing.{settling, settling_all}
use Rattle.rewrite.proofs.Added.{rest_of, filters_added, settling_added}
use Rattle.rewrite.proofs.placing.+settle_all.Goals as goal

pub returns : goal.returns
returns g t c =
    on_ok_weaker c.settle_all.result
    (λ n. filters_added (map step_of c.args.trail.now) (map step_of c.settle.new.trail) (map step_of c.settle_all.new.trail) (settling_all c.args.count (rest_of c.args.conditions.now) (term_of c.in_ok-term.term))
    (settling_all c.args.count c.args.conditions.now (term_of c.args.term)) (length (rest_of c.args.conditions.now)) c.as_slice.result.now (settling c.args.count c.in_ok-condition.condition (term_of c.args.term))
    (c.as_slice.ensures ∙ c.in_ok-path.ensures) c.in_ok-term.ensures.steps n
    (settling_added c.args.count c.args.conditions.now c.condition-item.result c.in_ok-condition.condition (term_of c.args.term) (term_of c.in_ok-term.term) c.in-len1-up.len_at_least c.condition-item.is c.in_ok-condition.ensures c.in_ok-term.ensures.term))
    c.settle_all.ensures
