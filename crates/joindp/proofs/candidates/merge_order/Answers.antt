use Rattle.std.proofs.Common.{◌≡◌, ◌∙◌, ap, ap₂, sym}
use Rattle.trailcheck.specs.Shapes.{entry_index}
use Rattle.joindp.specs.Following.{may_join_by}
use Rattle.joins.specs.Orders.{sides}
use Rattle.joindp.specs.Search.{set_of}
use Rattle.code_costs.specs.View.{problem_of}
use Rattle.joindp.proofs.Asked.{has_sides}
use Rattle.joindp.proofs.NewSteps.{is_new}
use Rattle.joindp.proofs.candidates.merge_order.Goals as goal

-- a merge that may follow has columns to merge by
pub returns-in_err-column : goal.returns-in_err-column
returns-in_err-column g c =
    let p = problem_of c.args.inputs.now.problem.now in
    let i = entry_index c.args.step in
    let may = (is_new p.setting (set_of c.args.set) c.args.step c.requires.allowed).method in
    let asked : c.sides.result ≡ sides p.setting.conditions i c.in-Merge.conjunct = c.sides.ensures ∙ ap₂ (λ cs k. sides cs k c.in-Merge.conjunct) c.as_slice-conditions.ensures c.entry_index.ensures in
    absurd (has_sides p (set_of c.args.set) i c.in-Merge.conjunct (sym (ap (may_join_by p.setting (set_of c.args.set) i) c.in-Merge.is) ∙ may) (sym asked ∙ c.in_err-column.was))
