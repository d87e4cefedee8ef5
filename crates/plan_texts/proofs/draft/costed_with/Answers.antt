use Rattle.std.proofs.Common.{ap, ◌∙◌}
use Rattle.std.specs.Prelude.{map}
use Rattle.std.proofs.lemmas.Result.{IfOk-weaker}
use Rattle.row_ast.specs.View.{expr_of}
use Rattle.plan_texts.specs.Reading.{after_filters}
use Rattle.plan_texts.specs.View.{line_of, on_of}
use Rattle.plan_texts.proofs.Additions.{not_filter}
use Rattle.plan_texts.proofs.draft.costed_with.Goals as goal

pub returns-in-Filter : goal.returns-in-Filter
returns-in-Filter g c = rw c.in-Filter.is c.with_filter.ensures

pub returns-in_default : goal.returns-in_default
returns-in_default g c =
    IfOk-weaker c.conditioned_with.result _ _
    (λ d e. e ∙ ap (λ os. after_filters c.args.cost (map expr_of c.args.filters) (map on_of os) (line_of c.args.line)) c.new.ensures ∙ not_filter c.args.line c.args.cost (map expr_of c.args.filters) c.in_default.not-Filter)
    c.conditioned_with.ensures
