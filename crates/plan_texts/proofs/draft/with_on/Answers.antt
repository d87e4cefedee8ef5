use Rattle.std.proofs.Common.{◌++◌, [], ◌∷◌, ap, ◌∙◌}
use Rattle.std.specs.Prelude.{map}
use Rattle.std.proofs.lemmas.List.{map_push}
use Rattle.row_ast.specs.View.{expr_of}
use Rattle.plan_texts.specs.View.{on_of}
use Rattle.plan_texts.proofs.draft.with_on.Goals as goal

pub returns : goal.returns
returns g c =
    ap (map on_of) c.in_ok-push.ensures.ok ∙ map_push on_of c.args.ons _
    ∙ ap (λ e. map on_of c.args.ons ++ (record { entry = c.args.entry; condition = expr_of e }) ∷ []) c.into_inner-condition.ensures
