use Rattle.std.proofs.Common.{◌++◌, [], ◌∷◌, Some, ap, ◌∙◌, arith}
use Rattle.std.specs.Prelude.{map}
use Rattle.std.proofs.lemmas.List.{map_push}
use Rattle.row_ast.specs.View.{expr_of}
use Rattle.plan_texts.specs.Reading.{Costed}
use Rattle.plan_texts.proofs.Additions.{is_next, not_next}
use Rattle.plan_texts.proofs.draft.with_filter.Goals as goal

pub returns : goal.returns
returns g c =
    ap (λ es. Some (Costed c.args.cost (map expr_of es))) (c.in_ok-push.ensures.ok ∙ ap (λ e. c.args.filters ++ e ∷ []) c.into_inner.ensures)
    ∙ ap (λ es. Some (Costed c.args.cost es)) (map_push expr_of c.args.filters c.args.filter.value)
    ∙ is_next expr_of c.args.number c.args.filters _ (omega (arith, c.from.ensures, c.len.ensures, c.if-from-len.false))

pub returns-then-from-len : goal.returns-then-from-len
returns-then-from-len g c = not_next expr_of c.args.number c.args.filters _ (λ e. omega (arith, c.from.ensures, c.len.ensures, c.if-from-len.true, e))
