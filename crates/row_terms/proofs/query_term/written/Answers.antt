use Rattle.std.proofs.Common.{◌≡◌, ◌∙◌, map, ap, ap₂}
use Rattle.std.proofs.lemmas.Result.{IfOk-weaker}
use Rattle.expr.specs.View.{bound_expr_of, bound_query_of}
use Rattle.predicates.specs.Offsets.{without_offsets}
use Rattle.row_terms.specs.View.{term_of}
use Rattle.row_terms.specs.Written as spec
use Rattle.row_terms.proofs.query_term.written.Goals as goal

pub returns : goal.returns
returns g c =
    IfOk-weaker c.filters.result _ (λ t. term_of t ≡ spec.written c.args.count (bound_query_of c.args.query.now))
    (λ t h. h ∙ ap₂ spec.filters
    (ap (λ es. map without_offsets (map (λ e. bound_expr_of e.now) es)) c.deref.ensures.value ∙ ap (map without_offsets) c.in_ok-conjuncts.ensures.value)
    (c.in_ok-term.ensures ∙ ap (spec.all_joins c.args.count) (c.as_slice.ensures ∙ c.in_ok-lefts.ensures)))
    c.filters.ensures
