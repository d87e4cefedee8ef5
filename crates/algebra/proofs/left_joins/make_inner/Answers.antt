use Rattle.std.proofs.Common.{rules, ◌∙◌, sym, ap}
use Rattle.predicates.specs.NullRows.{rejects_null_rows}
use Rattle.row_terms.specs.Terms.{Filtered, covers}
use Rattle.row_terms.specs.View.{term_of}
use Rattle.algebra.proofs.Inner.{unmet, met}
use Rattle.algebra.proofs.left_joins.make_inner.Goals as goal

pub returns-then-not-rejects_nulls_of : goal.returns-then-not-rejects_nulls_of
returns-then-not-rejects_nulls_of g c =
    unmet (term_of c.args.term) (term_of c.in-LeftJoined.left.value) (term_of c.in-LeftJoined.right.value) c.in-Filtered.condition c.in-LeftJoined.on c.rejects_nulls_of.result
    (ap term_of c.in-Filtered.is ∙ ap (λ x. Filtered c.in-Filtered.condition (term_of x)) (sym c.into_inner.ensures ∙ c.in-LeftJoined.is))
    (c.rejects_nulls_of.ensures ∙ ap (λ y. rejects_null_rows (covers (term_of y)) c.in-Filtered.condition) c.deref.ensures) (search rules)

pub returns-in-LeftJoined : goal.returns-in-LeftJoined
returns-in-LeftJoined g c =
    met (term_of c.args.term) (term_of c.in-LeftJoined.left.value) (term_of c.in-LeftJoined.right.value) c.in-Filtered.condition c.in-LeftJoined.on c.rejects_nulls_of.result
    (ap term_of c.in-Filtered.is ∙ ap (λ x. Filtered c.in-Filtered.condition (term_of x)) (sym c.into_inner.ensures ∙ c.in-LeftJoined.is))
    (c.rejects_nulls_of.ensures ∙ ap (λ y. rejects_null_rows (covers (term_of y)) c.in-Filtered.condition) c.deref.ensures) (search rules)
    (term_of c.in_ok-input-in-LeftJoined.input.value)
    (ap term_of c.in_ok-input-in-LeftJoined.ensures ∙ ap (λ x. Filtered c.in-LeftJoined.on (term_of x)) c.in_ok-both-in-LeftJoined.ensures)
