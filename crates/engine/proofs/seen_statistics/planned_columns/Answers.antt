use Rattle.std.proofs.Common.{◌++◌, ◌-◌, drop, length, map, refl, sym, ap, ap₂, ◌∙◌}
use Rattle.std.specs.Prelude.{option_map}
use Rattle.std.specs.List.{flat_map}
use Rattle.std.proofs.lemmas.Grind.{flat_map-append}
use Rattle.expr.specs.Columns.{columns}
use Rattle.expr.specs.Conjuncts.{left_ons, movable_conjuncts}
use Rattle.expr.specs.NamedColumns.{condition_columns}
use Rattle.expr.specs.View.{bound_expr_of, bound_query_of}
use Rattle.row_terms.proofs.LeftOns.{last_viewed, rest_of}
use Rattle.report.proofs.NamedColumns.{whole_ons}
use Rattle.engine.proofs.seen_statistics.planned_columns.Goals as goal

pub returns : goal.returns
returns g c =
    let q = bound_query_of c.args.query.now in
    let conjuncts = ap (map (λ e. bound_expr_of e.now)) c.deref.ensures.value ∙ c.in_ok-conjuncts.ensures.value in
    let lefts = ap (map (λ o. option_map (λ b. bound_expr_of b.value) o)) (rest_of c.saturating_sub-inner.result c.as_slice-ons.result.now) ∙ last_viewed (λ o. option_map (λ b. bound_expr_of b.value) o) q c.as_slice-ons.result.now c.args.query.now.ons c.saturating_sub-inner.result c.as_slice-ons.ensures refl c.saturating_sub-inner.ensures in
    c.in_ok-push_ons_columns.ensures
    ∙ ap₂ (λ known ons. known ++ flat_map condition_columns ons) (c.in_ok-push_all_columns.ensures ∙ ap₂ (λ known es. known ++ flat_map columns es) c.new-planned.ensures conjuncts) lefts
    ∙ ap (λ ids. flat_map columns (movable_conjuncts q) ++ ids) (sym (whole_ons (drop (length q.ons - q.left_count) q.ons)))
    ∙ sym (flat_map-append columns (movable_conjuncts q) (left_ons q))
