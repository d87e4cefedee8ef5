use Rattle.std.proofs.Common.{◌∙◌, List, Bor, ap, map, refl}
use Rattle.value.specs.Names.{Name}
use Rattle.replies.specs.Reply as reply
use Rattle.access_matrix.specs.Changes.{change_headings}
use Rattle.access_matrix.proofs.Reported.{all_pairs, reported_opens, reported_rows}
use Rattle.access_matrix.proofs.comparing.changes.Goals as goal

pub returns-clause-rows : goal.returns-clause-rows
returns-clause-rows g c =
    let found = all_pairs c.args.old.now c.args.new.now c.as_slice.result.now c.as_slice-2.result.now
    (ap (λ (l : List (Bor Name)). map (λ n. n.now) l) c.as_slice.ensures ∙ (rw (c.catalog.ensures.catalog, c.catalog-2.ensures.catalog) at c.in_ok-roles.ensures))
    (ap (λ (l : List (Bor Name)). map (λ n. n.now) l) c.as_slice-2.ensures ∙ (rw (c.catalog-3.ensures.catalog, c.catalog-4.ensures.catalog) at c.in_ok-tables.ensures)) in
    ap (λ h. reply.Rows h c.add_roles.new.report.rows.rows) c.in_ok-headings.ensures
    ∙ ap (λ rows. reply.Rows change_headings rows) (reported_rows c.args.old.now c.args.new.now _ _ found _ _ c.in_ok-add_roles.ensures c.new.ensures)

pub returns-clause-opens : goal.returns-clause-opens
returns-clause-opens g c =
    let found = all_pairs c.args.old.now c.args.new.now c.as_slice.result.now c.as_slice-2.result.now
    (ap (λ (l : List (Bor Name)). map (λ n. n.now) l) c.as_slice.ensures ∙ (rw (c.catalog.ensures.catalog, c.catalog-2.ensures.catalog) at c.in_ok-roles.ensures))
    (ap (λ (l : List (Bor Name)). map (λ n. n.now) l) c.as_slice-2.ensures ∙ (rw (c.catalog-3.ensures.catalog, c.catalog-4.ensures.catalog) at c.in_ok-tables.ensures)) in
    reported_opens c.args.old.now c.args.new.now _ _ found _ _ c.in_ok-add_roles.ensures refl
