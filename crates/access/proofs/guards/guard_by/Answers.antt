use Rattle.std.proofs.Common.{◌≡◌, ◌∙◌, ◌==◌, sym, ap, map, length, arith}
use Rattle.std.proofs.lemmas.List.{nil_from_length}
use Rattle.expr.specs.View.{bound_expr_of}
use Rattle.access.proofs.Chosen.{none_given, some_given, empty_view, zero_if, movable_of, on_ok}
use Rattle.access.proofs.guards.guard_by.Goals as goal

pub returns-then-is_empty-clause-value : goal.returns-then-is_empty-clause-value
returns-then-is_empty-clause-value g c =
    let z : c.in-Ok.permissive.len ≡ 0 = zero_if c.in-Ok.permissive.len c.if-is_empty.ensures in
    let l : length c.in-Ok.permissive.items ≡ 0 = omega (arith, z, c.in-Ok.permissive.ok) in
    none_given _ _ (sym c.in-Ok.ensures.value ∙ ap (map bound_expr_of) (nil_from_length c.in-Ok.permissive.items l))

pub returns-then-is_empty-clause-movable : goal.returns-then-is_empty-clause-movable
returns-then-is_empty-clause-movable g c = movable_of (map bound_expr_of c.in-Ok.permissive.items) _ c.in-Ok.ensures.value c.in-Ok.ensures.movable

pub returns-else-is_empty-clause-value : goal.returns-else-is_empty-clause-value
returns-else-is_empty-clause-value g c =
    some_given _ _ (map bound_expr_of c.in-Ok.permissive.items) c.combined.result c.in-Ok.ensures.value
    (λ e.
    let l : length c.in-Ok.permissive.items ≡ 0 = empty_view bound_expr_of c.in-Ok.permissive.items e in
    let z : c.in-Ok.permissive.len ≡ 0 = omega (arith, l, c.in-Ok.permissive.ok) in
    c.if-is_empty.ensures ∙ ap (λ n. n == 0) z)
    c.combined.ensures

pub returns-else-is_empty-clause-movable : goal.returns-else-is_empty-clause-movable
returns-else-is_empty-clause-movable g c = on_ok c.combined.result (movable_of (map bound_expr_of c.in-Ok.permissive.items) _ c.in-Ok.ensures.value c.in-Ok.ensures.movable)
