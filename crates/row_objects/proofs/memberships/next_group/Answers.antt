use Rattle.std.proofs.Common.{◌≡◌, true, false, map, sym, ◌∙◌, arith}
use Rattle.std.proofs.lemmas.List.{at_drop_more}
use Rattle.row_objects.specs.Reached.{is_marked, next_group}
use Rattle.row_objects.specs.MembershipView.{membership_of}
use Rattle.row_objects.proofs.memberships.next_group.Goals as goal

pub returns-then-not-is_marked : goal.returns-then-not-is_marked
returns-then-not-is_marked g c =
    let next = sym (at_drop_more (λ l. next_group c.args.roles.now c.args.marks.now (map (λ m. membership_of m) l)) c.args.memberships.now c.loop-m.m-index c.m-item.result (omega (arith, c.loop-m-test.true))) ∙ c.loop-m.invariant in
    let member : is_marked c.args.roles.now c.args.marks.now c.m-item.result.member ≡ true = sym (rw (c.if-is_marked.true, c.as_str.ensures) at c.is_marked.ensures) in
    let group : is_marked c.args.roles.now c.args.marks.now c.m-item.result.group ≡ false = sym (rw (c.if-not-is_marked.true, c.as_str-then-is_marked.ensures) at c.is_marked-then-is_marked.ensures) in
    (rw (c.as_str-then-not-is_marked.ensures) at c.index.ensures.index) ∙ (rw (← c.m-item.is, member, group) at next)
