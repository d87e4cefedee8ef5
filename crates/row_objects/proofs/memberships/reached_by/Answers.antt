use Rattle.std.proofs.Common.{◌<◌, ◌∙◌, map, sym, false, replicate, length, arith}
use Rattle.std.proofs.lemmas.List.{length-replicate}
use Rattle.row_objects.specs.MembershipView.{membership_of}
use Rattle.row_objects.proofs.Marks.{all_marked, all_reached_by, first_sound, marked_at, marked_still, next_fewer, next_sound, next_within, none_reached, index_within}
use Rattle.row_objects.proofs.memberships.reached_by.Goals as goal

pub returns-in_default-clause-marks : goal.returns-in_default-clause-marks
returns-in_default-clause-marks g c = λ s. none_reached c.args.roles.now (map (λ m. membership_of m) c.args.memberships.now) c.requires.known 256 c.args.r.now s (sym c.in_default.ensures.index)

pub loop-next-init : goal.loop-next-init
loop-next-init g c =
    let at = sym c.in-Some.ensures.index in
    let l = index_within c.args.roles.now c.args.r.now c.in-Some.start at in
    let long : c.in-Some.start < length (replicate 256 false) = omega (arith, l, c.requires.few, length-replicate 256 false) in
    record {
      sound = first_sound c.args.roles.now (map (λ m. membership_of m) c.args.memberships.now) c.args.r.now 256 c.in-Some.start at;
      start = marked_at c.args.roles.now (replicate 256 false) c.args.r.now c.in-Some.start at long;
    }

pub bounds-marks-next : goal.bounds-marks-next
bounds-marks-next g c =
    let l = next_within c.args.roles.now c.loop-next.marks (map (λ m. membership_of m) c.args.memberships.now) c.in-Some-next_group.next (sym c.in-Some-next_group.ensures) in
    omega (arith, l, c.requires.few)

pub loop-next-smaller : goal.loop-next-smaller
loop-next-smaller g c =
    let next = sym c.in-Some-next_group.ensures in
    let l = next_within c.args.roles.now c.loop-next.marks (map (λ m. membership_of m) c.args.memberships.now) c.in-Some-next_group.next next in
    next_fewer c.args.roles.now c.loop-next.marks (map (λ m. membership_of m) c.args.memberships.now) c.in-Some-next_group.next next (omega (arith, l, c.requires.few, c.loop-next.array_long))

pub loop-next-preserved : goal.loop-next-preserved
loop-next-preserved g c =
    let next = sym c.in-Some-next_group.ensures in
    let ms = map (λ m. membership_of m) c.args.memberships.now in
    let l = next_within c.args.roles.now c.loop-next.marks ms c.in-Some-next_group.next next in
    record {
      sound = next_sound c.args.roles.now c.loop-next.marks ms c.in-Some-next_group.next next c.args.r.now c.loop-next.invariant.sound;
      start = marked_still c.args.roles.now c.loop-next.marks c.args.r.now c.in-Some-next_group.next (omega (arith, l, c.requires.few, c.loop-next.array_long)) c.loop-next.invariant.start;
    }

pub returns-clause-marks : goal.returns-clause-marks
returns-clause-marks g c = λ s.
    all_reached_by c.args.roles.now (map (λ m. membership_of m) c.args.memberships.now) c.requires.known c.loop-next.marks c.args.r.now s
    (all_marked c.args.roles.now (map (λ m. membership_of m) c.args.memberships.now) c.requires.known c.loop-next.marks c.args.r.now s
    c.loop-next.invariant.sound c.loop-next.invariant.start (sym c.in_default-next_group.ensures))
