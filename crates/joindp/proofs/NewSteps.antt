-- What a step that may follow a set of placed entries tells.
use Rattle.std.proofs.Common.{◌≡◌, ◌<◌, ◌≤◌, true, false, ◌&&◌, not, nat_le, length, arith}
use Rattle.std.proofs.lemmas.Bool.{leb-true, not-true}
use Rattle.expr.specs.declared.code.CodeStep.{CodeStep}
use Rattle.predicates.proofs.Movables.{and_left, and_right}
use Rattle.stats.specs.Card.{Entries}
use Rattle.trailcheck.specs.Admissible.{is_allowed_access}
use Rattle.trailcheck.specs.Settings.{Setting, inner_count}
use Rattle.trailcheck.specs.Shapes.{entry_index}
use Rattle.joindp.specs.Following.{may_be_next, may_follow, may_join_by}

pub record IsNew (at : Setting) (entries : Entries) (s : CodeStep) : Type 0 where
  pub from_one : 1 ≤ s.entry
  pub below : entry_index s < inner_count at
  pub new : entries (entry_index s) ≡ false
  pub next : may_be_next at entries (entry_index s) ≡ true
  pub access : is_allowed_access at (entry_index s) s.access ≡ true
  pub method : may_join_by at entries (entry_index s) s.method ≡ true

pub is_new : (at : Setting) (entries : Entries) (s : CodeStep) → may_follow at entries s ≡ true → IsNew at entries s
is_new at entries s h =
    let i = entry_index s in
    let range = nat_le 1 s.entry && nat_le s.entry (inner_count at) in
    let order = and_left (range && may_be_next at entries i) (is_allowed_access at i s.access && may_join_by at entries i s.method) h in
    let ways = and_right (range && may_be_next at entries i) (is_allowed_access at i s.access && may_join_by at entries i s.method) h in
    let there = and_left range (may_be_next at entries i) order in
    let next = and_right range (may_be_next at entries i) order in
    let a = leb-true 1 s.entry (and_left (nat_le 1 s.entry) (nat_le s.entry (inner_count at)) there) in
    let b = leb-true s.entry (inner_count at) (and_right (nat_le 1 s.entry) (nat_le s.entry (inner_count at)) there) in
    record {
      from_one = a;
      below = omega (arith, a, b);
      new = not-true (entries i) (and_left (not (entries i)) _ next);
      next = next;
      access = and_left (is_allowed_access at i s.access) (may_join_by at entries i s.method) ways;
      method = and_right (is_allowed_access at i s.access) (may_join_by at entries i s.method) ways;
    }
