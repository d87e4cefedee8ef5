use Rattle.std.proofs.Common.{◌≡◌, ◌<◌, ◌-◌, ◌∙◌, length, take, ap, arith}
use Rattle.csv_records.proofs.HeldFacts.{all_held, length-part, more_held, more_kept, none_held, none_read, room_left}
use Rattle.csv_records.proofs.unread.Unread.more.Goals as goal

pub returns-in-Ok-clause-kept : goal.returns-in-Ok-clause-kept
returns-in-Ok-clause-kept g c =
    let old = c.self.inside in
    let start = ap (λ u. u.passed) c.self.view_is ∙ c.requires.passed in
    rw (more_held old.buffer c.read.new.buf _ old.at old.filled c.in-Ok.count start c.self.invariant.1 c.in-Ok.ensures.bound.0, ← ap (λ u. u.left) c.self.view_is)
    (more_kept _ (take c.in-Ok.count c.read.new.buf) (g.R.Read.remaining old.rdr) (g.R.Read.remaining c.read.new.self) c.in-Ok.ensures.bytes.0)

pub returns-in-Ok-clause-end : goal.returns-in-Ok-clause-end
returns-in-Ok-clause-end g c = λ none.
    let old = c.self.inside in
    let start = ap (λ u. u.passed) c.self.view_is ∙ c.requires.passed in
    let held = more_held old.buffer c.read.new.buf _ old.at old.filled c.in-Ok.count start c.self.invariant.1 c.in-Ok.ensures.bound.0 in
    let no : c.in-Ok.count ≡ 0 = none_read c.in-Ok.count none in
    let room : 0 < length c.read.new.buf =
    let room : old.filled < 16384 = omega (arith, c.requires.room, start, c.self.invariant.0, length-part old.buffer old.at old.filled c.self.invariant.1, ap (λ u. length u.held) c.self.view_is) in
    omega (arith, room, room_left old.buffer c.read.new.buf old.filled (16384 - old.filled) c.read.auto.buf (omega (arith, c.self.told, c.self.invariant.1))) in
    (held ∙ none_held _ c.read.new.buf c.in-Ok.count no ∙ ap (λ u. u.held) c.self.view_is, all_held _ (g.R.Read.remaining c.read.new.self) (c.in-Ok.ensures.bytes.1 no room))
