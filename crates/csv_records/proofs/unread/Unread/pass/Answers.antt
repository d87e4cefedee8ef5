use Rattle.std.proofs.Common.{◌+◌, ◌≤◌, ◌∙◌, ap, arith, drop, length, option_map}
use Rattle.csv_records.proofs.HeldFacts.{left_drop, length-part, part_drop}
use Rattle.csv_records.proofs.unread.Unread.pass.Goals as goal

pub returns-clause-held : goal.returns-clause-held
returns-clause-held g c =
    let old = c.self.inside in
    let le : old.at + c.args.count ≤ old.filled = omega (arith, c.requires, ap (λ u. length u.held) c.self.view_is, length-part old.buffer old.at old.filled c.self.invariant.1, c.self.invariant.0) in
    part_drop old.buffer old.at c.args.count old.filled le ∙ ap (λ u. drop c.args.count u.held) c.self.view_is

pub returns-clause-left : goal.returns-clause-left
returns-clause-left g c =
    let old = c.self.inside in
    let le : old.at + c.args.count ≤ old.filled = omega (arith, c.requires, ap (λ u. length u.held) c.self.view_is, length-part old.buffer old.at old.filled c.self.invariant.1, c.self.invariant.0) in
    rw (part_drop old.buffer old.at c.args.count old.filled le) (left_drop _ c.args.count (g.R.Read.remaining old.rdr) (omega (arith, c.requires, ap (λ u. length u.held) c.self.view_is)) ∙ ap (λ u. option_map (drop c.args.count) u.left) c.self.view_is)
