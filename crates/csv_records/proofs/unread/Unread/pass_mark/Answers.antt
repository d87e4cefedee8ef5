use Rattle.std.proofs.Common.{true, false, ◌∙◌, sym, ap}
use Rattle.csv_records.specs.Unread.{has_mark}
use Rattle.csv_records.proofs.HeldFacts.{after_mark, three_held}
use Rattle.csv_records.proofs.unread.Unread.pass_mark.Goals as goal

pub pass-requires : goal.pass-requires
pass-requires g c = three_held _ (sym (c.has_mark.ensures ∙ ap has_mark c.held.ensures.held) ∙ c.if-has_mark.true)

pub returns-then-has_mark-clause-left : goal.returns-then-has_mark-clause-left
returns-then-has_mark-clause-left g c =
    rw c.pass.ensures.left (after_mark c.hold_three.new.self c.args.self.now.left c.in_ok-hold_three.ensures.kept c.held.ensures.left c.in_ok-hold_three.ensures.enough true (sym c.if-has_mark.true ∙ c.has_mark.ensures ∙ ap has_mark c.held.ensures.held))

pub returns-else-has_mark-clause-left : goal.returns-else-has_mark-clause-left
returns-else-has_mark-clause-left g c =
    after_mark c.hold_three.new.self c.args.self.now.left c.in_ok-hold_three.ensures.kept c.held.ensures.left c.in_ok-hold_three.ensures.enough false (sym c.if-has_mark.false ∙ c.has_mark.ensures ∙ ap has_mark c.held.ensures.held)
