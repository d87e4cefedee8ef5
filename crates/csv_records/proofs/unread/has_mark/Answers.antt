use Rattle.std.proofs.Common.{◌∙◌}
use Rattle.csv_records.proofs.HeldFacts.{mark_of_few, mark_of_three}
use Rattle.csv_records.proofs.unread.has_mark.Goals as goal

pub returns-in_default : goal.returns-in_default
returns-in_default c = mark_of_few c.args.bytes.now c.in_default.len_below

pub returns-in-len3-up : goal.returns-in-len3-up
returns-in-len3-up c = c.is_mark.ensures ∙ mark_of_three c.args.bytes.now c.in-len3-up.len_at_least
