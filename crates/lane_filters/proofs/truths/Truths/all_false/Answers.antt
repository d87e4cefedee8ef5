use Rattle.std.proofs.Common.{replicate, sym}
use Rattle.std.proofs.lemmas.List.{length-replicate}
use Rattle.value.specs.declared.order.Truth.{Truth}
use Rattle.value.specs.declared.order.Truth.TheVariants.{False}
use Rattle.lane_filters.proofs.Shown.{shown, read_as, false_shown}
use Rattle.lane_filters.proofs.truths.Truths.all_false.Goals as goal

pub invariant_of-result : goal.invariant_of-result
invariant_of-result g c =
    shown c.in_ok-trues.trues.items c.in_ok-nulls.nulls.items (replicate c.args.len False) c.args.len (sym (length-replicate {A = Truth} c.args.len False))
    (false_shown c.args.len c.words_for-words.result c.in_ok-trues.trues.items c.in_ok-nulls.nulls.items c.words_for-words.ensures c.in_ok-trues.ensures c.in_ok-nulls.ensures)

pub returns : goal.returns
returns g c =
    read_as c.in_ok-trues.trues.items c.in_ok-nulls.nulls.items (replicate c.args.len False) c.args.len (sym (length-replicate {A = Truth} c.args.len False))
    (false_shown c.args.len c.words_for-words.result c.in_ok-trues.trues.items c.in_ok-nulls.nulls.items c.words_for-words.ensures c.in_ok-trues.ensures c.in_ok-nulls.ensures)
