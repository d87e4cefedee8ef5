use Rattle.std.proofs.Common.{ap, sym, ◌∙◌}
use Rattle.std.proofs.lemmas.List.{length-map}
use Rattle.std.specs.List.{range_with_len}
use Rattle.row_terms.specs.Terms.{Empty}
use Rattle.tuples.specs.View.{guard_of}
use Rattle.trailcheck.proofs.shapes.no_rows.Goals as goal

pub returns : goal.returns
returns g c = ap Empty (c.in_ok-entries.ensures ∙ ap (range_with_len 0) (c.len.ensures ∙ sym (length-map c.args.setting.now.frame guard_of)))
