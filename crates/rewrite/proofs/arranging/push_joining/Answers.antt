use Rattle.std.proofs.Common.{◌≡◌, ◌∙◌, ◌++◌, ap, ap₂, length, map, reverse}
use Rattle.std.specs.List.{range_with_len}
use Rattle.std.proofs.lemmas.Result.{on_ok_weaker}
use Rattle.algebra.specs.View.{step_of}
use Rattle.tuples.specs.View.{guard_of}
use Rattle.trailcheck.specs.View.{setting_of}
use Rattle.rewrite.specs.Placing.{from_entries, ordering, opening}
use Rattle.rewrite.specs.Trails.{below_path}
use Rattle.rewrite.proofs.Below.{both_added}
use Rattle.rewrite.proofs.arranging.push_joining.Goals as goal

pub returns : goal.returns
returns g c =
    let at = setting_of c.args.setting.now in
    let path = c.args.path.now in
    let old = map step_of c.args.trail.now in
    let mid = map step_of c.push_ordering.new.trail in
    let inner = c.args.inner.now in
    on_ok_weaker c.push_opening.result
    (λ n. both_added path old (ordering inner (from_entries at)) (opening at.frame inner) mid (map step_of c.push_opening.new.trail)
    (c.in_ok-push_ordering.ensures ∙ ap (λ is. old ++ below_path path (ordering inner is)) (c.as_slice.ensures ∙ c.in_ok-entries.ensures ∙ ap (λ k. reverse (range_with_len 0 k)) c.inner_count.ensures.count))
    (n ∙ ap (λ f. mid ++ below_path path (opening (map guard_of f) inner)) c.as_slice-2.ensures))
    c.push_opening.ensures
