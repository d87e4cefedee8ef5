use Rattle.std.proofs.Common.{◌≡◌, ◌∙◌, ◌++◌, ap, get_or, sym, length, map}
use Rattle.std.proofs.lemmas.Result.{on_ok_weaker}
use Rattle.algebra.specs.View.{step_of}
use Rattle.tuples.specs.View.{guard_of}
use Rattle.trailcheck.specs.View.{setting_of}
use Rattle.rewrite.specs.Placing.{opening_one}
use Rattle.rewrite.specs.Trails.{below_path}
use Rattle.rewrite.proofs.Added.{arranging_added, arranging_first}
use Rattle.rewrite.proofs.arranging.+push_arranging.Goals as goal

pub returns-in_default : goal.returns-in_default
returns-in_default g t c =
    on_ok_weaker c.push_joining.result
    (λ n. n ∙ ap (λ ss. map step_of c.args.trail.now ++ below_path c.args.path.now ss) (sym (arranging_first (setting_of c.args.setting.now) c.args.inner.now c.args.lefts.now c.in_default.len_below)))
    c.push_joining.ensures

pub returns : goal.returns
returns g t c =
    on_ok_weaker c.push_arranging.result
    (λ n. arranging_added (setting_of c.args.setting.now) c.args.inner.now c.args.path.now (map step_of c.args.trail.now) c.args.lefts.now c.as_slice.result.now c.as_slice-2.result.now (map step_of c.push_opening_one.new.trail) (map step_of c.push_arranging.new.trail)
    c.in-len1-up.len_at_least (c.as_slice.ensures ∙ c.in_ok-side.ensures) (c.as_slice-2.ensures ∙ c.in_ok-deeper.ensures)
    (c.in_ok-push_opening_one.ensures ∙ ap (λ f. map step_of c.args.trail.now ++ below_path c.as_slice.result.now (opening_one (map guard_of f) (get_or c.args.lefts.now 0 0))) c.as_slice-frame.ensures) n)
    c.push_arranging.ensures
