use Rattle.std.proofs.Common.{◌∙◌, ◌++◌, [], ◌∷◌, map, arith, ap, ap₂, sym}
use Rattle.std.specs.List.{range_with_len}
use Rattle.std.proofs.lemmas.List.{map-append}
use Rattle.trailcheck.specs.View.{setting_of}
use Rattle.trailcheck.proofs.Numbers.{numbers_more}
use Rattle.joindp.specs.Following.{accesses}
use Rattle.joindp.proofs.searching.all_accesses.Goals as goal

pub loop-entry-preserved : goal.loop-entry-preserved
loop-entry-preserved g c =
    let f = accesses (setting_of c.args.problem.now.setting.now) in
    c.in_ok-push.ensures.ok ∙ ap₂ (λ l a. l ++ a ∷ []) c.loop-entry.invariant c.in_ok-accesses.ensures ∙ sym (ap (map f) (numbers_more c.loop-entry.entry) ∙ map-append f (range_with_len 0 c.loop-entry.entry) (c.loop-entry.entry ∷ []))

pub returns : goal.returns
returns g c =
    let f = accesses (setting_of c.args.problem.now.setting.now) in
    c.loop-entry.invariant ∙ ap (λ n. map f (range_with_len 0 n)) (omega (arith, c.inner_count-count.ensures.count, c.loop-entry-test.false))
