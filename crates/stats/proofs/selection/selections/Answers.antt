use Rattle.std.proofs.Common.{◌≤◌, ◌++◌, [], ◌∷◌, ◌∙◌, ap, map, sym, take}
use Rattle.std.proofs.lemmas.List.{map_more, take_all}
use Rattle.std.proofs.lemmas.List.Elements.{All-push, All-same}
use Rattle.memory.proofs.Lists.{pushed}
use Rattle.stats.specs.Card.{selection}
use Rattle.stats.specs.Factors.{million}
use Rattle.stats.specs.View.{selection_of, stats_of}
use Rattle.stats.proofs.selection.selections.Goals as goal

pub loop-condition-preserved : goal.loop-condition-preserved
loop-condition-preserved g c =
    let seen = selection (map (λ s. stats_of s.now) c.args.statistics.now) in
    record {
      known =
          pushed (λ s. selection_of s) c.loop-condition.selections c.push.new.self c.in_ok-selected.field-0 (seen c.condition-item.result) c.in_ok-push.ensures.ok c.in_ok-selected.ensures.value
          ∙ ap (λ ss. ss ++ seen c.condition-item.result ∷ []) c.loop-condition.invariant.known
          ∙ ap (λ e. map seen (take c.loop-condition.condition-index c.args.conditions.now) ++ seen e ∷ []) c.condition-item.is
          ∙ sym (map_more seen c.args.conditions.now c.loop-condition.condition-index c.condition-item.result c.loop-condition-test.true);
      parts =
          All-same (λ s. s.factor ≤ million) c.push.new.self (c.loop-condition.selections ++ c.in_ok-selected.field-0 ∷ []) c.in_ok-push.ensures.ok
          (All-push (λ s. s.factor ≤ million) c.loop-condition.selections c.in_ok-selected.field-0 c.loop-condition.invariant.parts c.in_ok-selected.ensures.parts);
    }

pub returns-clause-value : goal.returns-clause-value
returns-clause-value g c =
    c.loop-condition.invariant.known ∙ ap (map (selection (map (λ s. stats_of s.now) c.args.statistics.now))) (take_all c.loop-condition.condition-index c.args.conditions.now c.loop-condition-test.false)
