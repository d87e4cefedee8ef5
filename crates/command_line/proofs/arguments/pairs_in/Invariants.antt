use Rattle.std.proofs.Common.{◌≡◌, drop, map}
use Rattle.command_line.specs.Requests.{pairs_in}
use Rattle.command_line.specs.View.{allowed_of}
use Rattle.command_line.proofs.Pairs.{all_after}
use Rattle.command_line.proofs.arguments.pairs_in.Given as goal

abbrev pub invariant-loop-text : goal.invariant-loop-text
invariant-loop-text l = all_after (map allowed_of l.pairs.items) (pairs_in (map (λ t. t.now) (drop l.text-index l.texts))) ≡ pairs_in (map (λ t. t.now) l.texts)
