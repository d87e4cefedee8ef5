use Rattle.std.proofs.Common.{◌∙◌, [], ◌∷◌, if◌then◌else◌, sym, ap, map}
use Rattle.algebra.specs.View.{step_of}
use Rattle.rewrite.specs.Trails.{at_root}
use Rattle.rewrite.proofs.Below.{none_added}
use Rattle.rewrite.proofs.arranging.push_opening_one.Goals as goal

pub returns-else-is_open : goal.returns-else-is_open
returns-else-is_open g c = none_added c.args.path.now (map step_of c.args.trail.now) _ (ap (λ b. if b then at_root 9 ∷ [] else []) (sym c.is_open.ensures ∙ c.if-is_open.false))
