use Rattle.std.proofs.Common.{◌≡◌, ◌++◌, drop, map}
use Rattle.access_matrix.proofs.values.headings.Given as goal

abbrev pub invariant-loop-text : goal.invariant-loop-text
invariant-loop-text g l = l.headings ++ map (λ t. t.now) (drop l.text-index l.texts) ≡ map (λ t. t.now) l.texts
