use Rattle.std.proofs.Common.{◌≡◌, drop}
use Rattle.std.specs.Prelude.{option_map}
use Rattle.std.specs.Ordering.{int_cmp}
use Rattle.bags.specs.Least.{least, lesser}
use Rattle.stats.specs.Statistics.{greatest}
use Rattle.stats.proofs.counting.bounds_of.Given as goal

abbrev pub invariant-loop-number : goal.invariant-loop-number
invariant-loop-number l = record {
  low : lesser int_cmp (option_map (λ b. b.least) l.bounds) (least int_cmp (drop l.number-index l.numbers)) ≡ least int_cmp l.numbers;
  high : lesser (λ x y. int_cmp y x) (option_map (λ b. b.greatest) l.bounds) (greatest int_cmp (drop l.number-index l.numbers)) ≡ greatest int_cmp l.numbers;
}
