use Rattle.std.proofs.Common.{◌≡◌, ◌++◌, ◌||◌, ℕ, List, drop}
use Rattle.stats.specs.Marked.{marked, marked_from}
use Rattle.stats.specs.Repeats.{is_repeated}
use Rattle.stats.specs.Statistics as spec
use Rattle.stats.specs.Types as spec'
use Rattle.stats.proofs.Parts.{text_cmp}
use Rattle.stats.proofs.Texts.{has_text}
use Rattle.stats.proofs.counting.values_in.Given as goal

-- those so far, and those of the marked rows that are left
abbrev pub invariant-loop-row : goal.invariant-loop-row
invariant-loop-row g l =
    let left = spec.values_in (marked_from l.marks l.row (drop l.row l.table.rows)) l.column in
    let all = spec.values_in (marked l.marks l.table.rows) l.column in record {
      numbers : l.numbers.items ++ spec.numbers left ≡ spec.numbers all;
      texts : (t : List ℕ) → (has_text t l.texts.keys || is_repeated text_cmp t (spec'.texts left)) ≡ is_repeated text_cmp t (spec'.texts all);
      truths : l.truths.items ++ spec'.truths left ≡ spec'.truths all;
    }
