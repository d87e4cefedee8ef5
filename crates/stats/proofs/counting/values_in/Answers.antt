use Rattle.std.proofs.Common.{◌≡◌, ◌+◌, ◌≤◌, ◌<◌, ◌||◌, ℕ, List, [], ◌++◌, length, drop, append_assoc, FitsSigned, w64, ap, subst, ◌∙◌, arith, rules}
use Rattle.std.proofs.Math.ListN.{drop_of_length-le}
use Rattle.std.proofs.lemmas.Int.{to_z-of_z}
use Rattle.value.specs.Datum.{Datum, Row, null, int, text, bool}
use Rattle.stats.specs.Marked.{marked, marked_from}
use Rattle.stats.specs.Repeats.{is_repeated}
use Rattle.stats.specs.Statistics as spec
use Rattle.stats.specs.Types as spec'
use Rattle.stats.proofs.Parts.{text_cmp}
use Rattle.stats.proofs.Marked.{values_next}
use Rattle.stats.proofs.Texts.{all_found, count_texts, has_text, still_found}
use Rattle.stats.proofs.counting.values_in.Goals as goal
use Rattle.stats.proofs.counting.values_in.Goals.{in-None, in-Some-Int+in_ok-push-in-Some-Int, in-Some-Text+in_ok-insert-in-Some-Text, in-Some-Bool+in_ok-push-in-Some-Bool}

pub loop-row-preserved : goal.loop-row-preserved
loop-row-preserved g c =
    let rows = c.args.table.now.rows in
    let column = c.args.column in
    let row = c.loop-row.row in
    let so_far = c.loop-row.invariant in
    let below : row < length rows = omega arith in
    let marks = c.args.marks.now in
    let all = spec.values_in (marked marks rows) column in
    let with_numbers = λ (ds : List Datum). c.loop-row.numbers.items ++ spec.numbers ds ≡ spec.numbers all in
    let with_texts = λ (t : List ℕ) (ds : List Datum). (has_text t c.loop-row.texts.keys || is_repeated text_cmp t (spec'.texts ds)) ≡ is_repeated text_cmp t (spec'.texts all) in
    let with_truths = λ (ds : List Datum). c.loop-row.truths.items ++ spec'.truths ds ≡ spec'.truths all in
    elim c.match-marked_value.branch [
      | in-None w ↦
          let next = values_next marks rows column row null below w.in-None.ensures in record {
            numbers = rw w.numbers-is (subst with_numbers next so_far.numbers);
            texts = λ t. rw w.texts-is (subst (with_texts t) next (so_far.texts t));
            truths = rw w.truths-is (subst with_truths next so_far.truths);
          }
      | in-Some-Int+in_ok-push-in-Some-Int w ↦
          let n = w.in-Some-Int.number in
          let fit : FitsSigned w64 n = search rules in
          let next = values_next marks rows column row (int n) below (rw w.in-Some-Int.field-0-is at w.in-Some-Int.ensures) in
          let kept = w.in_ok-push-in-Some-Int.ensures.items in record {
            numbers = rw (w.numbers-is, kept, to_z-of_z w64 n fit, append_assoc) (subst with_numbers next so_far.numbers);
            texts = λ t. rw w.texts-is (subst (with_texts t) next (so_far.texts t));
            truths = rw w.truths-is (subst with_truths next so_far.truths);
          }
      | in-Some-Text+in_ok-insert-in-Some-Text w ↦
          let k = w.in-Some-Text.text in
          let next = values_next marks rows column row (text k.now) below (rw w.in-Some-Text.field-0-is at w.in-Some-Text.ensures) in
          let put = w.in_ok-insert-in-Some-Text.ensures in record {
            numbers = rw w.numbers-is (subst with_numbers next so_far.numbers);
            texts = λ t. rw w.texts-is (still_found t k c.loop-row.texts.keys w.insert.new.self.keys w.in_ok-insert-in-Some-Text.field-0 (spec'.texts (spec.values_in (marked_from marks (row + 1) (drop (row + 1) rows)) column)) (is_repeated text_cmp t (spec'.texts all)) put.added put.keys (subst (with_texts t) next (so_far.texts t)));
            truths = rw w.truths-is (subst with_truths next so_far.truths);
          }
      | in-Some-Bool+in_ok-push-in-Some-Bool w ↦
          let b = w.in-Some-Bool.truth in
          let next = values_next marks rows column row (bool b) below (rw w.in-Some-Bool.field-0-is at w.in-Some-Bool.ensures) in
          let kept = w.in_ok-push-in-Some-Bool.ensures.items in record {
            numbers = rw w.numbers-is (subst with_numbers next so_far.numbers);
            texts = λ t. rw w.texts-is (subst (with_texts t) next (so_far.texts t));
            truths = rw (w.truths-is, kept, append_assoc) (subst with_truths next so_far.truths);
          }
    ]

pub returns-clause-texts : goal.returns-clause-texts
returns-clause-texts g c =
    let rows = c.args.table.now.rows in
    let row = c.loop-row.row in
    let marks = c.args.marks.now in
    let all = spec.values_in (marked marks rows) c.args.column in
    let past : length rows ≤ row = omega arith in
    let none : drop row rows ≡ [] = drop_of_length-le rows past in
    c.len.ensures.len
    ∙ count_texts c.loop-row.texts.keys (spec'.texts all) c.len.ensures.unique
    (λ t. all_found t c.loop-row.texts.keys (spec'.texts (spec.values_in (marked_from marks row (drop row rows)) c.args.column)) (is_repeated text_cmp t (spec'.texts all)) (ap (λ (l : List Row). spec'.texts (spec.values_in (marked_from marks row l) c.args.column)) none) (c.loop-row.invariant.texts t))
