use Rattle.std.proofs.Common.{◌≡◌, length, sym, ap, ◌∙◌}
use Rattle.std.specs.Simd.Lanes.{zip2}
use Rattle.std.proofs.lemmas.Simd.{length-zip2}
use Rattle.eval.specs.Operators.{comparison_of}
use Rattle.columns.specs.Bits.{words_for}
use Rattle.columns.specs.Columns.{int_unless, ints_of}
use Rattle.lane_filters.proofs.Shown.{held, read, same_of_columns, written_back}
use Rattle.lane_filters.proofs.truths.Truths.of_columns.Goals as goal

pub cmp_cols-requires-clause-same : goal.cmp_cols-requires-clause-same
cmp_cols-requires-clause-same g c =
    let l = c.lanes.ensures in
    let r = c.lanes-2.ensures in
    same_of_columns c.lanes.result.0.now c.lanes-2.result.0.now l.0 r.0 c.args.left.now c.args.right.now l.1 r.1 l.3 r.3 c.requires

pub cmp_cols-requires-clause-other_words : goal.cmp_cols-requires-clause-other_words
cmp_cols-requires-clause-other_words g c =
    let l = c.lanes.ensures in
    let r = c.lanes-2.ensures in
    r.2.long ∙ ap words_for (r.1 ∙ same_of_columns c.lanes.result.0.now c.lanes-2.result.0.now l.0 r.0 c.args.left.now c.args.right.now l.1 r.1 l.3 r.3 c.requires)

pub invariant_of-result : goal.invariant_of-result
invariant_of-result g c =
    let l = c.lanes.ensures in
    let r = c.lanes-2.ensures in
    let same = same_of_columns c.lanes.result.0.now c.lanes-2.result.0.now l.0 r.0 c.args.left.now c.args.right.now l.1 r.1 l.3 r.3 c.requires in
    let lefts = ints_of c.lanes.result.0.now l.0 in
    let rights = ints_of c.lanes-2.result.0.now r.0 in
    let long : length lefts ≡ length c.lanes.result.0.now = length-zip2 int_unless c.lanes.result.0.now l.0 (sym l.1) in
    let long' : length rights ≡ length c.lanes.result.0.now = length-zip2 int_unless c.lanes-2.result.0.now r.0 (sym r.1) ∙ same in
    held (zip2 (comparison_of c.args.op) lefts rights) _ _ c.cmp_cols.new.is_true c.cmp_cols.new.is_null (length c.lanes.result.0.now)
    (written_back c.in_ok-is_true.is_true.len c.cmp_cols.new.is_true c.in_ok-is_true.is_true.items (c.cmp_cols.auto.is_true ∙ ap length c.deref_mut.ensures.value) c.in_ok-is_true.is_true.ok.0)
    (written_back c.in_ok-is_null.is_null.len c.cmp_cols.new.is_null c.in_ok-is_null.is_null.items (c.cmp_cols.auto.is_null ∙ ap length c.deref_mut-2.ensures.value) c.in_ok-is_null.is_null.ok.0)
    (sym (length-zip2 (comparison_of c.args.op) lefts rights (long ∙ sym long') ∙ long))
    (c.cmp_cols.ensures l.0 r.0 l.1 (r.1 ∙ same) l.2 r.2)

pub returns : goal.returns
returns g c =
    let l = c.lanes.ensures in
    let r = c.lanes-2.ensures in
    let same = same_of_columns c.lanes.result.0.now c.lanes-2.result.0.now l.0 r.0 c.args.left.now c.args.right.now l.1 r.1 l.3 r.3 c.requires in
    let lefts = ints_of c.lanes.result.0.now l.0 in
    let rights = ints_of c.lanes-2.result.0.now r.0 in
    let long : length lefts ≡ length c.lanes.result.0.now = length-zip2 int_unless c.lanes.result.0.now l.0 (sym l.1) in
    let long' : length rights ≡ length c.lanes.result.0.now = length-zip2 int_unless c.lanes-2.result.0.now r.0 (sym r.1) ∙ same in
    read (zip2 (comparison_of c.args.op) lefts rights) _ _ c.cmp_cols.new.is_true c.cmp_cols.new.is_null (length c.lanes.result.0.now)
    (written_back c.in_ok-is_true.is_true.len c.cmp_cols.new.is_true c.in_ok-is_true.is_true.items (c.cmp_cols.auto.is_true ∙ ap length c.deref_mut.ensures.value) c.in_ok-is_true.is_true.ok.0)
    (written_back c.in_ok-is_null.is_null.len c.cmp_cols.new.is_null c.in_ok-is_null.is_null.items (c.cmp_cols.auto.is_null ∙ ap length c.deref_mut-2.ensures.value) c.in_ok-is_null.is_null.ok.0)
    (sym (length-zip2 (comparison_of c.args.op) lefts rights (long ∙ sym long') ∙ long))
    (c.cmp_cols.ensures l.0 r.0 l.1 (r.1 ∙ same) l.2 r.2)
    ∙ (λ i. zip2 (comparison_of c.args.op) (l.3 i) (r.3 i))
