use Rattle.std.proofs.Common.{◌≡◌, ◌+◌, ◌-◌, ◌*◌, false, length, length-drop, to_z, of_z, pos, get_or, ap, sym, ◌∙◌, arith, drop, w64}
use Rattle.std.specs.Simd.Lanes.{mask_l, zip2}
use Rattle.std.proofs.lemmas.List.{take_all, drop_all}
use Rattle.std.proofs.lemmas.Simd.{length-zip2, get_or-zip2}
use Rattle.std.proofs.lemmas.Int.{to_z-of_z}
use Rattle.columns.specs.Comparing.{holds}
use Rattle.columns.proofs.Rest.{byte_small, small, one_more}
use Rattle.columns.proofs.pairs.pair_rest.Goals as goal
use mir.Val.{bool_byte}

pub loop-over-init : goal.loop-over-init
loop-over-init c =
    let xs = c.args.left.now in
    let tests = zip2 (holds c.args.op) xs c.args.right.now in
    let long : length tests ≡ length xs = length-zip2 (holds c.args.op) xs c.args.right.now (sym c.requires.same) in
    record { low = c.requires.within; within = omega arith; so_far = sym (ap mask_l (drop_all (length xs) tests (omega (arith, long)))) }

pub overflow_mul-word : goal.overflow_mul-word
overflow_mul-word c =
    let tests = zip2 (holds c.args.op) c.args.left.now c.args.right.now in
    let long : length tests ≡ length c.args.left.now = length-zip2 (holds c.args.op) c.args.left.now c.args.right.now (sym c.requires.same) in
    record { fits = omega (arith, c.loop-over.invariant.so_far, small tests c.loop-over.over (omega arith) (omega (arith, long)) c.args.at c.loop-over-test.true (omega (arith, long, c.requires.few))) }

pub overflow_add-word : goal.overflow_add-word
overflow_add-word c =
    let tests = zip2 (holds c.args.op) c.args.left.now c.args.right.now in
    let long : length tests ≡ length c.args.left.now = length-zip2 (holds c.args.op) c.args.left.now c.args.right.now (sym c.requires.same) in
    record { fits = omega (arith, byte_small c.holds.result, small tests c.loop-over.over (omega arith) (omega (arith, long)) c.args.at c.loop-over-test.true (omega (arith, long, c.requires.few))) }

pub loop-over-preserved : goal.loop-over-preserved
loop-over-preserved c =
    let xs = c.args.left.now in
    let ys = c.args.right.now in
    let i = c.loop-over.over in
    let tests = zip2 (holds c.args.op) xs ys in
    let long : length tests ≡ length xs = length-zip2 (holds c.args.op) xs ys (sym c.requires.same) in
    let x = get_or xs (i - 1) (pos 0) in
    let y = get_or ys (i - 1) (pos 0) in
    let left : to_z w64 (of_z w64 x) ≡ x = to_z-of_z w64 x (c.requires.left_fit (i - 1) (pos 0) (omega arith)) in
    let right : to_z w64 (of_z w64 y) ≡ y = to_z-of_z w64 y (c.requires.right_fit (i - 1) (pos 0) (omega (arith, c.requires.same))) in
    let test : c.holds.result ≡ get_or tests (i - 1) false = c.holds.ensures ∙ (λ j. holds c.args.op (left j) (right j)) ∙ sym (get_or-zip2 (holds c.args.op) xs ys (i - 1) (pos 0) (pos 0) false (omega arith) (omega (arith, c.requires.same))) in
    record {
      low = omega arith;
      within = omega arith;
      so_far = ap (λ n. n * 2 + c.from.result) c.loop-over.invariant.so_far ∙ ap (λ r. mask_l (drop i tests) * 2 + r) (c.from.ensures ∙ ap bool_byte test) ∙ one_more tests i (omega arith) (omega (arith, long));
    }

pub returns : goal.returns
returns c =
    let tests = zip2 (holds c.args.op) c.args.left.now c.args.right.now in
    let long : length tests ≡ length c.args.left.now = length-zip2 (holds c.args.op) c.args.left.now c.args.right.now (sym c.requires.same) in
    let down : c.loop-over.over ≡ c.args.at = omega arith in
    c.loop-over.invariant.so_far ∙ ap (λ i. mask_l (drop i tests)) down ∙ ap mask_l (sym (take_all 64 (drop c.args.at tests) (omega (arith, length-drop c.args.at tests, long, c.requires.few))))
