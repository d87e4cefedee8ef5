use Rattle.std.proofs.Common.{◌≡◌, ◌+◌, ◌-◌, ◌*◌, false, length, map, length-drop, ℤ, to_z, of_z, pos, get_or, ap, sym, ◌∙◌, arith, drop, w64}
use Rattle.std.specs.Simd.Lanes.{mask_l}
use Rattle.std.proofs.lemmas.List.{take_all, drop_all, get_or-map, length-map}
use Rattle.std.proofs.lemmas.Int.{to_z-of_z}
use Rattle.columns.specs.Comparing.{holds}
use Rattle.columns.proofs.Rest.{byte_small, small, one_more}
use Rattle.columns.proofs.literals.literal_rest.Goals as goal
use mir.Val.{bool_byte}

pub loop-left-init : goal.loop-left-init
loop-left-init c =
    let zs = c.args.values.now in
    let tests = map (λ (z : ℤ). holds c.args.op z (to_z w64 (of_z w64 c.args.lit))) zs in
    record { low = c.requires.within; within = omega arith; so_far = sym (ap mask_l (drop_all (length zs) tests (omega (arith, length-map zs (λ (z : ℤ). holds c.args.op z (to_z w64 (of_z w64 c.args.lit))))))) }

pub overflow_mul-word : goal.overflow_mul-word
overflow_mul-word c =
    let p = λ (z : ℤ). holds c.args.op z (to_z w64 (of_z w64 c.args.lit)) in
    let long = length-map c.args.values.now p in
    record { fits = omega (arith, c.loop-left.invariant.so_far, small (map p c.args.values.now) c.loop-left.left (omega arith) (omega (arith, long)) c.args.at c.loop-left-test.true (omega (arith, long, c.requires.few))) }

pub overflow_add-word : goal.overflow_add-word
overflow_add-word c =
    let p = λ (z : ℤ). holds c.args.op z (to_z w64 (of_z w64 c.args.lit)) in
    let long = length-map c.args.values.now p in
    record { fits = omega (arith, byte_small c.holds.result, small (map p c.args.values.now) c.loop-left.left (omega arith) (omega (arith, long)) c.args.at c.loop-left-test.true (omega (arith, long, c.requires.few))) }

pub loop-left-preserved : goal.loop-left-preserved
loop-left-preserved c =
    let zs = c.args.values.now in
    let i = c.loop-left.left in
    let p = λ (z : ℤ). holds c.args.op z (to_z w64 (of_z w64 c.args.lit)) in
    let tests = map p zs in
    let z = get_or zs (i - 1) (pos 0) in
    let value : to_z w64 (of_z w64 z) ≡ z = to_z-of_z w64 z (c.requires.fit (i - 1) (pos 0) (omega arith)) in
    let test : c.holds.result ≡ get_or tests (i - 1) false = c.holds.ensures ∙ ap p value ∙ sym (get_or-map p zs (i - 1) (pos 0) false (omega arith)) in
    record {
      low = omega arith;
      within = omega arith;
      so_far = ap (λ n. n * 2 + c.from.result) c.loop-left.invariant.so_far ∙ ap (λ r. mask_l (drop i tests) * 2 + r) (c.from.ensures ∙ ap bool_byte test) ∙ one_more tests i (omega arith) (omega (arith, length-map zs p));
    }

pub returns : goal.returns
returns c =
    let zs = c.args.values.now in
    let lit : to_z w64 (of_z w64 c.args.lit) ≡ c.args.lit = to_z-of_z w64 c.args.lit c.ranges.lit in
    let tests = map (λ (z : ℤ). holds c.args.op z c.args.lit) zs in
    let down : c.loop-left.left ≡ c.args.at = omega arith in
    c.loop-left.invariant.so_far
    ∙ ap (λ l. mask_l (drop c.loop-left.left (map (λ z. holds c.args.op z l) zs))) lit
    ∙ ap (λ i. mask_l (drop i tests)) down
    ∙ ap mask_l (sym (take_all 64 (drop c.args.at tests) (omega (arith, length-drop c.args.at tests, length-map zs (λ (z : ℤ). holds c.args.op z c.args.lit), c.requires.few))))
