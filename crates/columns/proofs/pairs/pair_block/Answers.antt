use Rattle.std.proofs.Common.{◌≡◌, ℕ, ◌+◌, ◌-◌, ◌%◌, ◌^◌, ◌≤◌, ℤ, cond, List, length, map, drop, All, FitsSigned, refl, sym, ap, ◌∙◌, arith, w64, of_z}
use Rattle.std.specs.Simd.Lanes.{chunk, mask_l, top, zip2}
use Rattle.std.proofs.lemmas.Simd.{length-chunk}
use Rattle.std.proofs.lemmas.List.Elements.{All-take, All-drop}
use Rattle.value.specs.declared.operators.Comparison.{Comparison}
use Rattle.value.specs.declared.operators.Comparison.TheVariants.{Equal, NotEqual, Less, LessOrEqual, Greater, GreaterOrEqual}
use Rattle.columns.proofs.Zips.{zip2_chunk}
use Rattle.columns.specs.Comparing.{holds}
use Rattle.columns.proofs.Machine.{machine, machine_is}
use Rattle.columns.proofs.SideBySide.{pairs_compared, pairs_swapped}
use Rattle.columns.proofs.pairs.pair_block.Goals as goal

fits : (at : ℕ) (values : List ℤ) → All (FitsSigned w64) values → All (FitsSigned w64) (chunk at 64 values)
fits at values fit = All-take (FitsSigned w64) 64 (drop at values) (All-drop (FitsSigned w64) at values fit)

module _ (xs ys : List ℤ) (at : ℕ) (same : length ys ≡ length xs) (room : at + 64 ≤ length xs) (fx : All (FitsSigned w64) xs) (fy : All (FitsSigned w64) ys) (op : Comparison) where
  of_block : mask_l (zip2 (holds op) (chunk at 64 xs) (chunk at 64 ys)) ≡ mask_l (chunk at 64 (zip2 (holds op) xs ys))
  of_block = ap mask_l (zip2_chunk (holds op) at 64 xs ys same)

  is : (o : Comparison) → op ≡ o → (x y : ℤ) → FitsSigned w64 x → FitsSigned w64 y → machine o (of_z w64 x) (of_z w64 y) ≡ holds op x y
  is o e x y f g = machine_is o x y f g ∙ ap (λ p. holds p x y) (sym e)

  -- the first column on the left of the machine's comparison
  left : (o : Comparison) → op ≡ o
      → mask_l (map (top 63) (zip2 (λ a b. cond (machine o a b) (2 ^ 64 - 1) 0) (map (of_z w64) (chunk at 64 xs)) (map (of_z w64) (chunk at 64 ys)))) % 2 ^ 64 ≡ mask_l (chunk at 64 (zip2 (holds op) xs ys))
  left o e =
      pairs_compared (machine o) (holds op) (chunk at 64 xs) (chunk at 64 ys) (fits at xs fx) (fits at ys fy) (length-chunk at 64 xs room) (length-chunk at 64 ys (omega (arith, room, same))) (is o e) ∙ of_block

  -- the first column on the right of it
  right : (o p : Comparison) → op ≡ o → ((a b : ℕ) → machine p b a ≡ machine o a b)
      → mask_l (map (top 63) (zip2 (λ a b. cond (machine p a b) (2 ^ 64 - 1) 0) (map (of_z w64) (chunk at 64 ys)) (map (of_z w64) (chunk at 64 xs)))) % 2 ^ 64 ≡ mask_l (chunk at 64 (zip2 (holds op) xs ys))
  right o p e turned =
      pairs_swapped (machine p) (holds op) (chunk at 64 xs) (chunk at 64 ys) (fits at xs fx) (fits at ys fy) (length-chunk at 64 xs room) (length-chunk at 64 ys (omega (arith, room, same)))
      (λ x y f g. turned (of_z w64 x) (of_z w64 y) ∙ is o e x y f g)
      ∙ of_block

pub returns-in-Equal : goal.returns-in-Equal
returns-in-Equal c = left c.args.left.now c.args.right.now c.args.at c.requires.same c.requires.room c.requires.left_fit c.requires.right_fit c.args.op Equal c.in-Equal.is

pub returns-in-NotEqual : goal.returns-in-NotEqual
returns-in-NotEqual c = left c.args.left.now c.args.right.now c.args.at c.requires.same c.requires.room c.requires.left_fit c.requires.right_fit c.args.op NotEqual c.in-NotEqual.is

pub returns-in-Less : goal.returns-in-Less
returns-in-Less c = left c.args.left.now c.args.right.now c.args.at c.requires.same c.requires.room c.requires.left_fit c.requires.right_fit c.args.op Less c.in-Less.is

pub returns-in-LessOrEqual : goal.returns-in-LessOrEqual
returns-in-LessOrEqual c = left c.args.left.now c.args.right.now c.args.at c.requires.same c.requires.room c.requires.left_fit c.requires.right_fit c.args.op LessOrEqual c.in-LessOrEqual.is

pub returns-in-Greater : goal.returns-in-Greater
returns-in-Greater c = right c.args.left.now c.args.right.now c.args.at c.requires.same c.requires.room c.requires.left_fit c.requires.right_fit c.args.op Greater Less c.in-Greater.is (λ a b. refl)

pub returns-in-GreaterOrEqual : goal.returns-in-GreaterOrEqual
returns-in-GreaterOrEqual c = right c.args.left.now c.args.right.now c.args.at c.requires.same c.requires.room c.requires.left_fit c.requires.right_fit c.args.op GreaterOrEqual LessOrEqual c.in-GreaterOrEqual.is (λ a b. refl)
