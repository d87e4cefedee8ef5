use Rattle.std.proofs.Common.{◌≡◌, ℕ, ◌+◌, ◌-◌, ◌%◌, ◌^◌, ◌≤◌, ℤ, Bool, cond, List, length, map, replicate, take, drop, All, FitsSigned, refl, sym, ap, ◌∙◌, arith, w64, of_z}
use Rattle.std.specs.Simd.Lanes.{chunk, mask_l, top, zip2}
use Rattle.std.proofs.lemmas.Simd.{length-chunk}
use Rattle.std.proofs.lemmas.List.{take-map, drop-map}
use Rattle.std.proofs.lemmas.List.Elements.{All-take, All-drop}
use Rattle.value.specs.declared.operators.Comparison.{Comparison}
use Rattle.value.specs.declared.operators.Comparison.TheVariants.{Equal, NotEqual, Less, LessOrEqual, Greater, GreaterOrEqual}
use Rattle.columns.specs.Comparing.{holds}
use Rattle.columns.proofs.Machine.{machine, machine_is}
use Rattle.columns.proofs.Signed.{lanes_compared, literal_compared}
use Rattle.columns.proofs.literals.literal_block.Goals as goal

module _ (values : List ℤ) (at : ℕ) (room : at + 64 ≤ length values) (fit : All (FitsSigned w64) values) (op : Comparison) (lit : ℤ) (lit_fits : FitsSigned w64 lit) where
  abbrev block : List ℤ
  block = chunk at 64 values

  abbrev test : ℤ → Bool
  test z = holds op z lit

  fits : All (FitsSigned w64) block
  fits = All-take (FitsSigned w64) 64 (drop at values) (All-drop (FitsSigned w64) at values fit)

  of_block : mask_l (map test block) ≡ mask_l (chunk at 64 (map test values))
  of_block = ap mask_l (sym (take-map test 64 (drop at values)) ∙ ap (take 64) (sym (drop-map test at values)))

  is : (o : Comparison) → op ≡ o → (z : ℤ) → FitsSigned w64 z → machine o (of_z w64 z) (of_z w64 lit) ≡ test z
  is o e z f = machine_is o z lit f lit_fits ∙ ap (λ p. holds p z lit) (sym e)

  -- the values on the left of the machine's comparison
  left : (o : Comparison) → op ≡ o
      → mask_l (map (top 63) (zip2 (λ a b. cond (machine o a b) (2 ^ 64 - 1) 0) (map (of_z w64) block) (replicate 64 (of_z w64 lit)))) % 2 ^ 64 ≡ mask_l (chunk at 64 (map test values))
  left o e = lanes_compared (machine o) test block 64 (of_z w64 lit) fits (length-chunk at 64 values room) (omega arith) (is o e) ∙ of_block

  -- the values on the right of it
  right : (o p : Comparison) → op ≡ o → ((a b : ℕ) → machine p b a ≡ machine o a b)
      → mask_l (map (top 63) (zip2 (λ a b. cond (machine p a b) (2 ^ 64 - 1) 0) (replicate 64 (of_z w64 lit)) (map (of_z w64) block))) % 2 ^ 64 ≡ mask_l (chunk at 64 (map test values))
  right o p e turned =
      literal_compared (machine p) test block 64 (of_z w64 lit) fits (length-chunk at 64 values room) (omega arith) (λ z f. turned (of_z w64 z) (of_z w64 lit) ∙ is o e z f) ∙ of_block

pub returns-in-Equal : goal.returns-in-Equal
returns-in-Equal c = left c.args.values.now c.args.at c.requires.room c.requires.fit c.args.op c.args.lit c.ranges.lit Equal c.in-Equal.is

pub returns-in-NotEqual : goal.returns-in-NotEqual
returns-in-NotEqual c = left c.args.values.now c.args.at c.requires.room c.requires.fit c.args.op c.args.lit c.ranges.lit NotEqual c.in-NotEqual.is

pub returns-in-Less : goal.returns-in-Less
returns-in-Less c = left c.args.values.now c.args.at c.requires.room c.requires.fit c.args.op c.args.lit c.ranges.lit Less c.in-Less.is

pub returns-in-LessOrEqual : goal.returns-in-LessOrEqual
returns-in-LessOrEqual c = left c.args.values.now c.args.at c.requires.room c.requires.fit c.args.op c.args.lit c.ranges.lit LessOrEqual c.in-LessOrEqual.is

pub returns-in-Greater : goal.returns-in-Greater
returns-in-Greater c = right c.args.values.now c.args.at c.requires.room c.requires.fit c.args.op c.args.lit c.ranges.lit Greater Less c.in-Greater.is (λ a b. refl)

pub returns-in-GreaterOrEqual : goal.returns-in-GreaterOrEqual
returns-in-GreaterOrEqual c = right c.args.values.now c.args.at c.requires.room c.requires.fit c.args.op c.args.lit c.ranges.lit GreaterOrEqual LessOrEqual c.in-GreaterOrEqual.is (λ a b. refl)
