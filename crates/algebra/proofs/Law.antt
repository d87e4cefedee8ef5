-- A step keeps the bag.
use Rattle.std.proofs.Common.{◌≡◌, true, false, List, [], ◌∷◌, length, map, Option, Some, None, Ok, refl, sym, ap, ◌∙◌, subst}
use Rattle.std.proofs.lemmas.List.{length-map}
use Rattle.tuples.specs.Guards.{Guard}
use Rattle.expr.specs.BoundQuery.{BoundQuery}
use Rattle.tuples.specs.World.{GuardedTable, World}
use Rattle.row_terms.specs.Terms.{Term}
use Rattle.row_terms.specs.Means.{mean}
use Rattle.row_terms.proofs.SlotLists.{IsPermutation-SameSums_slots}
use Rattle.algebra.specs.declared.step.Rewrite.{Rewrite}
use Rattle.algebra.specs.declared.step.Rewrite.TheVariants as rewrites
use Rattle.algebra.specs.Steps.{Step, rewrite_of}
use Rattle.algebra.specs.Rewrites.{rewritten, rewritten_if, applied}
use Rattle.algebra.specs.Keeping.{HasFrame, MeanSame, StepsKeep, is_movable_term}
use Rattle.algebra.proofs.Keeps.{Keeps, at_node-keeps}
use Rattle.algebra.proofs.Sound as sound

module _ (w : World) (frame : List Guard) (has : HasFrame w frame) where
  -- a guard for each table
  same_count : length frame ≡ length w.tables
  same_count = sym (ap length has) ∙ length-map w.tables (λ t. t.guard)

  rewritten-keeps : (r : Rewrite) (x : Term) → is_movable_term x ≡ true → Keeps w x (rewritten frame r x)
  rewritten-keeps rewrites.SplitFilter = sound.split_filter-keeps w
  rewritten-keeps rewrites.MergeFilters = sound.merge_filters-keeps w
  rewritten-keeps rewrites.SwapFilters = sound.swap_filters-keeps w
  rewritten-keeps rewrites.PushLeft = sound.push_left-keeps w
  rewritten-keeps rewrites.PullLeft = sound.pull_left-keeps w
  rewritten-keeps rewrites.PushRight = sound.push_right-keeps w
  rewritten-keeps rewrites.PullRight = sound.pull_right-keeps w
  rewritten-keeps rewrites.SwapSides = sound.swap_sides-keeps w
  rewritten-keeps rewrites.ExchangeRight = sound.exchange_right-keeps w
  rewritten-keeps rewrites.PushUnderGuard = sound.push_under_guard-keeps w
  rewritten-keeps rewrites.PullOverGuard = sound.pull_over_guard-keeps w
  rewritten-keeps rewrites.DropGuard = sound.drop_guard-keeps w frame has
  rewritten-keeps (rewrites.AddGuard number) = sound.add_guard-keeps w frame has number
  rewritten-keeps rewrites.DropFilter = sound.drop_filter-keeps w
  rewritten-keeps (rewrites.CopyFilter p) = sound.copy_filter-keeps w p
  rewritten-keeps (rewrites.AddEquality p q) = sound.add_filter-keeps w false p q
  rewritten-keeps (rewrites.DropEquality p q) = sound.drop_added-keeps w false p q
  rewritten-keeps (rewrites.AddConstant p q) = sound.add_filter-keeps w true p q
  rewritten-keeps (rewrites.DropConstant p q) = sound.drop_added-keeps w true p q
  rewritten-keeps rewrites.CarryNot = sound.carry_not-keeps w
  rewritten-keeps rewrites.FoldLiterals = sound.fold_literals-keeps w
  rewritten-keeps rewrites.EmptyFilter = sound.empty_filter-keeps w (length frame) same_count
  rewritten-keeps rewrites.EmptyInput = sound.empty_input-keeps w (length frame) same_count
  rewritten-keeps rewrites.FactorOut = sound.factor_out-keeps w
  rewritten-keeps rewrites.NotNull = sound.not_null-keeps w
  rewritten-keeps rewrites.MakeInner = sound.make_inner-keeps w
  rewritten-keeps rewrites.PushUnderLeft = sound.push_under_left-keeps w
  rewritten-keeps rewrites.PullOverLeft = sound.pull_over_left-keeps w

  rewritten_if-keeps : (o : Option Rewrite) (x : Term) → is_movable_term x ≡ true → Keeps w x (rewritten_if frame o x)
  rewritten_if-keeps None x m = tt
  rewritten_if-keeps (Some r) x m = rewritten-keeps r x m

  pub applied-keeps : (step : Step) (x : Term) → is_movable_term x ≡ true → Keeps w x (applied frame step x)
  applied-keeps step x m = at_node-keeps w (rewritten_if frame (rewrite_of step.rule step.is_reverse step.arguments)) (rewritten_if-keeps (rewrite_of step.rule step.is_reverse step.arguments)) step.path x m

-- a world of these guards, with no rows
bare_query : BoundQuery
bare_query = record { items = []; ons = []; left_count = 0; filter = None; group_by = []; having = None; is_grouped = false; order_by = []; limit = None }

abbrev bare_table : Guard → GuardedTable
bare_table guard = record { rows = []; guard = guard }

bare_world : List Guard → World
bare_world frame = record { role = []; query = bare_query; tables = map bare_table frame }

bare_frame : (frame : List Guard) → map (λ t. t.guard) (map bare_table frame) ≡ frame
bare_frame [] = refl
bare_frame (g ∷ frame) = ap (λ gs. g ∷ gs) (bare_frame frame)

pub steps_keep : StepsKeep
unfolding bare_world
steps_keep frame step x y m h =
    let kept : Keeps (bare_world frame) x (Ok y) = subst (Keeps (bare_world frame) x) h (applied-keeps (bare_world frame) frame (bare_frame frame) step x m) in
    (kept.0, same)
  where
    same : MeanSame frame x y
    same w has =
        let kept : Keeps w x (Ok y) = subst (Keeps w x) h (applied-keeps w frame has step x m) in
        IsPermutation-SameSums_slots (mean w x) (mean w y) kept.2
