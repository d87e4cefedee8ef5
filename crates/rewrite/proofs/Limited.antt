-- A trail that leads somewhere is replayed within the limits where they leave room for its steps.
use Rattle.std.proofs.Common.{◌≡◌, ◌∙◌, refl, sym, ap, subst, ℕ, zero, suc, ◌+◌, ◌≤◌, Bool, true, false, ◌&&◌, List, [], ◌∷◌, ◌++◌, append-nil, length, Option, Some, None, Ok, Err, if◌then◌else◌, slice_get, arith}
use Rattle.std.proofs.lemmas.Bool.{le-leb}
use Rattle.memory.specs.Results.{and_then}
use Rattle.expr.specs.Bound.{BoundExpr}
use Rattle.predicates.specs.Connectives.{parted, factored}
use Rattle.predicates.specs.Equalities.{is_never_true, not_null_form}
use Rattle.predicates.specs.NullRows.{rejects_null_rows}
use Rattle.tuples.specs.Guards.{Guard}
use Rattle.row_terms.specs.declared.path.Branch.{Branch}
use Rattle.row_terms.specs.declared.path.Branch.TheVariants.{First, Second}
use Rattle.row_terms.specs.Terms.{Term, Guarded, Filtered, Joined, LeftJoined, covers}
use Rattle.algebra.specs.declared.step.Reason.TheVariants.{Misfit}
use Rattle.algebra.specs.declared.step.Rewrite.{Rewrite}
use Rattle.algebra.specs.declared.step.Rewrite.TheVariants as rewrites
use Rattle.algebra.specs.Rewrites.{rewritten, rewritten_if, inside, at_node, applied}
use Rattle.algebra.specs.Rules.{Outcome, where_met, under, in_two, by_run, following, has_empty_input, is_open}
use Rattle.algebra.specs.Runs.{run, reads_only, emptied, is_only}
use Rattle.algebra.specs.Steps.{Step, rewrite_of}
use Rattle.trailcheck.specs.Limits.{most_steps, most_nodes, node_count}
use Rattle.trailcheck.specs.Replays.{refused, within_limits, stepped, replay}
use Rattle.trailcheck.specs.declared.verdict.Reason.TheVariants.{Limit}
use Rattle.rewrite.specs.Trails.{led}

-- ---- a step adds at most one node

-- the term after a step, if there is one, has at most one node more
abbrev pub Grows : Term → Outcome → Type 0
Grows x (Ok y) = node_count y ≤ suc (node_count x)
Grows x (Err reason) = Unit {0}

grows-where : (b : Bool) (x y : Term) → node_count y ≤ suc (node_count x) → Grows x (where_met b y)
grows-where true x y h = h
grows-where false x y h = tt

grows-under : (o : Option BoundExpr) (x y : Term) → node_count y ≤ node_count x → Grows x (under o y)
grows-under None x y h = tt
grows-under (Some e) x y h = omega arith

grows-two : (o : Option (BoundExpr × BoundExpr)) (x y : Term) → suc (node_count y) ≤ node_count x → Grows x (in_two o y)
grows-two None x y h = tt
grows-two (Some parts) x y h = omega arith

grows-emptied : (b : Bool) (count : ℕ) (x : Term) → Grows x (if b then Ok (emptied count x) else Err Misfit)
grows-emptied true count x = omega arith
grows-emptied false count x = tt

module _ (frame : List Guard) where
  rewritten-grows : (r : Rewrite) (x : Term) → Grows x (rewritten frame r x)
  rewritten-grows rewrites.SplitFilter (Filtered e x) = grows-two (parted e) (Filtered e x) x (omega arith)
  rewritten-grows rewrites.MergeFilters (Filtered b (Filtered a x)) = grows-where _ (Filtered b (Filtered a x)) _ (omega arith)
  rewritten-grows rewrites.SwapFilters (Filtered b (Filtered a x)) = omega arith
  rewritten-grows rewrites.PushLeft (Filtered e (Joined x y)) = grows-where (reads_only x e) (Filtered e (Joined x y)) (Joined (Filtered e x) y) (omega arith)
  rewritten-grows rewrites.PullLeft (Joined (Filtered e x) y) = grows-where (reads_only x e) (Joined (Filtered e x) y) (Filtered e (Joined x y)) (omega arith)
  rewritten-grows rewrites.PushRight (Filtered e (Joined x y)) = grows-where (reads_only y e) (Filtered e (Joined x y)) (Joined x (Filtered e y)) (omega arith)
  rewritten-grows rewrites.PullRight (Joined x (Filtered e y)) = grows-where (reads_only y e) (Joined x (Filtered e y)) (Filtered e (Joined x y)) (omega arith)
  rewritten-grows rewrites.SwapSides (Joined x y) = omega arith
  rewritten-grows rewrites.ExchangeRight (Joined (Joined x y) z) = omega arith
  rewritten-grows rewrites.PushUnderGuard (Filtered e (Guarded i x)) = omega arith
  rewritten-grows rewrites.PullOverGuard (Guarded i (Filtered e x)) = omega arith
  rewritten-grows rewrites.DropGuard (Guarded i x) = grows-where (is_open frame i) (Guarded i x) x (omega arith)
  rewritten-grows (rewrites.AddGuard zero) x = tt
  rewritten-grows (rewrites.AddGuard (suc i)) x = grows-where (is_open frame i && is_only i x) x (Guarded i x) (omega arith)
  rewritten-grows rewrites.DropFilter (Filtered e x) = grows-where _ (Filtered e x) x (omega arith)
  rewritten-grows (rewrites.CopyFilter p) x = grows-under (slice_get (run x) p) x x (omega arith)
  rewritten-grows (rewrites.AddEquality p q) x = grows-under (by_run (following false) p q (run x)) x x (omega arith)
  rewritten-grows (rewrites.DropEquality p q) (Filtered e x) = grows-where _ (Filtered e x) x (omega arith)
  rewritten-grows (rewrites.AddConstant p q) x = grows-under (by_run (following true) p q (run x)) x x (omega arith)
  rewritten-grows (rewrites.DropConstant p q) (Filtered e x) = grows-where _ (Filtered e x) x (omega arith)
  rewritten-grows rewrites.CarryNot (Filtered e x) = omega arith
  rewritten-grows rewrites.FoldLiterals (Filtered e x) = omega arith
  rewritten-grows rewrites.EmptyFilter (Filtered e x) = grows-where (is_never_true e) (Filtered e x) (emptied (length frame) x) (omega arith)
  rewritten-grows rewrites.EmptyInput x = grows-emptied (has_empty_input x) (length frame) x
  rewritten-grows rewrites.FactorOut (Filtered e x) = grows-under (factored e) (Filtered e x) x (omega arith)
  rewritten-grows rewrites.NotNull (Filtered e x) = grows-under (not_null_form e) (Filtered e x) x (omega arith)
  rewritten-grows rewrites.MakeInner (Filtered f (LeftJoined on x y)) = grows-where (rejects_null_rows (covers y) f) (Filtered f (LeftJoined on x y)) (Filtered f (Filtered on (Joined x y))) (omega arith)
  rewritten-grows rewrites.PushUnderLeft (Filtered f (LeftJoined on x y)) = grows-where (reads_only x f) (Filtered f (LeftJoined on x y)) (LeftJoined on (Filtered f x) y) (omega arith)
  rewritten-grows rewrites.PullOverLeft (LeftJoined on (Filtered f x) y) = grows-where (reads_only x f) (LeftJoined on (Filtered f x) y) (Filtered f (LeftJoined on x y)) (omega arith)
  rewritten-grows _ _ = tt

  rewritten_if-grows : (o : Option Rewrite) (x : Term) → Grows x (rewritten_if frame o x)
  rewritten_if-grows None x = tt
  rewritten_if-grows (Some r) x = rewritten-grows r x

  inside-grows : (f : Term → Term) (x whole : Term) → ((y : Term) → node_count y ≤ suc (node_count x) → node_count (f y) ≤ suc (node_count whole)) → (o : Outcome) → Grows x o → Grows whole (inside f o)
  inside-grows f x whole lift (Ok y) h = lift y h
  inside-grows f x whole lift (Err reason) h = tt

  at_node-grows : (f : Term → Outcome) → ((x : Term) → Grows x (f x)) → (path : List Branch) (x : Term) → Grows x (at_node f path x)
  at_node-grows f k [] x = k x
  at_node-grows f k (First ∷ path) (Guarded i x) = inside-grows (Guarded i) x (Guarded i x) (λ y h. omega arith) (at_node f path x) (at_node-grows f k path x)
  at_node-grows f k (First ∷ path) (Filtered e x) = inside-grows (Filtered e) x (Filtered e x) (λ y h. omega arith) (at_node f path x) (at_node-grows f k path x)
  at_node-grows f k (First ∷ path) (Joined x y) = inside-grows (λ z. Joined z y) x (Joined x y) (λ z h. omega arith) (at_node f path x) (at_node-grows f k path x)
  at_node-grows f k (Second ∷ path) (Joined x y) = inside-grows (Joined x) y (Joined x y) (λ z h. omega arith) (at_node f path y) (at_node-grows f k path y)
  at_node-grows f k (First ∷ path) (LeftJoined on x y) = inside-grows (λ z. LeftJoined on z y) x (LeftJoined on x y) (λ z h. omega arith) (at_node f path x) (at_node-grows f k path x)
  at_node-grows f k (Second ∷ path) (LeftJoined on x y) = inside-grows (LeftJoined on x) y (LeftJoined on x y) (λ z h. omega arith) (at_node f path y) (at_node-grows f k path y)
  at_node-grows f k (b ∷ path) _ = tt

  pub step_grows : (s : Step) (x y : Term) → applied frame s x ≡ Ok y → node_count y ≤ suc (node_count x)
  step_grows s x y h = subst (Grows x) h (at_node-grows (rewritten_if frame (rewrite_of s.rule s.is_reverse s.arguments)) (rewritten_if-grows (rewrite_of s.rule s.is_reverse s.arguments)) s.path x)

  -- ---- within the limits

  step_replays : (line : ℕ) (s : Step) (x y : Term) → applied frame s x ≡ Ok y → line ≤ most_steps → node_count y ≤ most_nodes → stepped frame line s x ≡ Ok y
  step_replays line s x y h l n =
      ap (λ b. if b then within_limits line (applied frame s x) else refused line Limit) (le-leb line most_steps l)
      ∙ ap (within_limits line) h
      ∙ ap (λ b. if b then Ok y else refused line Limit) (le-leb (node_count y) most_nodes n)

  -- some steps before others
  pub replays_first : (ss ts : List Step) (line : ℕ) (x y : Term) → led frame ss x ≡ Ok y → node_count x + length ss ≤ most_nodes → line + length ss ≤ suc most_steps → replay frame line (ss ++ ts) x ≡ replay frame (line + length ss) ts y
  replays_first [] ts line x y h n l = let e : x ≡ y = cc in let z : line ≡ line + 0 = omega arith in ap (λ k. replay frame k ts x) z ∙ ap (replay frame (line + 0) ts) e
  replays_first (s ∷ ss) ts line x y h n l = go (applied frame s x) refl h (λ z k m. replays_first ss ts (line + 1) z y k m (omega arith))
    where
      go : (o : Outcome) → applied frame s x ≡ o → and_then o (led frame ss) ≡ Ok y
          → ((z : Term) → led frame ss z ≡ Ok y → node_count z + length ss ≤ most_nodes → replay frame (line + 1) (ss ++ ts) z ≡ replay frame (line + 1 + length ss) ts y)
          → replay frame line (s ∷ (ss ++ ts)) x ≡ replay frame (line + suc (length ss)) ts y
      go (Ok z) e k further =
          let g = step_grows s x z e in
          let a : line ≤ most_steps = omega arith in
          let b : node_count z ≤ most_nodes = omega (arith, g) in
          let c : node_count z + length ss ≤ most_nodes = omega (arith, g) in
          let d : line + 1 + length ss ≡ line + suc (length ss) = omega arith in
          ap (λ r. and_then r (replay frame (line + 1) (ss ++ ts))) (step_replays line s x z e a b) ∙ further z k c ∙ ap (λ m. replay frame m ts y) d
      go (Err reason) e k further = absurd (cc)

  pub replays : (ss : List Step) (line : ℕ) (x y : Term) → led frame ss x ≡ Ok y → node_count x + length ss ≤ most_nodes → line + length ss ≤ suc most_steps → replay frame line ss x ≡ Ok y
  replays ss line x y h n l = ap (λ steps. replay frame line steps x) (sym (append-nil ss)) ∙ replays_first ss [] line x y h n l
