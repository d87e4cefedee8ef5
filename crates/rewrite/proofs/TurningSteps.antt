-- Steps at nodes one below the other, as they are written.
use Rattle.std.proofs.Common.{◌≡◌, ◌∙◌, refl, sym, ap, ℕ, zero, suc, ◌+◌, ◌-◌, true, List, [], ◌∷◌, ◌++◌, replicate, append_assoc, arith}
use Rattle.row_terms.specs.declared.path.Branch.{Branch}
use Rattle.row_terms.specs.declared.path.Branch.TheVariants.{First}
use Rattle.algebra.specs.Steps.{Step}
use Rattle.rewrite.specs.Trails.{plain, at_root, below_filters, below_path}
use Rattle.rewrite.specs.Turning.{downward, upward, making_inner, turning}
use Rattle.rewrite.proofs.Added.{branch_added}
use Rattle.rewrite.proofs.Below.{below_more, both_added, filters_below}

-- a step so many filters below a path
module _ (path : List Branch) (old : List Step) where
  pub node_added : (n : ℕ) (ss : List Step) (node : List Branch) (new : List Step) → node ≡ path ++ replicate n First → new ≡ old ++ below_path node ss → new ≡ old ++ below_path path (below_filters n ss)
  node_added n ss node new d h = h ∙ ap (λ p. old ++ below_path p ss) d ∙ ap (λ l. old ++ l) (below_more path n ss)

-- one step further down
module _ (path : List Branch) (old mid new : List Step) (s : Step) where
  pub downward_next : (n : ℕ) (node : List Branch) → node ≡ path ++ replicate n First → mid ≡ old ++ below_path path (downward n s) → new ≡ mid ++ below_path node (s ∷ []) → new ≡ old ++ below_path path (downward (n + 1) s)
  downward_next n node d m k =
      let e : n + 1 ≡ suc n = omega arith in
      both_added path old (downward n s) (below_filters n (s ∷ [])) mid new m (node_added path mid n (s ∷ []) node new d k)
      ∙ ap (λ i. old ++ below_path path (downward i s)) (sym e)

  -- the first step from below, and then the others
  pub upward_next : (n : ℕ) (node : List Branch) → (n ≡ 0 → ⊥) → node ≡ path ++ replicate (n - 1) First → mid ≡ old ++ below_path node (s ∷ []) → new ≡ mid ++ below_path path (upward (n - 1) s) → new ≡ old ++ below_path path (upward n s)
  upward_next zero node some d m k = absurd (some refl)
  upward_next (suc n) node some d m k =
      let e : suc n - 1 ≡ n = omega arith in
      both_added path old (below_filters n (s ∷ [])) (upward n s) mid new (node_added path old n (s ∷ []) node mid (d ∙ ap (λ i. path ++ replicate i First) e) m) (k ∙ ap (λ i. mid ++ below_path path (upward i s)) e)

-- ---- an entry that becomes inner

module _ (path : List Branch) (lefts : ℕ) where
  abbrev up : List Step
  up = upward lefts (plain 20 true)

  pub making_added : (old first second third new : List Step) (node below : List Branch) → node ≡ path ++ replicate lefts First → below ≡ path ++ First ∷ []
      → first ≡ old ++ below_path path (downward lefts (at_root 20)) → second ≡ first ++ below_path node (at_root 19 ∷ []) → third ≡ second ++ below_path path up → new ≡ third ++ below_path below up
      → new ≡ old ++ below_path path (making_inner lefts)
  making_added old first second third new node below d b f s t n =
      let make : List Step = below_filters lefts (at_root 19 ∷ []) in
      both_added path old (downward lefts (at_root 20)) (make ++ (up ++ below_filters 1 up)) first new f
      (both_added path first make (up ++ below_filters 1 up) second new (node_added path first lefts (at_root 19 ∷ []) node second d s)
      (both_added path second up (below_filters 1 up) third new t (branch_added path third First below up new b n)))

module _ (count under lefts : ℕ) where
  abbrev lower : List Step
  lower = downward under (at_root 3)

  abbrev lift : List Step
  lift = upward under (at_root 3)

  -- the path below the conditions over the one that makes it inner
  abbrev above : List Branch
  above = replicate (count - 1 - under) First

  pub turning_added : (old first second third new : List Step) (p q r node : List Branch) → p ≡ above → q ≡ above → r ≡ above → node ≡ q ++ replicate under First
      → first ≡ old ++ below_path p lower → second ≡ first ++ below_path node (making_inner lefts) → third ≡ second ++ below_path r lift → new ≡ third ++ upward count (at_root 3)
      → new ≡ old ++ turning count under lefts
  turning_added old first second third new p q r node is_p is_q is_r d f s t n =
      let make : List Step = below_filters under (making_inner lefts) in
      let core : List Step = lower ++ (make ++ lift) in
      let before : third ≡ old ++ below_path above core =
      both_added above old lower (make ++ lift) first third (f ∙ ap (λ path. old ++ below_path path lower) is_p)
      (both_added above first make lift second third (node_added above first under (making_inner lefts) node second (d ∙ ap (λ path. path ++ replicate under First) is_q) s) (t ∙ ap (λ path. second ++ below_path path lift) is_r))
      in
      n ∙ ap (λ ss. ss ++ upward count (at_root 3)) (before ∙ ap (λ ss. old ++ ss) (sym (filters_below (count - 1 - under) core)))
      ∙ append_assoc old (below_filters (count - 1 - under) core) (upward count (at_root 3))
