use Rattle.std.proofs.Common.{◌≡◌, ◌∙◌, ℕ, Bool, true, false, List, [], ◌∷◌, ◌++◌, map, OnOk, Result, if◌then◌else◌, sym, ap, ap₂, rules}
use Rattle.expr.specs.Bound.{BoundExpr}
use Rattle.row_terms.specs.declared.path.Branch.{Branch}
use Rattle.row_terms.specs.declared.path.Branch.TheVariants.{First, Second}
use Rattle.row_terms.specs.Terms.{Term, Guarded, Filtered, Joined, LeftJoined}
use Rattle.row_terms.specs.View.{term_of}
use Rattle.algebra.specs.Runs.{reads_only}
use Rattle.algebra.specs.Steps.{Step}
use Rattle.algebra.specs.View.{step_of}
use Rattle.rewrite.specs.Placing.{passes, sinking}
use Rattle.rewrite.specs.Trails.{at_root, all_down, below_path}
use Rattle.rewrite.proofs.Below.{none_added_ok, step_added, where_ok}
use Rattle.rewrite.proofs.settling.+sink.Goals as goal

-- ---- the steps, by the node

module _ (count : ℕ) (e : BoundExpr) where
  filter_is : (a : BoundExpr) (x t : Term) (b c : Bool) → t ≡ Filtered a x → b ≡ passes count e a x → b ≡ c → sinking count e t ≡ (if c then at_root 3 ∷ all_down First (sinking count e x) else [])
  filter_is a x t b c is test h = ap (sinking count e) is ∙ ap (λ m. if m then at_root 3 ∷ all_down First (sinking count e x) else []) (sym test ∙ h)

  guard_is : (i : ℕ) (x t : Term) → t ≡ Guarded i x → sinking count e t ≡ at_root 8 ∷ all_down First (sinking count e x)
  guard_is i x t is = ap (sinking count e) is

  module _ (x y t : Term) (b : Bool) (is : t ≡ Joined x y) (left : b ≡ reads_only x e) where
    left_is : b ≡ true → sinking count e t ≡ at_root 4 ∷ all_down First (sinking count e x)
    left_is h =
        ap (sinking count e) is
        ∙ ap (λ m. if m then at_root 4 ∷ all_down First (sinking count e x) else if reads_only y e then at_root 5 ∷ all_down Second (sinking count e y) else []) (sym left ∙ h)

    right_is : (c d : Bool) → b ≡ false → c ≡ reads_only y e → c ≡ d → sinking count e t ≡ (if d then at_root 5 ∷ all_down Second (sinking count e y) else [])
    right_is c d h right k =
        ap (sinking count e) is
        ∙ ap₂ (λ m n. if m then at_root 4 ∷ all_down First (sinking count e x) else if n then at_root 5 ∷ all_down Second (sinking count e y) else []) (sym left ∙ h) (sym right ∙ k)

  module _ (on : BoundExpr) (x y t : Term) (b c : Bool) (is : t ≡ LeftJoined on x y) (left : b ≡ reads_only x e) where
    kept_is : b ≡ c → sinking count e t ≡ (if c then at_root 20 ∷ all_down First (sinking count e x) else [])
    kept_is h = ap (sinking count e) is ∙ ap (λ m. if m then at_root 20 ∷ all_down First (sinking count e x) else []) (sym left ∙ h)

-- ---- the trail

module _ {T E : Type 0} (result : Result T E) (path : List Branch) (old whole : List Step) where
  moves : (rule : ℕ) (b : Branch) (ss mid new : List Step) (lower deeper : List Branch) → mid ≡ old ++ below_path path (at_root rule ∷ []) → lower ≡ path ++ b ∷ [] → deeper ≡ lower → new ≡ mid ++ below_path deeper ss →
      whole ≡ at_root rule ∷ all_down b ss → OnOk result (new ≡ old ++ below_path path whole)
  moves rule b ss mid new lower deeper m l d n w = where_ok result (step_added path old rule b ss deeper mid new m (d ∙ l) n ∙ ap (λ l. old ++ below_path path l) (sym w))

pub returns-then-not-branch-clause-steps : goal.returns-then-not-branch-clause-steps
returns-then-not-branch-clause-steps g t c =
    none_added_ok c.filtered-then-not-branch.result c.args.path.now (map step_of c.args.trail.now) _
    (filter_is c.args.count c.args.condition c.in-Filtered.above (term_of c.into_inner-input.result) (term_of c.args.term) c.in_ok-passes-in-Filtered.field-0 false
    (ap term_of c.in-Filtered.is ∙ ap (λ x. Filtered c.in-Filtered.above (term_of x)) (sym c.into_inner-input.ensures)) c.in_ok-passes-in-Filtered.ensures (search rules))

pub returns-in_ok-input-in-Filtered-2-clause-steps : goal.returns-in_ok-input-in-Filtered-2-clause-steps
returns-in_ok-input-in-Filtered-2-clause-steps g t c =
    moves c.filtered-in-Filtered.result c.args.path.now (map step_of c.args.trail.now) _ 3 First _ (map step_of c.step_down.new.trail) (map step_of c.sink.new.trail) c.in_ok-path-in-Filtered.path c.as_slice.result.now
    c.in_ok-path-in-Filtered.ensures.step c.in_ok-path-in-Filtered.ensures.path c.as_slice.ensures c.in_ok-input-in-Filtered-2.ensures.steps
    (filter_is c.args.count c.args.condition c.in-Filtered.above (term_of c.into_inner-input.result) (term_of c.args.term) c.in_ok-passes-in-Filtered.field-0 true
    (ap term_of c.in-Filtered.is ∙ ap (λ x. Filtered c.in-Filtered.above (term_of x)) (sym c.into_inner-input.ensures)) c.in_ok-passes-in-Filtered.ensures (search rules))

pub returns-in_ok-input-in-Guarded-clause-steps : goal.returns-in_ok-input-in-Guarded-clause-steps
returns-in_ok-input-in-Guarded-clause-steps g t c =
    moves c.guarded.result c.args.path.now (map step_of c.args.trail.now) _ 8 First _ (map step_of c.step_down-in-Guarded.new.trail) (map step_of c.sink-in-Guarded.new.trail) c.in_ok-path-in-Guarded.path c.as_slice-in-Guarded.result.now
    c.in_ok-path-in-Guarded.ensures.step c.in_ok-path-in-Guarded.ensures.path c.as_slice-in-Guarded.ensures c.in_ok-input-in-Guarded.ensures.steps
    (guard_is c.args.count c.args.condition c.in-Guarded.entry (term_of c.into_inner-input-in-Guarded.result) (term_of c.args.term)
    (ap term_of c.in-Guarded.is ∙ ap (λ x. Guarded c.in-Guarded.entry (term_of x)) (sym c.into_inner-input-in-Guarded.ensures)))

pub returns-then-branch-clause-steps : goal.returns-then-branch-clause-steps
returns-then-branch-clause-steps g t c =
    moves c.joined.result c.args.path.now (map step_of c.args.trail.now) _ 4 First _ (map step_of c.step_down-then-branch.new.trail) (map step_of c.sink-then-branch.new.trail) c.in_ok-path-in-Joined.path c.as_slice-then-branch.result.now
    c.in_ok-path-in-Joined.ensures.step c.in_ok-path-in-Joined.ensures.path c.as_slice-then-branch.ensures c.in_ok-left-in-Joined.ensures.steps
    (left_is c.args.count c.args.condition (term_of c.into_inner-left.result) (term_of c.into_inner-right.result) (term_of c.args.term) c.in_ok-reads_only-in-Joined.field-0
    (ap term_of c.in-Joined.is ∙ ap₂ (λ x y. Joined (term_of x) (term_of y)) (sym c.into_inner-left.ensures) (sym c.into_inner-right.ensures)) c.in_ok-reads_only-in-Joined.ensures c.if-branch.true)

pub returns-then-branch-2-clause-steps : goal.returns-then-branch-2-clause-steps
returns-then-branch-2-clause-steps g t c =
    moves c.joined-then-branch-2.result c.args.path.now (map step_of c.args.trail.now) _ 5 Second _ (map step_of c.step_down-then-branch-2.new.trail) (map step_of c.sink-then-branch-2.new.trail) c.in_ok-path-in-Joined-2.path c.as_slice-then-branch-2.result.now
    c.in_ok-path-in-Joined-2.ensures.step c.in_ok-path-in-Joined-2.ensures.path c.as_slice-then-branch-2.ensures c.in_ok-right-in-Joined.ensures.steps
    (right_is c.args.count c.args.condition (term_of c.into_inner-left.result) (term_of c.into_inner-right.result) (term_of c.args.term) c.in_ok-reads_only-in-Joined.field-0
    (ap term_of c.in-Joined.is ∙ ap₂ (λ x y. Joined (term_of x) (term_of y)) (sym c.into_inner-left.ensures) (sym c.into_inner-right.ensures)) c.in_ok-reads_only-in-Joined.ensures
    c.in_ok-reads_only-in-Joined-2.field-0 true c.if-branch.false c.in_ok-reads_only-in-Joined-2.ensures c.if-branch-2.true)

pub returns-in_ok-term-in-Joined-clause-steps : goal.returns-in_ok-term-in-Joined-clause-steps
returns-in_ok-term-in-Joined-clause-steps g t c =
    none_added_ok c.filtered-in-Joined.result c.args.path.now (map step_of c.args.trail.now) _
    (right_is c.args.count c.args.condition (term_of c.into_inner-left.result) (term_of c.into_inner-right.result) (term_of c.args.term) c.in_ok-reads_only-in-Joined.field-0
    (ap term_of c.in-Joined.is ∙ ap₂ (λ x y. Joined (term_of x) (term_of y)) (sym c.into_inner-left.ensures) (sym c.into_inner-right.ensures)) c.in_ok-reads_only-in-Joined.ensures
    c.in_ok-reads_only-in-Joined-2.field-0 false c.if-branch.false c.in_ok-reads_only-in-Joined-2.ensures c.if-branch-2.false)

pub returns-then-not-branch-2-clause-steps : goal.returns-then-not-branch-2-clause-steps
returns-then-not-branch-2-clause-steps g t c =
    none_added_ok c.filtered-then-not-branch-2.result c.args.path.now (map step_of c.args.trail.now) _
    (kept_is c.args.count c.args.condition c.in-LeftJoined.on (term_of c.into_inner-left-in-LeftJoined.result) (term_of c.into_inner-right-in-LeftJoined.result) (term_of c.args.term) c.in_ok-reads_only-in-LeftJoined.field-0 false
    (ap term_of c.in-LeftJoined.is ∙ ap₂ (λ x y. LeftJoined c.in-LeftJoined.on (term_of x) (term_of y)) (sym c.into_inner-left-in-LeftJoined.ensures) (sym c.into_inner-right-in-LeftJoined.ensures))
    c.in_ok-reads_only-in-LeftJoined.ensures (search rules))

pub returns-in_ok-left-in-LeftJoined-clause-steps : goal.returns-in_ok-left-in-LeftJoined-clause-steps
returns-in_ok-left-in-LeftJoined-clause-steps g t c =
    moves c.left_joined-in-LeftJoined.result c.args.path.now (map step_of c.args.trail.now) _ 20 First _ (map step_of c.step_down-in-LeftJoined.new.trail) (map step_of c.sink-in-LeftJoined.new.trail) c.in_ok-path-in-LeftJoined.path c.as_slice-in-LeftJoined.result.now
    c.in_ok-path-in-LeftJoined.ensures.step c.in_ok-path-in-LeftJoined.ensures.path c.as_slice-in-LeftJoined.ensures c.in_ok-left-in-LeftJoined.ensures.steps
    (kept_is c.args.count c.args.condition c.in-LeftJoined.on (term_of c.into_inner-left-in-LeftJoined.result) (term_of c.into_inner-right-in-LeftJoined.result) (term_of c.args.term) c.in_ok-reads_only-in-LeftJoined.field-0 true
    (ap term_of c.in-LeftJoined.is ∙ ap₂ (λ x y. LeftJoined c.in-LeftJoined.on (term_of x) (term_of y)) (sym c.into_inner-left-in-LeftJoined.ensures) (sym c.into_inner-right-in-LeftJoined.ensures))
    c.in_ok-reads_only-in-LeftJoined.ensures (search rules))

pub returns-in-Raw-clause-steps : goal.returns-in-Raw-clause-steps
returns-in-Raw-clause-steps g t c = none_added_ok c.filtered-in-Raw.result c.args.path.now (map step_of c.args.trail.now) _ (ap (λ x. sinking c.args.count c.args.condition (term_of x)) c.in-Raw.is)

pub returns-in-Empty-clause-steps : goal.returns-in-Empty-clause-steps
returns-in-Empty-clause-steps g t c = none_added_ok c.filtered-in-Empty.result c.args.path.now (map step_of c.args.trail.now) _ (ap (λ x. sinking c.args.count c.args.condition (term_of x)) c.in-Empty.is)
