-- Every problem has a best code.
use Rattle.std.proofs.Common.{◌≡◌, ◌≤◌, refl, Bool, true, false, ◌++◌, [], length}
use Rattle.expr.specs.Codes.{Code, Empty, Steps}
use Rattle.trailcheck.specs.Admissible.{is_admissible, is_refuted}
use Rattle.trailcheck.specs.Settings.{Setting, inner_count}
use Rattle.left_tails.specs.Best.{best_tail}
use Rattle.left_tails.proofs.BestTails.{tail_may}
use Rattle.code_costs.specs.Best.{Problem}
use Rattle.joindp.specs.Walks.{IsOneOf}
use Rattle.code_costs.proofs.Codes.{code_is, with_tail}
use Rattle.joindp.proofs.Elements.{from_filter}
use Rattle.joindp.proofs.SomeCode.{some_steps}
use Rattle.planning.specs.Best.{BestIsThere, all_codes, best, by_cost, codes}
use Rattle.planning.proofs.Bests.{code_in}
use Rattle.planning.proofs.Members.{least_is_in, least_is_there}

-- a code that a plan may have: no rows where some condition is never true; else the full scans and nested joins, of each entry as
-- soon as it may follow, and some steps of the left joined ones
some_code : (at : Setting) → length at.lefts ≤ length at.frame → (code : Code) × (is_admissible at code ≡ true)
some_code at fewer = go (is_refuted at) refl
  where
    go : (b : Bool) → is_refuted at ≡ b → (code : Code) × (is_admissible at code ≡ true)
    go true e = (Empty, e)
    go false e =
        let ss = some_steps at in
        let ts = best_tail [] [] 0 (inner_count at) at.lefts in
        (Steps (ss.0 ++ ts), code_is at (ss.0 ++ ts) (with_tail at ss.0 ts ss.1 e fewer ss.2 (tail_may [] [] 0 (inner_count at) at.lefts)))

pub best_is_there : BestIsThere
unfolding best
best_is_there p fewer =
    let at : Setting = p.setting in
    let some = some_code at fewer in
    let found = least_is_there (by_cost p) (codes at) some.0 (code_in at some.0 some.1) in
    let its_own : IsOneOf (codes at) found.0 = least_is_in (by_cost p) (codes at) found.0 found.1 in
    (found.0, found.1, (from_filter (is_admissible at) (all_codes at) found.0 its_own).1)
