-- The steps from the conditions of a planning list over the joins in the order of FROM to the shape of a code.
use Rattle.std.specs.Prelude.{ℕ, zero, suc, Bool, true, false, ◌==◌, ◌||◌, not, List, [], ◌∷◌, ◌++◌, length, map, reverse, if◌then◌else◌}
use Rattle.std.specs.List.{range_with_len}
use Rattle.tuples.specs.Guards.{Guard}
use Rattle.expr.specs.Bound.{BoundExpr}
use Rattle.expr.specs.declared.code.CodeStep.{CodeStep}
use Rattle.expr.specs.Codes as codes
use Rattle.expr.specs.Codes.{Code}
use Rattle.predicates.specs.Equalities.{is_never_true}
use Rattle.row_terms.specs.declared.path.Branch.TheVariants.{First, Second}
use Rattle.row_terms.specs.Terms.{Term, Raw, Guarded, Filtered, Joined, LeftJoined, Empty}
use Rattle.row_terms.specs.Written.{guarded_entry}
use Rattle.algebra.specs.Rules.{is_open}
use Rattle.algebra.specs.Runs.{reads_only}
use Rattle.algebra.specs.Steps.{Step}
use Rattle.trailcheck.specs.Entries.{is_over}
use Rattle.trailcheck.specs.Settings.{Setting, inner_count}
use Rattle.trailcheck.specs.Shapes.{entry_index, inner_steps, left_steps}
use Rattle.rewrite.specs.Trails.{at_root, all_down, below_filters}

-- ---- the order of the entries; lists of entries have the last one first

-- the joins of the entries, each with those after it in the list
abbrev pub joined_back : List ℕ → Term
joined_back [] = Empty []
joined_back (i ∷ []) = guarded_entry i
joined_back (i ∷ (j ∷ more)) = Joined (joined_back (j ∷ more)) (guarded_entry i)

-- the list without the first such entry
abbrev pub without : ℕ → List ℕ → List ℕ
without c [] = []
without c (i ∷ is) = if i == c then is else i ∷ without c is

-- the step that lets an entry and the first of those below it change places
abbrev pub exchanging : (below : List ℕ) → List Step
exchanging [] = []
exchanging (j ∷ []) = at_root 6 ∷ []
exchanging (j ∷ (k ∷ more)) = at_root 7 ∷ []

-- the steps by which the entry becomes the last that is joined
abbrev pub raising : ℕ → List ℕ → List Step
raising c [] = []
raising c (i ∷ is) = if i == c then [] else all_down First (raising c is) ++ exchanging is

-- from the entries of the second list to those of the first
abbrev pub ordering : (wanted : List ℕ) → List ℕ → List Step
ordering [] is = []
ordering (c ∷ cs) is = raising c is ++ all_down First (ordering cs (without c is))

-- ---- guards that show all rows

abbrev pub opening_one : List Guard → ℕ → List Step
opening_one frame i = if is_open frame i then at_root 9 ∷ [] else []

abbrev pub opening : List Guard → List ℕ → List Step
opening frame [] = []
opening frame (i ∷ []) = opening_one frame i
opening frame (i ∷ (j ∷ more)) = all_down Second (opening_one frame i) ++ all_down First (opening frame (j ∷ more))

-- steps below left joined entries, the last first, whose guards are opened on the way down
abbrev pub below_lefts : List Guard → List ℕ → List Step → List Step
below_lefts frame [] steps = steps
below_lefts frame (i ∷ is) steps = all_down Second (opening_one frame i) ++ all_down First (below_lefts frame is steps)

-- ---- one condition, from the top of a term to its place in it

-- the condition has its place below the filters that are first in the term
abbrev pub goes_deeper : BoundExpr → Term → Bool
goes_deeper e (Filtered a x) = goes_deeper e x
goes_deeper e (Guarded i x) = true
goes_deeper e (Joined x y) = reads_only x e || reads_only y e
goes_deeper e (LeftJoined on x y) = reads_only x e
goes_deeper e _ = false

module _ (count : ℕ) where
  -- it has its place below a filter by a, and the term under that: a stays on top, or it goes deeper
  abbrev pub passes : BoundExpr → (a : BoundExpr) → Term → Bool
  passes e a x = not (is_over count a) || goes_deeper e x

  abbrev pub sunk : BoundExpr → Term → Term
  sunk e (Filtered a x) = if passes e a x then Filtered a (sunk e x) else Filtered e (Filtered a x)
  sunk e (Guarded i x) = Guarded i (sunk e x)
  sunk e (Joined x y) = if reads_only x e then Joined (sunk e x) y else if reads_only y e then Joined x (sunk e y) else Filtered e (Joined x y)
  sunk e (LeftJoined on x y) = if reads_only x e then LeftJoined on (sunk e x) y else Filtered e (LeftJoined on x y)
  sunk e x = Filtered e x

  -- the steps from the term under a filter by e
  abbrev pub sinking : BoundExpr → Term → List Step
  sinking e (Filtered a x) = if passes e a x then at_root 3 ∷ all_down First (sinking e x) else []
  sinking e (Guarded i x) = at_root 8 ∷ all_down First (sinking e x)
  sinking e (Joined x y) =
      if reads_only x e then at_root 4 ∷ all_down First (sinking e x)
      else if reads_only y e then at_root 5 ∷ all_down Second (sinking e y)
      else []
  sinking e (LeftJoined on x y) = if reads_only x e then at_root 20 ∷ all_down First (sinking e x) else []
  sinking e x = []

  -- a condition that is not over entries of the query stays on top
  abbrev pub settled : BoundExpr → Term → Term
  settled e x = if is_over count e then sunk e x else Filtered e x

  abbrev pub settling : BoundExpr → Term → List Step
  settling e x = if is_over count e then sinking e x else []

  -- ---- all conditions, the innermost first

  abbrev pub all_settled : List BoundExpr → Term → Term
  all_settled [] x = x
  all_settled (e ∷ es) x = all_settled es (settled e x)

  abbrev pub settling_all : List BoundExpr → Term → List Step
  settling_all [] x = []
  settling_all (e ∷ es) x = below_filters (length es) (settling e x) ++ settling_all es (settled e x)

-- ---- no rows, by a condition that is never true

-- from the term under the filters down to the empty term: so many filters are above it
abbrev pub clearing : ℕ → List Step
clearing zero = []
clearing (suc n) = below_filters n (at_root 16 ∷ []) ++ clearing n

abbrev pub emptying : List BoundExpr → List Step
emptying [] = []
emptying (e ∷ es) = if is_never_true e then below_filters (length es) (at_root 15 ∷ []) ++ clearing (length es) else emptying es

-- ---- all of it

module _ (at : Setting) where
  -- the entries that are not left joined in the order of FROM, the last first
  abbrev pub from_entries : List ℕ
  from_entries = reverse (range_with_len 0 (inner_count at))

  -- the entries of the steps of a code, the last first
  abbrev pub code_entries : List CodeStep → List ℕ
  code_entries ss = reverse (map entry_index ss)

  -- the entry's rows, under its guard unless that shows all
  abbrev pub opened : ℕ → Term
  opened i = if is_open at.frame i then Raw i else guarded_entry i

  abbrev pub opened_back : List ℕ → Term
  opened_back [] = Empty []
  opened_back (i ∷ []) = opened i
  opened_back (i ∷ (j ∷ more)) = Joined (opened_back (j ∷ more)) (opened i)

  -- the left joined entries from a number on, one after another
  abbrev pub opened_lefts : ℕ → (ons : List BoundExpr) → Term → Term
  opened_lefts i [] x = x
  opened_lefts i (on ∷ ons) x = opened_lefts (suc i) ons (LeftJoined on x (opened i))

  -- the entries that are not left joined, the last first, and then the left joined ones
  abbrev pub all_opened : List ℕ → Term
  all_opened is = opened_lefts (inner_count at) at.lefts (opened_back is)

  -- from the joins in the order of FROM to those of the entries, the last first
  abbrev pub joining : List ℕ → List Step
  joining is = ordering is from_entries ++ opening at.frame is

  -- and the same below the left joined entries, the last first
  abbrev pub arranging : (lefts inner : List ℕ) → List Step
  arranging lefts inner = below_lefts at.frame lefts (joining inner)

  abbrev pub placing : Code → List Step
  placing codes.Empty = emptying at.conditions
  placing (codes.Steps ss) =
      below_filters (length at.conditions) (arranging (code_entries (left_steps at ss)) (code_entries (inner_steps at ss)))
      ++ settling_all (length at.frame) at.conditions (all_opened (code_entries (inner_steps at ss)))
