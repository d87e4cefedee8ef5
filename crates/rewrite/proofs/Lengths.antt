-- How many steps place the conditions.
use Rattle.std.proofs.Common.{◌≡◌, ◌∙◌, refl, sym, subst, map, ℕ, zero, suc, ◌+◌, ◌≤◌, max, Bool, true, false, ◌&&◌, not, ◌==◌, List, [], ◌∷◌, ◌++◌, length, length-append, if◌then◌else◌, arith}
use Rattle.std.proofs.lemmas.List.{length-map, length-reverse}
use Rattle.predicates.proofs.Movables.{and_left, and_right}
use Rattle.value.specs.Limits.{most_conjuncts, most_entries}
use Rattle.expr.specs.declared.code.CodeStep.{CodeStep}
use Rattle.expr.specs.Bound.{BoundExpr}
use Rattle.expr.specs.Codes as codes
use Rattle.expr.specs.Codes.{Code}
use Rattle.predicates.specs.Equalities.{is_never_true}
use Rattle.row_terms.specs.declared.path.Branch.{Branch}
use Rattle.row_terms.specs.declared.path.Branch.TheVariants.{First, Second}
use Rattle.row_terms.specs.Terms.{Term, Raw, Guarded, Filtered, Joined, LeftJoined, Empty}
use Rattle.row_terms.specs.Written.{guarded_entry}
use Rattle.algebra.specs.Rules.{is_open}
use Rattle.algebra.specs.Runs.{reads_only}
use Rattle.algebra.specs.Steps.{Step}
use Rattle.tuples.specs.Guards.{Guard}
use Rattle.trailcheck.specs.Admissible.{is_admissible}
use Rattle.std.specs.List.{list_all}
use Rattle.trailcheck.specs.Entries.{is_among, is_over}
use Rattle.trailcheck.specs.Settings.{Setting, inner_count}
use Rattle.trailcheck.specs.Shapes.{entry_index, inner_steps, left_steps}
use Rattle.rewrite.specs.Trails.{at_root, down, all_down, below_filters}
use Rattle.rewrite.specs.Placing.{without, exchanging, raising, ordering, opening_one, opening, below_lefts, opened, opened_back, opened_lefts, all_opened, joining, arranging, passes, sunk, sinking, settled, settling, settling_all, clearing, emptying, from_entries, code_entries, placing}
use Rattle.rewrite.proofs.Distinct.{Distinct, AreNew, length-without, without_have, from_count, code_distinct, code_within}
use Rattle.rewrite.proofs.Opened.{left_count}
use Rattle.rewrite.proofs.Places.{all_lefts, as_many, has_allowed, has_last, has_many, new}

-- ---- steps further down

pub length-down : (b : Branch) (ss : List Step) → length (all_down b ss) ≡ length ss
length-down b ss = length-map ss (down b)

pub length-below : (n : ℕ) (ss : List Step) → length (below_filters n ss) ≡ length ss
length-below zero ss = refl
length-below (suc n) ss = length-below n (all_down First ss) ∙ length-down First ss

-- ---- the order of the entries

-- one step less for each entry: n - 1, n - 2, .., 0
abbrev pub descending : ℕ → ℕ
descending zero = 0
descending (suc n) = n + descending n

length-exchange : (is : List ℕ) → length (exchanging is) ≤ 1
length-exchange [] = omega arith
length-exchange (i ∷ []) = omega arith
length-exchange (i ∷ (j ∷ is)) = omega arith

raising_short : (c i : ℕ) (is : List ℕ) → length (raising c (i ∷ is)) ≤ length is
raising_short c i [] = go (i == c)
  where
    go : (b : Bool) → length (if b then [] else all_down First (raising c []) ++ exchanging []) ≤ 0
    go true = omega arith
    go false = omega arith
raising_short c i (j ∷ is) = go (i == c) (raising_short c j is)
  where
    go : (b : Bool) → length (raising c (j ∷ is)) ≤ length is → length (if b then [] else all_down First (raising c (j ∷ is)) ++ exchanging (j ∷ is)) ≤ suc (length is)
    go true h = omega arith
    go false h =
        let a = length-append (all_down First (raising c (j ∷ is))) (exchanging (j ∷ is)) in
        let b = length-down First (raising c (j ∷ is)) in
        let d = length-exchange (j ∷ is) in
        omega (arith, a, b, d)

ordering_short : (cs is : List ℕ) → Distinct cs → list_all (is_among is) cs ≡ true → length (ordering cs is) ≤ descending (length is)
ordering_short [] is d h = omega arith
ordering_short (c ∷ cs) [] d h = absurd (cc)
ordering_short (c ∷ cs) (i ∷ is) d h =
    let left = without c (i ∷ is) in
    let r : suc (length left) ≡ suc (length is) = length-without c (i ∷ is) (and_left (is_among (i ∷ is) c) (list_all (is_among (i ∷ is)) cs) h) in
    let e : length left ≡ length is = omega arith in
    let a = length-append (raising c (i ∷ is)) (all_down First (ordering cs left)) in
    let b = length-down First (ordering cs left) in
    let f : length (ordering cs left) ≤ descending (length is) =
    subst (λ n. length (ordering cs left) ≤ descending n) e (ordering_short cs left d.1 (without_have c cs (i ∷ is) d.0 (and_right (is_among (i ∷ is) c) (list_all (is_among (i ∷ is)) cs) h)))
    in
    let g = raising_short c i is in
    omega (arith, a, b, f, g)

opening_one_short : (frame : List Guard) (i : ℕ) → length (opening_one frame i) ≤ 1
opening_one_short frame i = go (is_open frame i)
  where
    go : (b : Bool) → length (if b then at_root 9 ∷ [] else []) ≤ 1
    go true = omega arith
    go false = omega arith

opening_short : (frame : List Guard) (is : List ℕ) → length (opening frame is) ≤ length is
opening_short frame [] = omega arith
opening_short frame (i ∷ []) = opening_one_short frame i
opening_short frame (i ∷ (j ∷ is)) =
    let a = length-append (all_down Second (opening_one frame i)) (all_down First (opening frame (j ∷ is))) in
    let b = length-down Second (opening_one frame i) in
    let d = length-down First (opening frame (j ∷ is)) in
    let f = opening_short frame (j ∷ is) in
    let g = opening_one_short frame i in
    omega (arith, a, b, d, f, g)

-- ---- the conditions

-- the most nodes above a raw entry that is not of the right side of a left join
abbrev pub height : Term → ℕ
height (Raw i) = 0
height (Guarded i x) = suc (height x)
height (Filtered e x) = suc (height x)
height (Joined x y) = suc (max (height x) (height y))
height (LeftJoined on x y) = suc (height x)
height (Empty is) = 0

-- so many conditions, each with one step more than the one before
abbrev pub ascending : ℕ → ℕ → ℕ
ascending zero h = 0
ascending (suc n) h = h + ascending n (suc h)

pub ascending_more : (m n h k : ℕ) → m ≤ n → h ≤ k → ascending m h ≤ ascending n k
ascending_more zero n h k l p = omega arith
ascending_more (suc m) zero h k l p = absurd (omega arith)
ascending_more (suc m) (suc n) h k l p = let a = ascending_more m n (suc h) (suc k) (omega arith) (omega arith) in omega (arith, a)

module _ (count : ℕ) where
  sinking_short : (e : BoundExpr) (x : Term) → length (sinking count e x) ≤ height x
  sinking_short e (Raw i) = omega arith
  sinking_short e (Empty is) = omega arith
  sinking_short e (Guarded i x) =
      let a = length-down First (sinking count e x) in
      let b = sinking_short e x in
      omega (arith, a, b)
  sinking_short e (Filtered a x) = go (passes count e a x) (sinking_short e x)
    where
      go : (b : Bool) → length (sinking count e x) ≤ height x → length (if b then at_root 3 ∷ all_down First (sinking count e x) else []) ≤ suc (height x)
      go true h = let d = length-down First (sinking count e x) in omega (arith, d)
      go false h = omega arith
  sinking_short e (Joined x y) = go (reads_only x e) (reads_only y e) (sinking_short e x) (sinking_short e y)
    where
      go : (b c : Bool) → length (sinking count e x) ≤ height x → length (sinking count e y) ≤ height y →
          length (if b then at_root 4 ∷ all_down First (sinking count e x) else if c then at_root 5 ∷ all_down Second (sinking count e y) else []) ≤ suc (max (height x) (height y))
      go true c h k = let d = length-down First (sinking count e x) in omega (arith, d)
      go false true h k = let d = length-down Second (sinking count e y) in omega (arith, d)
      go false false h k = omega arith
  sinking_short e (LeftJoined on x y) = go (reads_only x e) (sinking_short e x)
    where
      go : (b : Bool) → length (sinking count e x) ≤ height x → length (if b then at_root 20 ∷ all_down First (sinking count e x) else []) ≤ suc (height x)
      go true h = let d = length-down First (sinking count e x) in omega (arith, d)
      go false h = omega arith

  sunk_high : (e : BoundExpr) (x : Term) → height (sunk count e x) ≤ suc (height x)
  sunk_high e (Raw i) = omega arith
  sunk_high e (Empty is) = omega arith
  sunk_high e (Guarded i x) = let a = sunk_high e x in omega (arith, a)
  sunk_high e (Filtered a x) = go (passes count e a x) (sunk_high e x)
    where
      go : (b : Bool) → height (sunk count e x) ≤ suc (height x) → height (if b then Filtered a (sunk count e x) else Filtered e (Filtered a x)) ≤ suc (suc (height x))
      go true h = omega arith
      go false h = omega arith
  sunk_high e (Joined x y) = go (reads_only x e) (reads_only y e) (sunk_high e x) (sunk_high e y)
    where
      go : (b c : Bool) → height (sunk count e x) ≤ suc (height x) → height (sunk count e y) ≤ suc (height y) →
          height (if b then Joined (sunk count e x) y else if c then Joined x (sunk count e y) else Filtered e (Joined x y)) ≤ suc (suc (max (height x) (height y)))
      go true c h k = omega arith
      go false true h k = omega arith
      go false false h k = omega arith
  sunk_high e (LeftJoined on x y) = go (reads_only x e) (sunk_high e x)
    where
      go : (b : Bool) → height (sunk count e x) ≤ suc (height x) → height (if b then LeftJoined on (sunk count e x) y else Filtered e (LeftJoined on x y)) ≤ suc (suc (height x))
      go true h = omega arith
      go false h = omega arith

  settling_short : (e : BoundExpr) (x : Term) → length (settling count e x) ≤ height x
  settling_short e x = go (is_over count e)
    where
      go : (b : Bool) → length (if b then sinking count e x else []) ≤ height x
      go true = sinking_short e x
      go false = omega arith

  settled_high : (e : BoundExpr) (x : Term) → height (settled count e x) ≤ suc (height x)
  settled_high e x = go (is_over count e)
    where
      go : (b : Bool) → height (if b then sunk count e x else Filtered e x) ≤ suc (height x)
      go true = sunk_high e x
      go false = omega arith

  settling_all_short : (es : List BoundExpr) (x : Term) (h : ℕ) → height x ≤ h → length (settling_all count es x) ≤ ascending (length es) h
  settling_all_short [] x h l = omega arith
  settling_all_short (e ∷ es) x h l =
      let a = length-append (below_filters (length es) (settling count e x)) (settling_all count es (settled count e x)) in
      let b = length-below (length es) (settling count e x) in
      let c = settling_short e x in
      let d = settled_high e x in
      let f = settling_all_short es (settled count e x) (suc h) (omega (arith, d)) in
      omega (arith, a, b, c, f)

-- ---- the steps to no rows

clearing_short : (n : ℕ) → length (clearing n) ≤ n
clearing_short zero = omega arith
clearing_short (suc n) =
    let a = length-append (below_filters n (at_root 16 ∷ [])) (clearing n) in
    let b = length-below n (at_root 16 ∷ []) in
    let c = clearing_short n in
    omega (arith, a, b, c)

emptying_short : (es : List BoundExpr) → length (emptying es) ≤ length es
emptying_short [] = omega arith
emptying_short (e ∷ es) = go (is_never_true e) (emptying_short es)
  where
    go : (b : Bool) → length (emptying es) ≤ length es → length (if b then below_filters (length es) (at_root 15 ∷ []) ++ clearing (length es) else emptying es) ≤ suc (length es)
    go true h =
        let a = length-append (below_filters (length es) (at_root 15 ∷ [])) (clearing (length es)) in
        let b = length-below (length es) (at_root 15 ∷ []) in
        let c = clearing_short (length es) in
        omega (arith, a, b, c)
    go false h = omega arith

-- ---- all of it

-- the most steps that place the conditions of a query within the limits
abbrev pub most_placing : ℕ
most_placing = descending most_entries + most_entries + ascending most_conjuncts most_entries

descending_more : (m n : ℕ) → m ≤ n → descending m ≤ descending n
descending_more zero n h = omega arith
descending_more (suc m) zero h = absurd (omega arith)
descending_more (suc m) (suc n) h = let a = descending_more m n (omega arith) in omega (arith, a)

module _ (at : Setting) where
  opened_low : (i : ℕ) → height (opened at i) ≤ 1
  opened_low i = go (is_open at.frame i)
    where
      go : (b : Bool) → height (if b then Raw i else guarded_entry i) ≤ 1
      go true = omega arith
      go false = omega arith

  joined_low : (is : List ℕ) → height (opened_back at is) ≤ length is
  joined_low [] = omega arith
  joined_low (i ∷ []) = opened_low i
  joined_low (i ∷ (j ∷ is)) =
      let a = joined_low (j ∷ is) in
      let b = opened_low i in
      omega (arith, a, b)

  lefts_low : (ons : List BoundExpr) (i : ℕ) (x : Term) → height (opened_lefts at i ons x) ≡ length ons + height x
  lefts_low [] i x = omega arith
  lefts_low (on ∷ ons) i x = let a = lefts_low ons (suc i) (LeftJoined on x (opened at i)) in omega (arith, a)

  below_lefts_short : (is : List ℕ) (steps : List Step) → length (below_lefts at.frame is steps) ≤ length is + length steps
  below_lefts_short [] steps = omega arith
  below_lefts_short (i ∷ is) steps =
      let a = length-append (all_down Second (opening_one at.frame i)) (all_down First (below_lefts at.frame is steps)) in
      let b = length-down Second (opening_one at.frame i) in
      let c = opening_one_short at.frame i in
      let d = length-down First (below_lefts at.frame is steps) in
      let f = below_lefts_short is steps in
      omega (arith, a, b, c, d, f)

  entries_count : (ss : List CodeStep) → length (code_entries at ss) ≡ length ss
  entries_count ss = length-reverse (map entry_index ss) ∙ length-map ss entry_index

  joining_short : (ss : List CodeStep) → length ss ≡ inner_count at → AreNew (inner_count at) [] ss → length (joining at (code_entries at ss)) ≤ descending (inner_count at) + inner_count at
  joining_short ss as_many new =
      let cs = code_entries at ss in
      let a = length-append (ordering cs (from_entries at)) (opening at.frame cs) in
      let b : length (ordering cs (from_entries at)) ≤ descending (inner_count at) =
      subst (λ n. length (ordering cs (from_entries at)) ≤ descending n) (from_count (inner_count at)) (ordering_short cs (from_entries at) (code_distinct at ss as_many new) (code_within at ss as_many new))
      in
      let c = opening_short at.frame cs in
      let n = entries_count ss in
      omega (arith, a, b, c, n, as_many)

  module _ (few_entries : length at.frame ≤ most_entries) (few_conditions : length at.conditions ≤ most_conjuncts) where
    stepped_short : (ss : List CodeStep) → is_admissible at (codes.Steps ss) ≡ true → length (placing at (codes.Steps ss)) ≤ most_placing
    stepped_short ss h =
        let inner = inner_steps at ss in
        let many = has_many at ss h in
        let allowed = has_allowed at ss h in
        let last = has_last at ss h in
        let as_many_inner = as_many at ss many allowed last in
        let lefts = all_lefts at ss many allowed last in
        let left_entries = code_entries at (left_steps at ss) in
        let way = arranging at left_entries (code_entries at inner) in
        let x = all_opened at (code_entries at inner) in
        let a = length-append (below_filters (length at.conditions) way) (settling_all (length at.frame) at.conditions x) in
        let b = length-below (length at.conditions) way in
        let c = below_lefts_short left_entries (joining at (code_entries at inner)) in
        let d = joining_short inner as_many_inner (new at ss many allowed last) in
        let f : length left_entries ≡ length at.lefts = entries_count (left_steps at ss) ∙ sym (left_count at (inner_count at) at.lefts (left_steps at ss) last) in
        let g : descending (inner_count at) ≤ descending most_entries = descending_more (inner_count at) most_entries (omega (arith, lefts)) in
        let k = lefts_low at.lefts (inner_count at) (opened_back at (code_entries at inner)) in
        let l = joined_low (code_entries at inner) in
        let m = entries_count inner in
        let n = settling_all_short (length at.frame) at.conditions x most_entries (omega (arith, k, l, m, as_many_inner, lefts)) in
        let o : ascending (length at.conditions) most_entries ≤ ascending most_conjuncts most_entries = ascending_more (length at.conditions) most_conjuncts most_entries most_entries few_conditions (omega arith) in
        omega (arith, a, b, c, d, f, g, n, o, lefts)

    pub placing_short : (code : Code) → is_admissible at code ≡ true → length (placing at code) ≤ most_placing
    placing_short codes.Empty h = let a = emptying_short at.conditions in omega (arith, a)
    placing_short (codes.Steps ss) h = stepped_short ss h
