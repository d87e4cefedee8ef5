-- Trails that steps are added to.
use Rattle.std.proofs.Common.{◌≡◌, ◌∙◌, refl, sym, ap, ℕ, zero, suc, ◌+◌, ◌-◌, ◌<◌, ◌≤◌, Bool, true, false, cond, ◌==◌, List, [], ◌∷◌, ◌++◌, length, get_or, remove, take, drop, reverse, replicate, position, Some, None, append_assoc, if◌then◌else◌, arith}
use Rattle.std.specs.List.{position_from, range_with_len}
use Rattle.std.proofs.lemmas.Bool.{both_ways, eq-eqb, ne_eqb}
use Rattle.std.proofs.lemmas.Iterator.Adapters.{position_from-zero}
use Rattle.std.proofs.lemmas.List.{take_rest}
use Rattle.std.proofs.lemmas.List.Quantifiers.{position-Some}
use Rattle.expr.specs.declared.code.CodeStep.{CodeStep}
use Rattle.expr.specs.Bound.{BoundExpr}
use Rattle.expr.specs.Codes as codes
use Rattle.predicates.specs.Equalities.{is_never_true}
use Rattle.tuples.specs.Guards.{Guard}
use Rattle.row_terms.specs.declared.path.Branch.{Branch}
use Rattle.row_terms.specs.declared.path.Branch.TheVariants.{First, Second}
use Rattle.row_terms.specs.Terms.{Term}
use Rattle.algebra.specs.Steps.{Step}
use Rattle.trailcheck.specs.Settings.{Setting}
use Rattle.trailcheck.specs.Shapes.{inner_steps, left_steps}
use Rattle.rewrite.specs.Placing.{all_opened, arranging, code_entries, joining, placing, without, exchanging, raising, ordering, opening_one, opening, settled, settling, settling_all, clearing, emptying}
use Rattle.rewrite.specs.Trails.{at_root, all_down, below_filters, below_path}
use Rattle.rewrite.proofs.Below.{below_further, both_added, filters_below}
use Rattle.rewrite.proofs.Distinct.{from_next}

-- ---- lists by their first element

pub none_there : {X : Type 0} (xs : List X) → length xs < 1 → xs ≡ []
none_there [] h = refl
none_there (x ∷ xs) h = absurd (omega arith)

-- the elements after the first
abbrev pub rest_of : {X : Type 0} → List X → List X
rest_of xs = take (length xs - 1) (drop 1 xs)

pub first_rest : {X : Type 0} (xs : List X) (d : X) → 1 ≤ length xs → xs ≡ get_or xs 0 d ∷ rest_of xs
first_rest {X} xs d h = split xs h ∙ ap (λ l. get_or xs 0 d ∷ l) (sym (take_rest xs 1))
  where
    split : (xs : List X) → 1 ≤ length xs → xs ≡ get_or xs 0 d ∷ drop 1 xs
    split [] h = absurd (omega arith)
    split (x ∷ xs) h = refl

pub from_more : (known whole : List ℕ) (count k : ℕ) → k < count → known ++ reverse (range_with_len 0 (count - k)) ≡ whole → (known ++ (count - 1 - k) ∷ []) ++ reverse (range_with_len 0 (count - (k + 1))) ≡ whole
from_more known whole count k h so_far =
    let left : count - k ≡ suc (count - 1 - k) = omega arith in
    let rest : count - (k + 1) ≡ count - 1 - k = omega arith in
    append_assoc known ((count - 1 - k) ∷ []) (reverse (range_with_len 0 (count - (k + 1))))
    ∙ ap (λ n. known ++ (count - 1 - k) ∷ reverse (range_with_len 0 n)) rest
    ∙ ap (λ l. known ++ l) (sym (ap (λ n. reverse (range_with_len 0 n)) left ∙ from_next (count - 1 - k)))
    ∙ so_far

-- ---- steps below a branch of the path

module _ (path : List Branch) (old : List Step) where
  pub branch_added : (b : Branch) (deeper : List Branch) (ss new : List Step) → deeper ≡ path ++ b ∷ [] → new ≡ old ++ below_path deeper ss → new ≡ old ++ below_path path (all_down b ss)
  branch_added b deeper ss new d n = n ∙ ap (λ p. old ++ below_path p ss) d ∙ ap (λ l. old ++ l) (below_further path b ss)

  pub raising_here : (c : ℕ) (is : List ℕ) → 1 ≤ length is → get_or is 0 0 ≡ c → raising c is ≡ []
  raising_here c is h same = ap (raising c) (first_rest is 0 h) ∙ ap (λ b. if b then [] else all_down First (raising c (rest_of is)) ++ exchanging (rest_of is)) (eq-eqb (get_or is 0 0) c same)

  raising_there : (c : ℕ) (is : List ℕ) → 1 ≤ length is → (get_or is 0 0 ≡ c → ⊥) → raising c is ≡ all_down First (raising c (rest_of is)) ++ exchanging (rest_of is)
  raising_there c is h other = ap (raising c) (first_rest is 0 h) ∙ ap (λ b. if b then [] else all_down First (raising c (rest_of is)) ++ exchanging (rest_of is)) (ne_eqb (get_or is 0 0) c other)

  pub raising_added : (c : ℕ) (is : List ℕ) → 1 ≤ length is → (get_or is 0 0 ≡ c → ⊥) → (deeper : List Branch) (mid new : List Step) → deeper ≡ path ++ First ∷ [] →
      mid ≡ old ++ below_path deeper (raising c (rest_of is)) → new ≡ mid ++ below_path path (exchanging (rest_of is)) → new ≡ old ++ below_path path (raising c is)
  raising_added c is h other deeper mid new d m n =
      both_added path old (all_down First (raising c (rest_of is))) (exchanging (rest_of is)) mid new (branch_added First deeper (raising c (rest_of is)) mid d m) n
      ∙ ap (λ ss. old ++ below_path path ss) (sym (raising_there c is h other))

  ordering_split : (cs is : List ℕ) → 1 ≤ length cs → ordering cs is ≡ raising (get_or cs 0 0) is ++ all_down First (ordering (rest_of cs) (without (get_or cs 0 0) is))
  ordering_split cs is h = ap (λ l. ordering l is) (first_rest cs 0 h)

  opening_split : (frame : List Guard) (is : List ℕ) → 2 ≤ length is → opening frame is ≡ all_down Second (opening_one frame (get_or is 0 0)) ++ all_down First (opening frame (rest_of is))
  opening_split frame is h =
      let e : is ≡ get_or is 0 0 ∷ rest_of is = first_rest is 0 (omega arith) in
      let more : 1 ≤ length (rest_of is) = omega (arith, ap length e) in
      ap (opening frame) e ∙ further (get_or is 0 0) (rest_of is) more
    where
      further : (i : ℕ) (rest : List ℕ) → 1 ≤ length rest → opening frame (i ∷ rest) ≡ all_down Second (opening_one frame i) ++ all_down First (opening frame rest)
      further i [] h = absurd (omega arith)
      further i (j ∷ more) h = refl

  module _ (deeper : List Branch) (mid new : List Step) (d : deeper ≡ path ++ First ∷ []) where
    pub ordering_added : (cs is rest : List ℕ) → 1 ≤ length cs → rest ≡ without (get_or cs 0 0) is → mid ≡ old ++ below_path path (raising (get_or cs 0 0) is) → new ≡ mid ++ below_path deeper (ordering (rest_of cs) rest) →
        new ≡ old ++ below_path path (ordering cs is)
    ordering_added cs is rest h left m n =
        both_added path old (raising (get_or cs 0 0) is) (all_down First (ordering (rest_of cs) (without (get_or cs 0 0) is))) mid new m
        (n ∙ ap (λ l. mid ++ below_path deeper (ordering (rest_of cs) l)) left ∙ ap (λ p. mid ++ below_path p (ordering (rest_of cs) (without (get_or cs 0 0) is))) d
        ∙ ap (λ l. mid ++ l) (below_further path First (ordering (rest_of cs) (without (get_or cs 0 0) is))))
        ∙ ap (λ ss. old ++ below_path path ss) (sym (ordering_split cs is h))

    pub opening_added : (frame : List Guard) (is : List ℕ) (side : List Branch) → 2 ≤ length is → side ≡ path ++ Second ∷ [] → mid ≡ old ++ below_path side (opening_one frame (get_or is 0 0)) → new ≡ mid ++ below_path deeper (opening frame (rest_of is)) →
        new ≡ old ++ below_path path (opening frame is)
    opening_added frame is side h s m n =
        both_added path old (all_down Second (opening_one frame (get_or is 0 0))) (all_down First (opening frame (rest_of is))) mid new (branch_added Second side (opening_one frame (get_or is 0 0)) mid s m)
        (n ∙ ap (λ p. mid ++ below_path p (opening frame (rest_of is))) d ∙ ap (λ l. mid ++ l) (below_further path First (opening frame (rest_of is))))
        ∙ ap (λ ss. old ++ below_path path ss) (sym (opening_split frame is h))

-- ---- steps below filters, and more

module _ (old mid new more whole : List Step) (n : ℕ) (path : List Branch) (ss : List Step) where
  pub filters_added : path ≡ replicate n First → mid ≡ old ++ below_path path ss → new ≡ mid ++ more → whole ≡ below_filters n ss ++ more → new ≡ old ++ whole
  filters_added p m k w =
      k ∙ ap (λ l. l ++ more) (m ∙ ap (λ q. old ++ below_path q ss) p ∙ ap (λ l. old ++ l) (sym (filters_below n ss)))
      ∙ append_assoc old (below_filters n ss) more ∙ ap (λ l. old ++ l) (sym w)

pub clearing_split : (n : ℕ) → (n ≡ 0 → ⊥) → clearing n ≡ below_filters (n - 1) (at_root 16 ∷ []) ++ clearing (n - 1)
clearing_split zero h = absurd (h refl)
clearing_split (suc n) h = let e : n ≡ suc n - 1 = omega arith in ap (λ k. below_filters k (at_root 16 ∷ []) ++ clearing k) e

pub emptying_split : (es : List BoundExpr) (e : BoundExpr) → 1 ≤ length es → e ≡ get_or es 0 e → is_never_true e ≡ true → emptying es ≡ below_filters (length (rest_of es)) (at_root 15 ∷ []) ++ clearing (length (rest_of es))
emptying_split es e h is never =
    ap emptying (first_rest es e h ∙ ap (λ f. f ∷ rest_of es) (sym is))
    ∙ ap (λ b. if b then below_filters (length (rest_of es)) (at_root 15 ∷ []) ++ clearing (length (rest_of es)) else emptying (rest_of es)) never

pub settling_split : (count : ℕ) (es : List BoundExpr) (e : BoundExpr) (x : Term) → 1 ≤ length es → e ≡ get_or es 0 e →
    settling_all count es x ≡ below_filters (length (rest_of es)) (settling count e x) ++ settling_all count (rest_of es) (settled count e x)
settling_split count es e x h is = ap (λ l. settling_all count l x) (first_rest es e h ∙ ap (λ f. f ∷ rest_of es) (sym is))

pub settling_added : (count : ℕ) (es : List BoundExpr) (item e : BoundExpr) (x y : Term) → 1 ≤ length es → item ≡ get_or es 0 item → e ≡ item → y ≡ settled count e x →
    settling_all count es x ≡ below_filters (length (rest_of es)) (settling count e x) ++ settling_all count (rest_of es) y
settling_added count es item e x y h is copy placed =
    settling_split count es item x h is
    ∙ ap (λ f. below_filters (length (rest_of es)) (settling count f x) ++ settling_all count (rest_of es) (settled count f x)) (sym copy)
    ∙ ap (λ z. below_filters (length (rest_of es)) (settling count e x) ++ settling_all count (rest_of es) z) (sym placed)

-- ---- a list without an entry, by the index of that

without_by : (c : ℕ) (is : List ℕ) (k : ℕ) → k < length is → (get_or is k 0 == c) ≡ true → ((j : ℕ) → j < k → (get_or is j 0 == c) ≡ false) → without c is ≡ remove is k
without_by c [] k less same others = absurd (omega arith)
without_by c (i ∷ is) zero less same others = ap (λ b. if b then is else i ∷ without c is) same
without_by c (i ∷ is) (suc k) less same others =
    ap (λ b. if b then is else i ∷ without c is) (others 0 (omega arith))
    ∙ ap (λ l. i ∷ l) (without_by c is k (omega arith) same (λ j h. others (suc j) (omega arith)))

pub without_found : (c : ℕ) (is : List ℕ) (k : ℕ) → position (λ i. i == c) is ≡ Some k → without c is ≡ remove is k
without_found c is k h = let f = position-Some (λ i. i == c) is k 0 h in without_by c is k f.0 f.1 f.2

without_none : (c n : ℕ) (is : List ℕ) → position_from (λ i. i == c) n is ≡ None → without c is ≡ is
without_none c n [] h = refl
without_none c n (i ∷ is) h = go (i == c) h (λ k. without_none c (n + 1) is k)
  where
    go : (b : Bool) → cond b (Some n) (position_from (λ i. i == c) (n + 1) is) ≡ None → (position_from (λ i. i == c) (n + 1) is ≡ None → without c is ≡ is) → (if b then is else i ∷ without c is) ≡ i ∷ is
    go true k rest = absurd (cc)
    go false k rest = ap (λ l. i ∷ l) (rest k)

pub without_absent : (c : ℕ) (is : List ℕ) → position (λ i. i == c) is ≡ None → without c is ≡ is
without_absent c is h = without_none c 0 is (sym (position_from-zero (λ i. i == c) is) ∙ h)

-- ---- steps below left joined entries

module _ (at : Setting) (inner : List ℕ) where
  pub arranging_first : (lefts : List ℕ) → length lefts < 1 → arranging at lefts inner ≡ joining at inner
  arranging_first lefts h = ap (λ l. arranging at l inner) (none_there lefts h)

  pub arranging_split : (lefts : List ℕ) → 1 ≤ length lefts → arranging at lefts inner ≡ all_down Second (opening_one at.frame (get_or lefts 0 0)) ++ all_down First (arranging at (rest_of lefts) inner)
  arranging_split lefts h = ap (λ l. arranging at l inner) (first_rest lefts 0 h)

  module _ (path : List Branch) (old : List Step) where
    pub arranging_added : (lefts : List ℕ) (side deeper : List Branch) (mid new : List Step) → 1 ≤ length lefts → side ≡ path ++ Second ∷ [] → deeper ≡ path ++ First ∷ [] →
        mid ≡ old ++ below_path side (opening_one at.frame (get_or lefts 0 0)) → new ≡ mid ++ below_path deeper (arranging at (rest_of lefts) inner) → new ≡ old ++ below_path path (arranging at lefts inner)
    arranging_added lefts side deeper mid new h s d m n =
        both_added path old (all_down Second (opening_one at.frame (get_or lefts 0 0))) (all_down First (arranging at (rest_of lefts) inner)) mid new
        (branch_added path old Second side (opening_one at.frame (get_or lefts 0 0)) mid s m)
        (branch_added path mid First deeper (arranging at (rest_of lefts) inner) new d n)
        ∙ ap (λ ss. old ++ below_path path ss) (sym (arranging_split lefts h))

-- ---- all steps to a shape

module _ (at : Setting) where
  pub placing_added : (ss : List CodeStep) (path : List Branch) (old mid new : List Step) → path ≡ replicate (length at.conditions) First →
      mid ≡ old ++ below_path path (arranging at (code_entries at (left_steps at ss)) (code_entries at (inner_steps at ss))) →
      new ≡ mid ++ settling_all (length at.frame) at.conditions (all_opened at (code_entries at (inner_steps at ss))) → new ≡ old ++ placing at (codes.Steps ss)
  placing_added ss path old mid new p a c =
      filters_added old mid new (settling_all (length at.frame) at.conditions (all_opened at (code_entries at (inner_steps at ss)))) (placing at (codes.Steps ss)) (length at.conditions) path
      (arranging at (code_entries at (left_steps at ss)) (code_entries at (inner_steps at ss))) p a c refl
