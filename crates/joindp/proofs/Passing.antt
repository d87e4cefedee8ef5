-- What numbers give that pass a test, one number after another.
use Rattle.std.proofs.Common.{◌≡◌, ℕ, suc, ◌+◌, ◌<◌, Bool, true, false, ◌||◌, cond, List, ◌∷◌, ◌++◌, filter, map, length, get_or, sym, ap, ◌∙◌, append_assoc, arith}
use Rattle.std.specs.List.{list_any, range_with_len}
use Rattle.std.proofs.lemmas.List.FromFn.{get_or-map-range_with_len, length-map-range_with_len}
use Rattle.expr.specs.Bound.{BoundExpr}
use Rattle.expr.specs.Columns.{columns}
use Rattle.stats.specs.declared.selection.Selection.{Selection}
use Rattle.stats.specs.Card as card
use Rattle.stats.specs.Statistics.{Stats}
use Rattle.stats.specs.View.{selections_of}
use Rattle.joindp.specs.Following.{join}
use Rattle.expr.proofs.Lists.{any_map}

-- ---- lists made of numbers that pass a test

module _ {A : Type 0} (F : List ℕ → List A) (of : ℕ → List A) (step : (x : ℕ) (xs : List ℕ) → F (x ∷ xs) ≡ of x ++ F xs) (p : ℕ → Bool) (n left rest : ℕ) (known whole : List A) (so_far : known ++ F (filter p (range_with_len n left)) ≡ whole) where
  passing : (b : Bool) → p n ≡ b → left ≡ suc rest → known ++ F (cond b (n ∷ filter p (range_with_len (n + 1) rest)) (filter p (range_with_len (n + 1) rest))) ≡ whole
  passing b e more = ap (λ c. known ++ F (cond c (n ∷ filter p (range_with_len (n + 1) rest)) (filter p (range_with_len (n + 1) rest)))) (sym e) ∙ ap (λ l. known ++ F (filter p (range_with_len n l))) (sym more) ∙ so_far

  -- the next number passes
  pub one_taken : (new put : List A) (b : Bool) → new ≡ put → put ≡ known ++ of n → left ≡ suc rest → b ≡ p n → b ≡ true → new ++ F (filter p (range_with_len (n + 1) rest)) ≡ whole
  one_taken new put b e added more test passes =
      let tail = filter p (range_with_len (n + 1) rest) in
      ap (λ l. l ++ F tail) (e ∙ added) ∙ append_assoc known (of n) (F tail) ∙ ap (λ l. known ++ l) (sym (step n tail)) ∙ passing true (sym test ∙ passes) more

  -- the next number does not pass
  pub one_left : (new : List A) (b : Bool) → new ≡ known → left ≡ suc rest → b ≡ p n → b ≡ false → new ++ F (filter p (range_with_len (n + 1) rest)) ≡ whole
  one_left new b e more test fails = ap (λ l. l ++ F (filter p (range_with_len (n + 1) rest))) e ∙ passing false (sym test ∙ fails) more

-- ---- whether a number passes a test

module _ (p : ℕ → Bool) (n left rest : ℕ) (whole : Bool) (so_far : list_any p (range_with_len n left) ≡ whole) (more : left ≡ suc rest) where
  first_or_rest : p n || list_any p (range_with_len (n + 1) rest) ≡ whole
  first_or_rest = ap (λ l. list_any p (range_with_len n l)) (sym more) ∙ so_far

  -- the next number does not pass
  pub not_this_one : (b : Bool) → b ≡ p n → b ≡ false → list_any p (range_with_len (n + 1) rest) ≡ whole
  not_this_one b test fails = ap (λ b. b || list_any p (range_with_len (n + 1) rest)) (sym fails ∙ test) ∙ first_or_rest

-- ---- what each number gives

module _ {X : Type 0} (f : ℕ → X) (n : ℕ) (xs : List X) (all : xs ≡ map f (range_with_len 0 n)) where
  pub as_many : length xs ≡ n
  as_many = ap length all ∙ length-map-range_with_len f 0 n

  pub at_place : (i : ℕ) (x : X) → i < length xs → x ≡ get_or xs i x → x ≡ f i
  at_place i x within is = is ∙ ap (λ l. get_or l i x) all ∙ get_or-map-range_with_len f 0 n i i x (omega (arith, as_many)) (omega arith)

-- conditions as the estimates see them join an entry to a set as the conditions do
pub any_prepared : {A : Type 0} (of : List Stats) (ss : List (Selection A)) (conditions : List BoundExpr) (placed : card.Entries) (entry : ℕ)
    → selections_of ss ≡ card.selections of conditions → list_any (λ s. join s.columns placed entry) ss ≡ list_any (λ e. join (columns e) placed entry) conditions
any_prepared of ss conditions placed entry same =
    sym (any_map (λ (s : card.Selection). join s.columns placed entry) _ ss) ∙ ap (list_any (λ (s : card.Selection). join s.columns placed entry)) same ∙ any_map (λ (s : card.Selection). join s.columns placed entry) (card.selection of) conditions
