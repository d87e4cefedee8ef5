-- The rows of combinations with left joins.
use Rattle.std.proofs.Common.{◌≡◌, ◌⊎◌, inl, inr, ℕ, zero, suc, ◌-◌, ◌≤◌, List, [], ◌∷◌, ◌++◌, Contains, map, filter, flat_map, length, take, drop, refl, sym, subst, arith, append-nil, append_assoc}
use Rattle.std.specs.List.{All, AllZip}
use Rattle.std.proofs.lemmas.List.{length-drop, take-append-drop}
use Rattle.std.proofs.lemmas.List.Elements.{All-append, All-cons, All-filter, All-head, All-map, All-nil, All-tail, All-weaker}
use Rattle.value.specs.Datum.{Row}
use Rattle.value.specs.Names.{Name}
use Rattle.expr.specs.Bound.{BoundExpr}
use Rattle.eval.specs.Meaning.{holds}
use Rattle.scope.specs.Entry.{Entry}
use Rattle.tuples.specs.Combinations.{Combination, combinations, joined_cells}
use Rattle.tuples.specs.LeftCombinations.{or_null_row, followed, with_lefts, left_combinations}
use Rattle.catalog_laws.specs.Database.{Database, rows_of}
use Rattle.query_laws.specs.Values.{CombinationsAreOfRows}

-- P holds of an entry and each of its rows, and of its null row
module _ (P : Entry → Row → Type 0) (null_row : (e : Entry) → P e []) where
  abbrev AreOf : List Entry → List (List Row) → Type 0
  AreOf es tables = AllZip (λ e rows. All (P e) rows) es tables

  abbrev Fits : List Entry → Combination → Type 0
  Fits es c = AllZip P es c

  first_of : (n : ℕ) (es : List Entry) (tables : List (List Row)) → AreOf es tables → AreOf (take n es) (take n tables)
  first_of zero es tables h = tt
  first_of (suc n) [] [] h = h
  first_of (suc n) [] (rows ∷ tables) h = absurd h
  first_of (suc n) (e ∷ es) [] h = absurd h
  first_of (suc n) (e ∷ es) (rows ∷ tables) h = (h.0, first_of n es tables h.1)

  others_of : (n : ℕ) (es : List Entry) (tables : List (List Row)) → AreOf es tables → AreOf (drop n es) (drop n tables)
  others_of zero es tables h = h
  others_of (suc n) [] [] h = h
  others_of (suc n) [] (rows ∷ tables) h = absurd h
  others_of (suc n) (e ∷ es) [] h = absurd h
  others_of (suc n) (e ∷ es) (rows ∷ tables) h = others_of n es tables h.1

  -- ---- inner entries

  inner_fit : (es : List Entry) (tables : List (List Row)) → AreOf es tables → All (Fits es) (combinations tables)
  inner_fit [] [] h = All-cons (Fits []) [] [] tt (All-nil (Fits []))
  inner_fit [] (rows ∷ tables) h = absurd h
  inner_fit (e ∷ es) [] h = absurd h
  inner_fit (e ∷ es) (rows ∷ tables) h = each (inner_fit es tables h.1) rows h.0
    where
      each : All (Fits es) (combinations tables) → (rs : List Row) → All (P e) rs → All (Fits (e ∷ es)) (flat_map (λ row. map (λ rest. row ∷ rest) (combinations tables)) rs)
      each others [] k = All-nil (Fits (e ∷ es))
      each others (row ∷ rs) k =
          All-append (Fits (e ∷ es)) (map (λ rest. row ∷ rest) (combinations tables)) (flat_map (λ first. map (λ rest. first ∷ rest) (combinations tables)) rs)
          (All-map (Fits (e ∷ es)) (λ rest. row ∷ rest) (combinations tables) (All-weaker (Fits es) (λ rest. Fits (e ∷ es) (row ∷ rest)) (λ rest fits. (All-head (P e) row rs k, fits)) (combinations tables) others))
          (each others rs (All-tail (P e) row rs k))

  -- ---- left joined entries

  one_more : (es : List Entry) (e : Entry) (c : Combination) (row : Row) → Fits es c → P e row → Fits (es ++ e ∷ []) (c ++ row ∷ [])
  one_more [] e [] row h p = (p, tt)
  one_more [] e (r ∷ c) row h p = absurd h
  one_more (d ∷ es) e [] row h p = absurd h
  one_more (d ∷ es) e (r ∷ c) row h p = (h.0, one_more es e c row h.1 p)

  module _ (role : Name) where
    followed_fit : (on : BoundExpr) (es : List Entry) (e : Entry) (rows : List Row) (c : Combination) → All (P e) rows → Fits es c → All (Fits (es ++ e ∷ [])) (followed role on rows c)
    followed_fit on es e rows c each fits =
        or_null (filter (λ d. holds (joined_cells d) role on) (map (λ row. c ++ row ∷ []) rows))
        (All-filter (λ d. holds (joined_cells d) role on) longer (map (λ row. c ++ row ∷ []) rows) (All-map longer (λ row. c ++ row ∷ []) rows (All-weaker (P e) (λ row. longer (c ++ row ∷ [])) (λ row p. one_more es e c row fits p) rows each)))
      where
        longer : Combination → Type 0
        longer d = Fits (es ++ e ∷ []) d

        or_null : (ds : List Combination) → All longer ds → All longer (or_null_row c ds)
        or_null [] h = All-cons longer (c ++ [] ∷ []) [] (one_more es e c [] fits (null_row e)) (All-nil longer)
        or_null (d ∷ ds) h = h

    all_followed : (on : BoundExpr) (es : List Entry) (e : Entry) (rows : List Row) → All (P e) rows → (cs : List Combination) → All (Fits es) cs → All (Fits (es ++ e ∷ [])) (flat_map (followed role on rows) cs)
    all_followed on es e rows each [] h = All-nil (Fits (es ++ e ∷ []))
    all_followed on es e rows each (c ∷ cs) h =
        All-append (Fits (es ++ e ∷ [])) (followed role on rows c) (flat_map (followed role on rows) cs) (followed_fit on es e rows c each (All-head (Fits es) c cs h)) (all_followed on es e rows each cs (All-tail (Fits es) c cs h))

    -- after combinations of the first entries
    lefts_fit : (ons : List BoundExpr) (before es : List Entry) (tables : List (List Row)) (cs : List Combination) → AreOf es tables → length tables ≤ length ons → All (Fits before) cs → All (Fits (before ++ es)) (with_lefts role ons tables cs)
    lefts_fit [] before [] [] cs h few fit = subst (λ es. All (Fits es) cs) (sym (append-nil before)) fit
    lefts_fit (on ∷ ons) before [] [] cs h few fit = subst (λ es. All (Fits es) cs) (sym (append-nil before)) fit
    lefts_fit ons before [] (rows ∷ tables) cs h few fit = absurd h
    lefts_fit ons before (e ∷ es) [] cs h few fit = absurd h
    lefts_fit [] before (e ∷ es) (rows ∷ tables) cs h few fit = absurd (omega (arith, few))
    lefts_fit (on ∷ ons) before (e ∷ es) (rows ∷ tables) cs h few fit =
        subst (λ all. All (Fits all) (with_lefts role ons tables (flat_map (followed role on rows) cs))) (append_assoc before (e ∷ []) es)
        (lefts_fit ons (before ++ e ∷ []) es tables (flat_map (followed role on rows) cs) h.1 (omega (arith, few)) (all_followed on before e rows h.0 cs fit))

    pub left_fit : (lefts : List BoundExpr) (es : List Entry) (tables : List (List Row)) → AreOf es tables → All (Fits es) (left_combinations role lefts tables)
    left_fit lefts es tables h =
        let m : ℕ = length tables - length lefts in
        let few : length (drop m tables) ≤ length lefts = omega (arith, length-drop m tables) in
        subst (λ all. All (Fits all) (left_combinations role lefts tables)) (take-append-drop m es)
        (lefts_fit lefts (take m es) (drop m es) (drop m tables) (combinations (take m tables)) (others_of m es tables h) few (inner_fit (take m es) (take m tables) (first_of m es tables h)))

-- ---- rows of the tables

module _ (database : Database) where
  rows_or_null : (es : List Entry) (tables : List (List Row)) → AllZip (λ e rows. All (Contains (rows_of database e.table.name)) rows) es tables
      → AllZip (λ e rows. All (λ row. Contains (rows_of database e.table.name) row ⊎ (row ≡ [])) rows) es tables
  rows_or_null [] [] h = h
  rows_or_null [] (rows ∷ tables) h = absurd h
  rows_or_null (e ∷ es) [] h = absurd h
  rows_or_null (e ∷ es) (rows ∷ tables) h =
      (All-weaker (Contains (rows_of database e.table.name)) (λ row. Contains (rows_of database e.table.name) row ⊎ (row ≡ [])) (λ row within. inl within) rows h.0, rows_or_null es tables h.1)

pub combinations_are_of_rows : CombinationsAreOfRows
combinations_are_of_rows database role entries lefts tables h =
    left_fit (λ e row. Contains (rows_of database e.table.name) row ⊎ (row ≡ [])) (λ e. inr refl) role lefts entries tables (rows_or_null database entries tables h)
