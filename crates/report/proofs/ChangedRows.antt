-- Rows that are changed in columns that no ON of a left join reads: the bag of changed combinations is a function of the bags of changed rows.
use Rattle.std.proofs.Common.{◌≡◌, ℕ, zero, suc, ◌+◌, ◌-◌, Bool, true, false, cond, List, [], ◌∷◌, ◌++◌, map, filter, flat_map, length, take, drop, slice_index_or, IsPermutation, refl, sym, ap, ap₂, ◌∙◌, subst, arith, length-append, ◌≤◌}
use Rattle.std.specs.List.{All}
use Rattle.std.proofs.lemmas.List.{map-append}
use Rattle.std.proofs.lemmas.List.Elements.{All-head, All-tail}
use Rattle.bags.proofs.Order.{SameSums, SameSums-IsPermutation}
use Rattle.bags.proofs.Bags.{SameSums-length, SameSums-map, SameSums-filter, SameSums-flat_map}
use Rattle.bags.proofs.Members.{Each, each-append, each-filter, each-flat_map, each-map}
use Rattle.value.specs.Datum.{Row}
use Rattle.value.specs.Names.{Name}
use Rattle.expr.specs.Bound.{BoundExpr}
use Rattle.eval.specs.Meaning.{holds}
use Rattle.groups.proofs.SameGroups.{map-map}
use Rattle.tuples.specs.Combinations.{Combination, combinations, joined_cells}
use Rattle.tuples.specs.LeftCombinations.{or_null_row, followed, with_lefts, left_combinations}

-- the rows of the entries from a number on, each changed by a function of its entry
abbrev pub each_row : (ℕ → Row → Row) → ℕ → Combination → Combination
each_row f k [] = []
each_row f k (row ∷ rows) = f k row ∷ each_row f (k + 1) rows

abbrev pub each_table : (ℕ → Row → Row) → ℕ → List (List Row) → List (List Row)
each_table f k [] = []
each_table f k (rows ∷ tables) = map (f k) rows ∷ each_table f (k + 1) tables

-- the condition is as true on the combination as on the changed one
abbrev pub IsKept : Name → (ℕ → Row → Row) → Combination → BoundExpr → Type 0
IsKept role f c on = holds (joined_cells (each_row f 0 c)) role on ≡ holds (joined_cells c) role on

-- the change leaves the null row as it is, and no ON of a left join reads it
pub record IsUnseen (role : Name) (f : ℕ → Row → Row) (lefts : List BoundExpr) : Type 0 where
  pub null_row : (k : ℕ) → f k [] ≡ []
  pub ons : (c : Combination) → All (IsKept role f c) lefts

-- ---- lists

map-alike : {A B : Type 0} (f g : A → B) → ((x : A) → f x ≡ g x) → (xs : List A) → map f xs ≡ map g xs
map-alike f g h [] = refl
map-alike f g h (x ∷ xs) = ap₂ ◌∷◌ (h x) (map-alike f g h xs)

map-flat_map : {A B C : Type 0} (g : B → C) (f : A → List B) (xs : List A) → map g (flat_map f xs) ≡ flat_map (λ x. map g (f x)) xs
map-flat_map g f [] = refl
map-flat_map g f (x ∷ xs) = map-append g (f x) (flat_map f xs) ∙ ap (λ l. map g (f x) ++ l) (map-flat_map g f xs)

flat_map-map : {A B C : Type 0} (g : B → List C) (f : A → B) (xs : List A) → flat_map g (map f xs) ≡ flat_map (λ x. g (f x)) xs
flat_map-map g f [] = refl
flat_map-map g f (x ∷ xs) = ap (λ l. g (f x) ++ l) (flat_map-map g f xs)

flat_map-alike : {A B : Type 0} (f g : A → List B) → ((x : A) → f x ≡ g x) → (xs : List A) → flat_map f xs ≡ flat_map g xs
flat_map-alike f g h [] = refl
flat_map-alike f g h (x ∷ xs) = ap₂ ◌++◌ (h x) (flat_map-alike f g h xs)

-- a test that a function does not change
pub filter-map : {A : Type 0} (p : A → Bool) (f : A → A) → ((x : A) → p (f x) ≡ p x) → (xs : List A) → filter p (map f xs) ≡ map f (filter p xs)
filter-map p f h [] = refl
filter-map p f h (x ∷ xs) =
    ap (λ b. cond b (f x ∷ filter p (map f xs)) (filter p (map f xs))) (h x)
    ∙ elim (p x) as (λ b. cond b (f x ∷ filter p (map f xs)) (filter p (map f xs)) ≡ map f (cond b (x ∷ filter p xs) (filter p xs)))
    [ true ↦ ap (λ l. f x ∷ l) (filter-map p f h xs) | false ↦ filter-map p f h xs ]

taken : (n : ℕ) (tables : List (List Row)) → n ≤ length tables → length (take n tables) ≡ n
taken zero tables h = refl
taken (suc n) [] h = absurd (omega (arith, h))
taken (suc n) (rows ∷ tables) h = ap suc (taken n tables (omega (arith, h)))

module _ (f : ℕ → Row → Row) where
  -- ---- changed combinations of changed rows

  inner_of_each : (k : ℕ) (tables : List (List Row)) → combinations (each_table f k tables) ≡ map (each_row f k) (combinations tables)
  inner_of_each k [] = refl
  inner_of_each k (rows ∷ tables) =
      flat_map-map (λ row. map (λ rest. row ∷ rest) (combinations (each_table f (k + 1) tables))) (f k) rows
      ∙ flat_map-alike (λ row. map (λ rest. f k row ∷ rest) (combinations (each_table f (k + 1) tables))) (λ row. map (each_row f k) (map (λ rest. row ∷ rest) (combinations tables)))
      (λ row. ap (map (λ rest. f k row ∷ rest)) (inner_of_each (k + 1) tables) ∙ map-map (λ rest. f k row ∷ rest) (each_row f (k + 1)) (combinations tables) ∙ sym (map-map (each_row f k) (λ rest. row ∷ rest) (combinations tables))) rows
      ∙ sym (map-flat_map (each_row f k) (λ row. map (λ rest. row ∷ rest) (combinations tables)) rows)

  one_more : (k : ℕ) (c : Combination) (row : Row) → each_row f k (c ++ row ∷ []) ≡ each_row f k c ++ f (k + length c) row ∷ []
  one_more k [] row = let e : k + 0 ≡ k = omega arith in ap (λ n. f n row ∷ []) (sym e)
  one_more k (r ∷ c) row = let e : k + 1 + length c ≡ k + length (r ∷ c) = omega arith in ap (λ l. f k r ∷ l) (one_more (k + 1) c row ∙ ap (λ n. each_row f (k + 1) c ++ f n row ∷ []) e)

  -- ---- the first tables, and the others

  take_each : (n k : ℕ) (tables : List (List Row)) → take n (each_table f k tables) ≡ each_table f k (take n tables)
  take_each zero k tables = refl
  take_each (suc n) k [] = refl
  take_each (suc n) k (rows ∷ tables) = ap (λ l. map (f k) rows ∷ l) (take_each n (k + 1) tables)

  drop_each : (n k : ℕ) (tables : List (List Row)) → drop n (each_table f k tables) ≡ each_table f (k + n) (drop n tables)
  drop_each zero k tables = let e : k ≡ k + 0 = omega arith in ap (λ m. each_table f m tables) e
  drop_each (suc n) k [] = refl
  drop_each (suc n) k (rows ∷ tables) = let e : k + 1 + n ≡ k + suc n = omega arith in drop_each n (k + 1) tables ∙ ap (λ m. each_table f m (drop n tables)) e

  table_count : (k : ℕ) (tables : List (List Row)) → length (each_table f k tables) ≡ length tables
  table_count k [] = refl
  table_count k (rows ∷ tables) = ap suc (table_count (k + 1) tables)

-- ---- the lengths of combinations

combination_lengths : (tables : List (List Row)) → Each (λ c. length c ≡ length tables) (combinations tables)
combination_lengths [] = (refl, tt)
combination_lengths (rows ∷ tables) = all (combination_lengths tables) rows
  where
    after : (row : Row) (cs : List Combination) → Each (λ c. length c ≡ length tables) cs → Each (λ c. length c ≡ length (rows ∷ tables)) (map (λ rest. row ∷ rest) cs)
    after row [] h = tt
    after row (c ∷ cs) h = (ap suc h.0, after row cs h.1)

    all : Each (λ c. length c ≡ length tables) (combinations tables) → (rs : List Row) → Each (λ c. length c ≡ length (rows ∷ tables)) (flat_map (λ row. map (λ rest. row ∷ rest) (combinations tables)) rs)
    all h [] = tt
    all h (row ∷ rs) =
        each-append (λ c. length c ≡ length (rows ∷ tables)) (map (λ rest. row ∷ rest) (combinations tables)) (flat_map (λ first. map (λ rest. first ∷ rest) (combinations tables)) rs)
        (after row (combinations tables) h) (all h rs)

module _ (role : Name) where
  -- the rows of the entry on which its ON is true, after a combination
  abbrev matches : BoundExpr → List Row → Combination → List Combination
  matches on rows c = filter (λ d. holds (joined_cells d) role on) (map (λ row. c ++ row ∷ []) rows)

  followed_lengths : (n : ℕ) (on : BoundExpr) (rows : List Row) (c : Combination) → length c ≡ n → Each (λ d. length d ≡ n + 1) (followed role on rows c)
  followed_lengths n on rows c h = go (matches on rows c) (each-filter (λ d. length d ≡ n + 1) (λ d. holds (joined_cells d) role on) (map (λ row. c ++ row ∷ []) rows) (each-map (λ d. length d ≡ n + 1) (λ row. c ++ row ∷ []) one rows))
    where
      one : (row : Row) → length (c ++ row ∷ []) ≡ n + 1
      one row = length-append c (row ∷ []) ∙ omega (arith, h)

      go : (ds : List Combination) → Each (λ d. length d ≡ n + 1) ds → Each (λ d. length d ≡ n + 1) (or_null_row c ds)
      go [] k = (one [], tt)
      go (d ∷ ds) k = k

  -- ---- left joined entries

  module _ (f : ℕ → Row → Row) (nulls : (k : ℕ) → f k [] ≡ []) where
    or_null_of_each : (c : Combination) (ds : List Combination) → or_null_row (each_row f 0 c) (map (each_row f 0) ds) ≡ map (each_row f 0) (or_null_row c ds)
    or_null_of_each c [] = ap (λ l. l ∷ []) (ap (λ r. each_row f 0 c ++ r ∷ []) (sym (nulls (0 + length c))) ∙ sym (one_more f 0 c []))
    or_null_of_each c (d ∷ ds) = refl

    followed_each : (on : BoundExpr) → ((d : Combination) → IsKept role f d on) → (rows : List Row) (c : Combination) → followed role on (map (f (length c)) rows) (each_row f 0 c) ≡ map (each_row f 0) (followed role on rows c)
    followed_each on h rows c =
        ap (λ ds. or_null_row (each_row f 0 c) (filter (λ d. holds (joined_cells d) role on) ds))
        (map-map (λ row. each_row f 0 c ++ row ∷ []) (f (length c)) rows ∙ map-alike (λ row. each_row f 0 c ++ f (length c) row ∷ []) (λ row. each_row f 0 (c ++ row ∷ [])) same rows ∙ sym (map-map (each_row f 0) (λ row. c ++ row ∷ []) rows))
        ∙ ap (or_null_row (each_row f 0 c)) (filter-map (λ d. holds (joined_cells d) role on) (each_row f 0) h (map (λ row. c ++ row ∷ []) rows))
        ∙ or_null_of_each c (matches on rows c)
      where
        same : (row : Row) → each_row f 0 c ++ f (length c) row ∷ [] ≡ each_row f 0 (c ++ row ∷ [])
        same row = let e : length c ≡ 0 + length c = omega arith in ap (λ n. each_row f 0 c ++ f n row ∷ []) e ∙ sym (one_more f 0 c row)

    -- after combinations of the first n
    lefts_of_each : (lefts : List BoundExpr) → ((c : Combination) → All (IsKept role f c) lefts) → (n : ℕ) (tables : List (List Row)) (cs : List Combination)
        → Each (λ c. length c ≡ n) cs → with_lefts role lefts (each_table f n tables) (map (each_row f 0) cs) ≡ map (each_row f 0) (with_lefts role lefts tables cs)
    lefts_of_each [] h n tables cs l = refl
    lefts_of_each (on ∷ ons) h n [] cs l = refl
    lefts_of_each (on ∷ ons) h n (rows ∷ tables) cs l =
        ap (with_lefts role ons (each_table f (n + 1) tables)) (all cs l)
        ∙ lefts_of_each ons (λ c. All-tail (IsKept role f c) on ons (h c)) (n + 1) tables (flat_map (followed role on rows) cs)
        (each-flat_map (λ c. length c ≡ n) (λ d. length d ≡ n + 1) (followed role on rows) (λ c k. followed_lengths n on rows c k) cs l)
      where
        all : (cs : List Combination) → Each (λ c. length c ≡ n) cs → flat_map (followed role on (map (f n) rows)) (map (each_row f 0) cs) ≡ map (each_row f 0) (flat_map (followed role on rows) cs)
        all [] l = refl
        all (c ∷ cs) l =
            ap₂ ◌++◌ (ap (λ k. followed role on (map (f k) rows) (each_row f 0 c)) (sym l.0) ∙ followed_each on (λ d. All-head (IsKept role f d) on ons (h d)) rows c) (all cs l.1)
            ∙ sym (map-append (each_row f 0) (followed role on rows c) (flat_map (followed role on rows) cs))

  -- the combinations of changed rows are the changed combinations
  pub combinations_of_each : (f : ℕ → Row → Row) (lefts : List BoundExpr) → IsUnseen role f lefts → (tables : List (List Row)) → left_combinations role lefts (each_table f 0 tables) ≡ map (each_row f 0) (left_combinations role lefts tables)
  combinations_of_each f lefts unseen tables =
      ap (λ n. with_lefts role lefts (drop (n - length lefts) (each_table f 0 tables)) (combinations (take (n - length lefts) (each_table f 0 tables)))) (table_count f 0 tables)
      ∙ ap₂ (with_lefts role lefts) (drop_each f m 0 tables ∙ ap (λ k. each_table f k (drop m tables)) e) (ap combinations (take_each f m 0 tables) ∙ inner_of_each f 0 (take m tables))
      ∙ lefts_of_each f unseen.null_row lefts unseen.ons m (drop m tables) (combinations (take m tables)) (subst (λ n. Each (λ c. length c ≡ n) (combinations (take m tables))) (taken m tables few) (combination_lengths (take m tables)))
    where
      m : ℕ
      m = length tables - length lefts

      e : 0 + m ≡ m
      e = omega arith

      few : m ≤ length tables
      few = omega arith

-- ---- the same bags

abbrev AreSame : List (List Row) → List (List Row) → Type 0
AreSame [] [] = Unit {0}
AreSame (xs ∷ xss) (ys ∷ yss) = SameSums xs ys × AreSame xss yss
AreSame _ _ = ⊥

same_drop : (n : ℕ) (one other : List (List Row)) → AreSame one other → AreSame (drop n one) (drop n other)
same_drop zero one other h = h
same_drop (suc n) [] [] h = h
same_drop (suc n) (xs ∷ xss) (ys ∷ yss) h = same_drop n xss yss h.1
same_drop (suc n) [] (ys ∷ yss) h = absurd h
same_drop (suc n) (xs ∷ xss) [] h = absurd h

same_take : (n : ℕ) (one other : List (List Row)) → AreSame one other → AreSame (take n one) (take n other)
same_take zero one other h = tt
same_take (suc n) [] [] h = h
same_take (suc n) (xs ∷ xss) (ys ∷ yss) h = (h.0, same_take n xss yss h.1)
same_take (suc n) [] (ys ∷ yss) h = absurd h
same_take (suc n) (xs ∷ xss) [] h = absurd h

inner_same : (one other : List (List Row)) → AreSame one other → SameSums (combinations one) (combinations other)
inner_same [] [] h = λ g. refl
inner_same (xs ∷ xss) (ys ∷ yss) h =
    SameSums-flat_map xs ys h.0 _ _ (λ row. SameSums-map (combinations xss) (combinations yss) (inner_same xss yss h.1) (λ rest. row ∷ rest))
inner_same [] (ys ∷ yss) h = absurd h
inner_same (xs ∷ xss) [] h = absurd h

or_null_same : (c : Combination) (ds es : List Combination) → SameSums ds es → SameSums (or_null_row c ds) (or_null_row c es)
or_null_same c [] [] same = λ g. refl
or_null_same c [] (e ∷ es) same = let l : 0 ≡ length (e ∷ es) = SameSums-length [] (e ∷ es) same in absurd (omega (arith, l))
or_null_same c (d ∷ ds) [] same = let l : length (d ∷ ds) ≡ 0 = SameSums-length (d ∷ ds) [] same in absurd (omega (arith, l))
or_null_same c (d ∷ ds) (e ∷ es) same = same

module _ (role : Name) where
  followed_same : (on : BoundExpr) (xs ys : List Row) → SameSums xs ys → (c : Combination) → SameSums (followed role on xs c) (followed role on ys c)
  followed_same on xs ys same c =
      or_null_same c (matches role on xs c) (matches role on ys c)
      (SameSums-filter (map (λ row. c ++ row ∷ []) xs) (map (λ row. c ++ row ∷ []) ys) (SameSums-map xs ys same (λ row. c ++ row ∷ [])) (λ d. holds (joined_cells d) role on))

  lefts_same : (lefts : List BoundExpr) (one other : List (List Row)) (cs ds : List Combination) → AreSame one other → SameSums cs ds → SameSums (with_lefts role lefts one cs) (with_lefts role lefts other ds)
  lefts_same [] one other cs ds h same = same
  lefts_same (on ∷ ons) [] [] cs ds h same = same
  lefts_same (on ∷ ons) (xs ∷ one) (ys ∷ other) cs ds h same =
      lefts_same ons one other (flat_map (followed role on xs) cs) (flat_map (followed role on ys) ds) h.1
      (SameSums-flat_map cs ds same (followed role on xs) (followed role on ys) (followed_same on xs ys h.0))
  lefts_same (on ∷ ons) [] (ys ∷ other) cs ds h same = absurd h
  lefts_same (on ∷ ons) (xs ∷ one) [] cs ds h same = absurd h

module _ (f : ℕ → Row → Row) where
  each_same : (k : ℕ) (one other : List (List Row)) → length one ≡ length other → ((i : ℕ) → IsPermutation (map (f (k + i)) (slice_index_or one i [])) (map (f (k + i)) (slice_index_or other i []))) → AreSame (each_table f k one) (each_table f k other)
  each_same k [] [] e h = tt
  each_same k [] (ys ∷ yss) e h = absurd (omega (arith, e))
  each_same k (xs ∷ xss) [] e h = absurd (omega (arith, e))
  each_same k (xs ∷ xss) (ys ∷ yss) e h =
      let here : k + 0 ≡ k = omega arith in (
        SameSums-IsPermutation (map (f k) xs) (map (f k) ys) (subst (λ n. IsPermutation (map (f n) xs) (map (f n) ys)) here (h 0)),
        each_same (k + 1) xss yss (omega (arith, e)) (λ i. let next : k + suc i ≡ k + 1 + i = omega arith in subst (λ n. IsPermutation (map (f n) (slice_index_or xss i [])) (map (f n) (slice_index_or yss i []))) next (h (suc i))),
      )

-- tables whose changed rows are the same bags have the same bag of combinations of them
pub same_combinations : (role : Name) (f : ℕ → Row → Row) (lefts : List BoundExpr) (one other : List (List Row)) → length one ≡ length other →
    ((i : ℕ) → IsPermutation (map (f i) (slice_index_or one i [])) (map (f i) (slice_index_or other i []))) →
    SameSums (left_combinations role lefts (each_table f 0 one)) (left_combinations role lefts (each_table f 0 other))
same_combinations role f lefts one other e h =
    subst (λ n. SameSums (left_combinations role lefts (each_table f 0 one)) (with_lefts role lefts (drop (n - length lefts) (each_table f 0 other)) (combinations (take (n - length lefts) (each_table f 0 other))))) counts
    (lefts_same role lefts _ _ _ _ (same_drop (length (each_table f 0 one) - length lefts) _ _ tables) (inner_same _ _ (same_take (length (each_table f 0 one) - length lefts) _ _ tables)))
  where
    zero_and : (i : ℕ) → i ≡ 0 + i
    zero_and i = omega arith

    tables : AreSame (each_table f 0 one) (each_table f 0 other)
    tables = each_same f 0 one other e (λ i. subst (λ n. IsPermutation (map (f n) (slice_index_or one i [])) (map (f n) (slice_index_or other i []))) (zero_and i) (h i))

    counts : length (each_table f 0 one) ≡ length (each_table f 0 other)
    counts = table_count f 0 one ∙ e ∙ sym (table_count f 0 other)
