-- A condition that sinks in the left joined entries, under some conditions, makes these under one more.
use Rattle.std.proofs.Common.{◌≡◌, ◌∙◌, refl, sym, ap, ap₂, ℕ, suc, ◌+◌, ◌<◌, Bool, true, false, ◌&&◌, ◌||◌, not, ◌==◌, nat_le, nat_lt, List, [], ◌∷◌, ◌++◌, length, filter, if◌then◌else◌, arith}
use Rattle.std.specs.List.{list_all}
use Rattle.std.proofs.lemmas.Bool as bools
use Rattle.std.proofs.lemmas.Bool.{both_ways, lt-ltb, ltb-true}
use Rattle.std.proofs.lemmas.Bool.Decides.{nat_tests}
use Rattle.expr.specs.declared.bound.ColumnId.{ColumnId}
use Rattle.expr.specs.Bound.{BoundExpr}
use Rattle.expr.specs.Columns.{columns}
use Rattle.predicates.proofs.Movables.{and_left, and_right}
use Rattle.predicates.proofs.Keeping.{both}
use Rattle.row_terms.specs.Terms.{Term, Raw, Filtered, LeftJoined, covers}
use Rattle.row_terms.specs.Written.{filters}
use Rattle.algebra.specs.Rules.{is_open}
use Rattle.algebra.specs.Runs.{reads_only}
use Rattle.trailcheck.specs.Entries.{names_entry, names_none, completes, is_over}
use Rattle.trailcheck.specs.Settings.{Setting}
use Rattle.trailcheck.specs.Shapes.{under_guard, with_left, left_over}
use Rattle.rewrite.specs.Placing.{passes, sunk}
use Rattle.rewrite.proofs.Opened.{under}
use Rattle.rewrite.proofs.Settled.{covers_filters, covers_guard, filter_with, filter_without, filters_with, sunk_passes, sunk_stays}
use Rattle.rewrite.proofs.Tests.{all_alike, all_follow, kept_pass, none_passes, not_then, some_passes, some_there}

-- it names only entries before that
abbrev pub reads_below : ℕ → BoundExpr → Bool
reads_below i e = list_all (λ id. nat_lt id.entry i) (columns e)

-- the term has the entries before that, and no other
abbrev pub CoversBelow : Term → ℕ → Type 0
CoversBelow x i = (k : ℕ) → covers x k ≡ nat_lt k i

module _ (i : ℕ) where
  lesser : (k : ℕ) → nat_lt k i ≡ true → nat_lt k (suc i) ≡ true
  lesser k h = grind (arith, nat_tests, h)

  apart : (k : ℕ) → nat_lt k i ≡ true → (k == i) ≡ false
  apart k h = grind (arith, nat_tests, h)

  between : (k : ℕ) → nat_lt k (suc i) ≡ true → nat_lt k i ≡ false → (k == i) ≡ true
  between k h n = grind (arith, nat_tests, h, n)

  pub together : (k : ℕ) → nat_lt k i || (i == k) ≡ nat_lt k (suc i)
  together k = go (nat_lt k i) refl (i == k) refl
    where
      go : (a : Bool) → nat_lt k i ≡ a → (b : Bool) → (i == k) ≡ b → a || b ≡ nat_lt k (suc i)
      go true e b o = let s : nat_lt k (suc i) ≡ true = grind (arith, nat_tests, e) in sym s
      go false e true o = let s : nat_lt k (suc i) ≡ true = grind (arith, nat_tests, e, o) in sym s
      go false e false o = let s : nat_lt k (suc i) ≡ false = grind (arith, nat_tests, e, o) in sym s

  pub up_to : (k : ℕ) → nat_le k i ≡ nat_lt k (suc i)
  up_to k = go (nat_le k i) refl
    where
      go : (a : Bool) → nat_le k i ≡ a → a ≡ nat_lt k (suc i)
      go true e = let s : nat_lt k (suc i) ≡ true = grind (arith, nat_tests, e) in sym s
      go false e = let s : nat_lt k (suc i) ≡ false = grind (arith, nat_tests, e) in sym s

  module _ (e : BoundExpr) where
    completes_by : completes i e ≡ names_entry e i && reads_below (suc i) e
    completes_by = ap (λ b. names_entry e i && b) (all_alike (λ (id : ColumnId). nat_le id.entry i) (λ id. nat_lt id.entry (suc i)) (λ id. up_to id.entry) (columns e))

    below_next : reads_below i e ≡ true → reads_below (suc i) e ≡ true
    below_next h = all_follow (λ (id : ColumnId). nat_lt id.entry i) (λ id. nat_lt id.entry (suc i)) (λ id q. lesser id.entry q) (columns e) h

    below_no : reads_below i e ≡ true → completes i e ≡ false
    below_no h = completes_by ∙ ap (λ b. b && reads_below (suc i) e) (none_passes (λ (id : ColumnId). nat_lt id.entry i) (λ id. id.entry == i) (λ id q. apart id.entry q) (columns e) h)

    later_no : reads_below (suc i) e ≡ false → completes i e ≡ false
    later_no h = completes_by ∙ bools.and_right (names_entry e i) (reads_below (suc i) e) h

    last_yes : reads_below i e ≡ false → reads_below (suc i) e ≡ true → completes i e ≡ true
    last_yes n h =
        completes_by
        ∙ both (names_entry e i) (reads_below (suc i) e) (some_passes (λ (id : ColumnId). nat_lt id.entry (suc i)) (λ id. nat_lt id.entry i) (λ id. id.entry == i) (λ id q m. between id.entry q m) (columns e) h n) h

    completing_is_over : (count : ℕ) → i < count → completes i e ≡ true → is_over count e ≡ true
    completing_is_over count less h =
        both (not (names_none e)) (reads_below count e) (some_there (λ (id : ColumnId). id.entry == i) (columns e) (and_left (names_entry e i) (list_all (λ id. nat_le id.entry i) (columns e)) h))
        (all_follow (λ (id : ColumnId). nat_le id.entry i) (λ id. nat_lt id.entry count) (λ id q. below id.entry q) (columns e) (and_right (names_entry e i) (list_all (λ id. nat_le id.entry i) (columns e)) h))
      where
        below : (k : ℕ) → nat_le k i ≡ true → nat_lt k count ≡ true
        below k q = let l = ltb-true k (suc i) (sym (up_to k) ∙ q) in lt-ltb k count (omega (arith, l))

module _ (at : Setting) (known : List BoundExpr) (e : BoundExpr) where
  abbrev count : ℕ
  count = length at.frame

  abbrev less : Setting
  less = under at known

  abbrev more : Setting
  more = under at (known ++ e ∷ [])

  abbrev side : ℕ → Term
  side i = under_guard at i (Raw i)

  reads : (i : ℕ) (x : Term) → CoversBelow x i → reads_only x e ≡ reads_below i e
  reads i x fits = all_alike (λ (id : ColumnId). covers x id.entry) (λ id. nat_lt id.entry i) (λ id. fits id.entry) (columns e)

  covers_left : (i : ℕ) (on : BoundExpr) (x : Term) → CoversBelow x i → CoversBelow (with_left less i on x) (suc i)
  covers_left i on x fits k =
      covers_filters (filter (completes i) known) (LeftJoined on x (side i)) k
      ∙ ap₂ ◌||◌ (fits k) (covers_guard at (is_open at.frame i) i (Raw i) k)
      ∙ together i k

  -- it stays below them
  pub goes_below_lefts : (ons : List BoundExpr) (i : ℕ) (x : Term) → CoversBelow x i → reads_below i e ≡ true → sunk count e (left_over less i ons x) ≡ left_over more i ons (sunk count e x)
  goes_below_lefts [] i x fits h = refl
  goes_below_lefts (on ∷ ons) i x fits h =
      let fs : List BoundExpr = filter (completes i) known in
      let r : reads_only x e ≡ true = reads i x fits ∙ h in
      goes_below_lefts ons (suc i) (with_left less i on x) (covers_left i on x fits) (below_next i e h)
      ∙ ap (left_over more (suc i) ons)
      (sunk_passes at e (filter (completes i) known) (LeftJoined on x (side i))
      (kept_pass (completes i) (λ a. passes count e a (LeftJoined on x (side i))) (λ a k. bools.or_right (not (is_over count a)) (reads_only x e) r) known)
      ∙ ap (λ b. filters (filter (completes i) known) (if b then LeftJoined on (sunk count e x) (side i) else Filtered e (LeftJoined on x (side i)))) r
      ∙ ap (λ l. filters l (LeftJoined on (sunk count e x) (side i))) (sym (filter_without (completes i) known e (below_no i e h))))

  -- it stays at the last entry that it names
  pub stays_at_left : (ons : List BoundExpr) (i : ℕ) (x : Term) → CoversBelow x i → i + length ons ≡ count → reads_below i e ≡ false → reads_below (i + length ons) e ≡ true → sunk count e (left_over less i ons x) ≡ left_over more i ons x
  stays_at_left [] i x fits l n h = let same : i + 0 ≡ i = omega arith in absurd (both_ways (reads_below i e) n (ap (λ k. reads_below k e) (sym same) ∙ h))
  stays_at_left (on ∷ ons) i x fits l n h =
      let next : i + length (on ∷ ons) ≡ suc i + length ons = omega arith in
      go (reads_below (suc i) e) refl (λ m. stays_at_left ons (suc i) (with_left less i on x) (covers_left i on x fits) (sym next ∙ l) m (ap (λ k. reads_below k e) (sym next) ∙ h))
    where
      r : reads_only x e ≡ false
      r = reads i x fits ∙ n

      here : completes i e ≡ true → sunk count e (with_left less i on x) ≡ with_left more i on x
      here c =
          let below : i < count = omega (arith, l) in
          sunk_stays at e (filter (completes i) known) (LeftJoined on x (side i)) (kept_pass (completes i) (is_over count) (λ a k. completing_is_over i a count below k) known) r
          (ap (λ b. if b then LeftJoined on (sunk count e x) (side i) else Filtered e (LeftJoined on x (side i))) r)
          ∙ sym (filters_with (filter (completes i) known) e (LeftJoined on x (side i)))
          ∙ ap (λ l. filters l (LeftJoined on x (side i))) (sym (filter_with (completes i) known e c))

      go : (b : Bool) → reads_below (suc i) e ≡ b → (reads_below (suc i) e ≡ false → sunk count e (left_over less (suc i) ons (with_left less i on x)) ≡ left_over more (suc i) ons (with_left less i on x)) →
          sunk count e (left_over less i (on ∷ ons) x) ≡ left_over more i (on ∷ ons) x
      go true m further =
          goes_below_lefts ons (suc i) (with_left less i on x) (covers_left i on x fits) m
          ∙ ap (left_over more (suc i) ons) (here (last_yes i e n m))
      go false m further =
          further m ∙ ap (λ l. left_over more (suc i) ons (filters l (LeftJoined on x (side i)))) (sym (filter_without (completes i) known e (later_no i e m)))

  -- it is not over entries of the query
  pub none_completes : (ons : List BoundExpr) (i : ℕ) (x : Term) → i + length ons ≡ count → is_over count e ≡ false → left_over more i ons x ≡ left_over less i ons x
  none_completes [] i x l other = refl
  none_completes (on ∷ ons) i x l other =
      let next : i + length (on ∷ ons) ≡ suc i + length ons = omega arith in
      let below : i < count = omega (arith, l) in
      let no : completes i e ≡ false = not_then (completes i e) (is_over count e) (completing_is_over i e count below) other in
      ap (λ l. left_over more (suc i) ons (filters l (LeftJoined on x (side i)))) (filter_without (completes i) known e no)
      ∙ none_completes ons (suc i) (with_left less i on x) (sym next ∙ l) other
