-- A condition that sinks in the entries that are not left joined, under some conditions, makes these under one more.
use Rattle.std.proofs.Common.{◌≡◌, ◌∙◌, refl, sym, ap, ap₂, subst, ℕ, ◌<◌, ◌⊎◌, inl, inr, Bool, true, false, ◌&&◌, ◌||◌, not, cond, ◌==◌, nat_lt, List, [], ◌∷◌, ◌++◌, length, filter, append-nil, append_assoc, if◌then◌else◌, arith}
use Rattle.std.specs.List.{list_all}
use Rattle.std.proofs.lemmas.Bool as bools
use Rattle.std.proofs.lemmas.Bool.{both_ways, eqb-true, lt-ltb, ltb-true, or_cases, or_from, or_left, or_right}
use Rattle.std.proofs.lemmas.List.Elements.{filter-append}
use Rattle.expr.specs.declared.bound.ColumnId.{ColumnId}
use Rattle.expr.specs.declared.code.CodeStep.{CodeStep}
use Rattle.expr.specs.Bound.{BoundExpr}
use Rattle.expr.specs.Columns.{columns}
use Rattle.predicates.proofs.Movables.{and_left, and_right}
use Rattle.predicates.proofs.Keeping.{both}
use Rattle.row_terms.specs.Terms.{Term, Raw, Guarded, Filtered, Joined, covers}
use Rattle.row_terms.specs.Written.{filters}
use Rattle.algebra.specs.Rules.{is_open}
use Rattle.algebra.specs.Runs.{reads_only}
use Rattle.trailcheck.specs.Entries.{is_among, names_entry, names_some, names_within, names_none, only_of, joins, is_over}
use Rattle.trailcheck.specs.Settings.{Setting, inner_count}
use Rattle.trailcheck.specs.Shapes.{entry_index, under_guard, scan, with_entry, joined_on}
use Rattle.rewrite.specs.Placing.{goes_deeper, passes, sunk}
use Rattle.trailcheck.proofs.Placed.{among_more}
use Rattle.rewrite.proofs.Distinct.{AreNew, placed_after}
use Rattle.rewrite.proofs.Opened.{under}
use Rattle.rewrite.proofs.Tests.{all_alike, all_follow, all_some, equal_turned, if_first, if_other, kept_pass, none_passes, not_then, some_passes, some_there}

-- ---- one condition more

pub filter_without : (test : BoundExpr → Bool) (known : List BoundExpr) (e : BoundExpr) → test e ≡ false → filter test (known ++ e ∷ []) ≡ filter test known
filter_without test known e h = filter-append test known (e ∷ []) ∙ ap (λ b. filter test known ++ cond b (e ∷ []) []) h ∙ append-nil (filter test known)

pub filter_with : (test : BoundExpr → Bool) (known : List BoundExpr) (e : BoundExpr) → test e ≡ true → filter test (known ++ e ∷ []) ≡ filter test known ++ e ∷ []
filter_with test known e h = filter-append test known (e ∷ []) ∙ ap (λ b. filter test known ++ cond b (e ∷ []) []) h

pub filters_with : (fs : List BoundExpr) (e : BoundExpr) (x : Term) → filters (fs ++ e ∷ []) x ≡ Filtered e (filters fs x)
filters_with [] e x = refl
filters_with (a ∷ fs) e x = filters_with fs e (Filtered a x)

pub covers_filters : (fs : List BoundExpr) (x : Term) (k : ℕ) → covers (filters fs x) k ≡ covers x k
covers_filters [] x k = refl
covers_filters (a ∷ fs) x k = covers_filters fs (Filtered a x) k

-- ---- the entries that a condition names, among the placed ones and one more

-- the entries of the condition are placed
abbrev pub is_ready : List ℕ → BoundExpr → Bool
is_ready placed e = list_all (λ id. is_among placed id.entry) (columns e)

-- they are the entry alone
abbrev pub is_local : ℕ → BoundExpr → Bool
is_local i e = list_all (λ id. id.entry == i) (columns e)

module _ (placed : List ℕ) (i : ℕ) (fresh : is_among placed i ≡ false) where
  placed_is_other : (k : ℕ) → is_among placed k ≡ true → (k == i) ≡ false
  placed_is_other k h = not_then (k == i) false (λ m. sym fresh ∙ subst (λ j. is_among placed j ≡ true) (eqb-true k i m) h) refl

  own_is_not_placed : (k : ℕ) → (k == i) ≡ true → is_among placed k ≡ false
  own_is_not_placed k h = ap (is_among placed) (eqb-true k i h) ∙ fresh

  module _ (e : BoundExpr) where
    ready_names_no : is_ready placed e ≡ true → names_entry e i ≡ false
    ready_names_no h = none_passes (λ (id : ColumnId). is_among placed id.entry) (λ id. id.entry == i) (λ id q. placed_is_other id.entry q) (columns e) h

    ready_joins_no : is_ready placed e ≡ true → joins e placed i ≡ false
    ready_joins_no h = ap (λ b. (b && names_some e placed) && names_within e placed i) (ready_names_no h)

    ready_only_no : is_ready placed e ≡ true → only_of e i ≡ false
    ready_only_no h = ap (λ b. b && is_local i e) (ready_names_no h)

    -- where they are not placed before the entry and are with it, it is one of them
    names_it : is_ready placed e ≡ false → names_within e placed i ≡ true → names_entry e i ≡ true
    names_it h w =
        some_passes (λ (id : ColumnId). (id.entry == i) || is_among placed id.entry) (λ id. is_among placed id.entry) (λ id. id.entry == i) (λ id p q. if_first (id.entry == i) (is_among placed id.entry) p q)
        (columns e) w h

    local_joins_no : is_local i e ≡ true → joins e placed i ≡ false
    local_joins_no h =
        let none : names_some e placed ≡ false = none_passes (λ (id : ColumnId). id.entry == i) (λ id. is_among placed id.entry) (λ id q. own_is_not_placed id.entry q) (columns e) h in
        bools.and_left (names_entry e i && names_some e placed) (names_within e placed i) (bools.and_right (names_entry e i) (names_some e placed) none)

    does_join : is_ready placed e ≡ false → names_within e placed i ≡ true → is_local i e ≡ false → joins e placed i ≡ true
    does_join h w o =
        let some : names_some e placed ≡ true =
        some_passes (λ (id : ColumnId). (id.entry == i) || is_among placed id.entry) (λ id. id.entry == i) (λ id. is_among placed id.entry) (λ id p q. if_other (id.entry == i) (is_among placed id.entry) p q)
        (columns e) w o
        in
        both (names_entry e i && names_some e placed) (names_within e placed i) (both (names_entry e i) (names_some e placed) (names_it h w) some) w

module _ (placed : List ℕ) (i : ℕ) (e : BoundExpr) where
  far_joins_no : names_within e placed i ≡ false → joins e placed i ≡ false
  far_joins_no h = bools.and_right (names_entry e i && names_some e placed) (names_within e placed i) h

  far_only_no : names_within e placed i ≡ false → only_of e i ≡ false
  far_only_no h =
      bools.and_right (names_entry e i) (is_local i e)
      (not_then (is_local i e) (names_within e placed i) (λ o. all_follow (λ (id : ColumnId). id.entry == i) (λ id. (id.entry == i) || is_among placed id.entry) (λ id q. or_left (id.entry == i) (is_among placed id.entry) q) (columns e) o) h)

  -- the entries are placed with one more
  ready_next : is_ready (placed ++ i ∷ []) e ≡ names_within e placed i
  ready_next =
      all_alike (λ (id : ColumnId). is_among (placed ++ i ∷ []) id.entry) (λ id. (id.entry == i) || is_among placed id.entry)
      (λ id. among_more placed i id.entry ∙ ap (λ b. b || is_among placed id.entry) (equal_turned i id.entry)) (columns e)

-- ---- the terms of a shape

module _ (at : Setting) where
  abbrev count : ℕ
  count = length at.frame

  -- so many come before the left joined ones
  abbrev inner : ℕ
  inner = inner_count at

  -- only entries that are there are placed
  abbrev pub AreThere : List ℕ → Type 0
  AreThere placed = (k : ℕ) → is_among placed k ≡ true → nat_lt k inner ≡ true

  pub there_next : (placed : List ℕ) (i : ℕ) → AreThere placed → i < inner → AreThere (placed ++ i ∷ [])
  there_next placed i there less k h = go (or_cases (i == k) (is_among placed k) (sym (among_more placed i k) ∙ h))
    where
      go : ((i == k) ≡ true) ⊎ (is_among placed k ≡ true) → nat_lt k inner ≡ true
      go (inl e) = subst (λ j. nat_lt j inner ≡ true) (eqb-true i k e) (lt-ltb i inner less)
      go (inr m) = there k m

  own_is_there : (i : ℕ) → i < inner → (k : ℕ) → (k == i) ≡ true → nat_lt k inner ≡ true
  own_is_there i less k h = subst (λ j. nat_lt j inner ≡ true) (sym (eqb-true k i h)) (lt-ltb i inner less)

  only_is_over : (i : ℕ) → i < inner → (a : BoundExpr) → only_of a i ≡ true → is_over inner a ≡ true
  only_is_over i less a h =
      both (not (names_none a)) (list_all (λ id. nat_lt id.entry inner) (columns a))
      (some_there (λ (id : ColumnId). id.entry == i) (columns a) (and_left (names_entry a i) (is_local i a) h))
      (all_follow (λ (id : ColumnId). id.entry == i) (λ id. nat_lt id.entry inner) (λ id q. own_is_there i less id.entry q) (columns a) (and_right (names_entry a i) (is_local i a) h))

  joining_is_over : (placed : List ℕ) (i : ℕ) → AreThere placed → i < inner → (a : BoundExpr) → joins a placed i ≡ true → is_over inner a ≡ true
  joining_is_over placed i there less a h =
      both (not (names_none a)) (list_all (λ id. nat_lt id.entry inner) (columns a))
      (some_there (λ (id : ColumnId). id.entry == i) (columns a) (and_left (names_entry a i) (names_some a placed) (and_left (names_entry a i && names_some a placed) (names_within a placed i) h)))
      (all_follow (λ (id : ColumnId). (id.entry == i) || is_among placed id.entry) (λ id. nat_lt id.entry inner) (λ id q. go id.entry (or_cases (id.entry == i) (is_among placed id.entry) q)) (columns a)
      (and_right (names_entry a i && names_some a placed) (names_within a placed i) h))
    where
      go : (k : ℕ) → ((k == i) ≡ true) ⊎ (is_among placed k ≡ true) → nat_lt k inner ≡ true
      go k (inl q) = own_is_there i less k q
      go k (inr q) = there k q

  pub over_more : (a : BoundExpr) → is_over inner a ≡ true → is_over count a ≡ true
  over_more a h =
      both (not (names_none a)) (list_all (λ id. nat_lt id.entry count) (columns a))
      (and_left (not (names_none a)) (list_all (λ id. nat_lt id.entry inner) (columns a)) h)
      (all_follow (λ (id : ColumnId). nat_lt id.entry inner) (λ id. nat_lt id.entry count) (λ id q. let l = ltb-true id.entry inner q in lt-ltb id.entry count (omega (arith, l))) (columns a)
      (and_right (not (names_none a)) (list_all (λ id. nat_lt id.entry inner) (columns a)) h))

  pub covers_guard : (b : Bool) (i : ℕ) (x : Term) (k : ℕ) → covers (if b then x else Guarded i x) k ≡ covers x k
  covers_guard true i x k = refl
  covers_guard false i x k = refl

  pub covers_scan : (known : List BoundExpr) (i k : ℕ) → covers (scan (under at known) i) k ≡ (i == k)
  covers_scan known i k =
      covers_guard (is_open at.frame i) i (filters (filter (λ a. only_of a i) known) (Raw i)) k
      ∙ covers_filters (filter (λ a. only_of a i) known) (Raw i) k

  scan_reads : (known : List BoundExpr) (i : ℕ) (e : BoundExpr) → reads_only (scan (under at known) i) e ≡ is_local i e
  scan_reads known i e =
      all_alike (λ (id : ColumnId). covers (scan (under at known) i) id.entry) (λ id. id.entry == i) (λ id. covers_scan known i id.entry ∙ equal_turned i id.entry) (columns e)

  -- the term has the placed entries
  abbrev pub Covers : Term → List ℕ → Type 0
  Covers x placed = (k : ℕ) → covers x k ≡ is_among placed k

  pub covers_next : (known : List BoundExpr) (placed : List ℕ) (i : ℕ) (x : Term) → Covers x placed → Covers (with_entry (under at known) placed x i) (placed ++ i ∷ [])
  covers_next known placed i x fits k =
      covers_filters (filter (λ a. joins a placed i) known) (Joined x (scan (under at known) i)) k
      ∙ ap₂ ◌||◌ (fits k) (covers_scan known i k)
      ∙ or_turned (is_among placed k) (i == k)
      ∙ sym (among_more placed i k)
    where
      or_turned : (a b : Bool) → a || b ≡ b || a
      or_turned true true = refl
      or_turned true false = refl
      or_turned false true = refl
      or_turned false false = refl

  -- ---- a condition that sinks through filters

  pub sunk_passes : (e : BoundExpr) (fs : List BoundExpr) (x : Term) → list_all (λ a. passes count e a x) fs ≡ true → sunk count e (filters fs x) ≡ filters fs (sunk count e x)
  sunk_passes e [] x h = refl
  sunk_passes e (a ∷ fs) x h =
      sunk_passes e fs (Filtered a x) (and_right (passes count e a x) (list_all (λ a. passes count e a x) fs) h)
      ∙ ap (λ b. filters fs (if b then Filtered a (sunk count e x) else Filtered e (Filtered a x))) (and_left (passes count e a x) (list_all (λ a. passes count e a x) fs) h)

  pub sunk_stays : (e : BoundExpr) (fs : List BoundExpr) (x : Term) → list_all (is_over count) fs ≡ true → goes_deeper e x ≡ false → sunk count e x ≡ Filtered e x → sunk count e (filters fs x) ≡ Filtered e (filters fs x)
  sunk_stays e [] x h d s = s
  sunk_stays e (a ∷ fs) x h d s =
      sunk_stays e fs (Filtered a x) (and_right (is_over count a) (list_all (is_over count) fs) h) d
      (ap₂ (λ b c. if not b || c then Filtered a (sunk count e x) else Filtered e (Filtered a x)) (and_left (is_over count a) (list_all (is_over count) fs) h) d)

  module _ (known : List BoundExpr) (e : BoundExpr) where
    abbrev less : Setting
    less = under at known

    abbrev more : Setting
    more = under at (known ++ e ∷ [])

    -- ---- the rows of an entry

    scan_same : (i : ℕ) → only_of e i ≡ false → scan more i ≡ scan less i
    scan_same i h = ap (λ l. under_guard at i (filters l (Raw i))) (filter_without (λ a. only_of a i) known e h)

    guard_sinks : (b : Bool) (i : ℕ) (x : Term) → sunk count e (if b then x else Guarded i x) ≡ (if b then sunk count e x else Guarded i (sunk count e x))
    guard_sinks true i x = refl
    guard_sinks false i x = refl

    scan_sinks : (i : ℕ) → i < inner → only_of e i ≡ true → sunk count e (scan less i) ≡ scan more i
    scan_sinks i below h =
        let test : BoundExpr → Bool = λ a. only_of a i in
        guard_sinks (is_open at.frame i) i (filters (filter test known) (Raw i))
        ∙ ap (under_guard at i)
        (sunk_stays e (filter test known) (Raw i) (kept_pass test (is_over count) (λ a k. over_more a (only_is_over i below a k)) known) refl refl
        ∙ sym (filters_with (filter test known) e (Raw i))
        ∙ ap (λ l. filters l (Raw i)) (sym (filter_with test known e h)))

    -- ---- one more entry

    entry_same : (placed : List ℕ) (x : Term) (i : ℕ) → joins e placed i ≡ false → only_of e i ≡ false → with_entry more placed x i ≡ with_entry less placed x i
    entry_same placed x i j o = ap₂ (λ l t. filters l (Joined x t)) (filter_without (λ a. joins a placed i) known e j) (scan_same i o)

    module _ (placed : List ℕ) (x : Term) (i : ℕ) (fits : Covers x placed) (fresh : is_among placed i ≡ false) (below : i < inner) where
      abbrev test : BoundExpr → Bool
      test a = joins a placed i

      abbrev on_joined : Bool → Bool → Term
      on_joined b c = if b then Joined (sunk count e x) (scan less i) else if c then Joined x (sunk count e (scan less i)) else Filtered e (Joined x (scan less i))

      left_reads : reads_only x e ≡ is_ready placed e
      left_reads = all_alike (λ (id : ColumnId). covers x id.entry) (λ id. is_among placed id.entry) (λ id. fits id.entry) (columns e)

      -- it goes down to a side
      deeper : reads_only x e || reads_only (scan less i) e ≡ true → (b c : Bool) → reads_only x e ≡ b → reads_only (scan less i) e ≡ c → sunk count e (with_entry less placed x i) ≡ filters (filter test known) (on_joined b c)
      deeper d b c p q =
          sunk_passes e (filter test known) (Joined x (scan less i))
          (kept_pass test (λ a. passes count e a (Joined x (scan less i))) (λ a k. or_right (not (is_over count a)) (reads_only x e || reads_only (scan less i) e) d) known)
          ∙ ap₂ (λ b c. filters (filter test known) (on_joined b c)) p q

      goes_left : is_ready placed e ≡ true → sunk count e (with_entry less placed x i) ≡ with_entry more placed (sunk count e x) i
      goes_left ready =
          let r = left_reads ∙ ready in
          deeper (or_left (reads_only x e) (reads_only (scan less i) e) r) true (reads_only (scan less i) e) r refl
          ∙ sym (entry_same placed (sunk count e x) i (ready_joins_no placed i fresh e ready) (ready_only_no placed i fresh e ready))

      module _ (waits : is_ready placed e ≡ false) (within : names_within e placed i ≡ true) where
        goes_right : is_local i e ≡ true → sunk count e (with_entry less placed x i) ≡ with_entry more placed x i
        goes_right own =
            let r = scan_reads known i e ∙ own in
            deeper (or_right (reads_only x e) (reads_only (scan less i) e) r) false true (left_reads ∙ waits) r
            ∙ ap₂ (λ l t. filters l (Joined x t)) (sym (filter_without test known e (local_joins_no placed i fresh e own)))
            (scan_sinks i below (both (names_entry e i) (is_local i e) (names_it placed i fresh e waits within) own))

        stays_there : AreThere placed → is_local i e ≡ false → sunk count e (with_entry less placed x i) ≡ with_entry more placed x i
        stays_there there other =
            let p = left_reads ∙ waits in
            let q = scan_reads known i e ∙ other in
            sunk_stays e (filter test known) (Joined x (scan less i)) (kept_pass test (is_over count) (λ a k. over_more a (joining_is_over placed i there below a k)) known)
            (or_from (reads_only x e) (reads_only (scan less i) e) p q) (ap₂ on_joined p q)
            ∙ sym (filters_with (filter test known) e (Joined x (scan less i)))
            ∙ ap₂ (λ l t. filters l (Joined x t)) (sym (filter_with test known e (does_join placed i fresh e waits within other)))
            (sym (scan_same i (bools.and_right (names_entry e i) (is_local i e) other)))

        comes : AreThere placed → sunk count e (with_entry less placed x i) ≡ with_entry more placed x i
        comes there = go (is_local i e) refl
          where
            go : (b : Bool) → is_local i e ≡ b → sunk count e (with_entry less placed x i) ≡ with_entry more placed x i
            go true own = goes_right own
            go false other = stays_there there other

    -- ---- all entries

    -- the entries of the condition are placed
    goes_below : (ss : List CodeStep) (placed : List ℕ) (x : Term) → Covers x placed → AreNew inner placed ss → is_ready placed e ≡ true → sunk count e (joined_on less placed x ss) ≡ joined_on more placed (sunk count e x) ss
    goes_below [] placed x fits new ready = refl
    goes_below (s ∷ ss) placed x fits new ready =
        let i = entry_index s in
        goes_below ss (placed ++ i ∷ []) (with_entry less placed x i) (covers_next known placed i x fits) new.2
        (all_follow (λ (id : ColumnId). is_among placed id.entry) (λ id. is_among (placed ++ i ∷ []) id.entry) (λ id q. among_more placed i id.entry ∙ or_right (i == id.entry) (is_among placed id.entry) q) (columns e) ready)
        ∙ ap (λ t. joined_on more (placed ++ i ∷ []) t ss) (goes_left placed x i fits new.1 new.0 ready)

    -- some will be placed
    comes_later : (ss : List CodeStep) (placed : List ℕ) (x : Term) → Covers x placed → AreThere placed → AreNew inner placed ss → is_ready placed e ≡ false → is_ready (placed_after placed ss) e ≡ true →
        sunk count e (joined_on less placed x ss) ≡ joined_on more placed x ss
    comes_later [] placed x fits there new waits in_end = absurd (both_ways (is_ready placed e) waits in_end)
    comes_later (s ∷ ss) placed x fits there new waits in_end =
        go (names_within e placed (entry_index s)) refl
        (λ k. comes_later ss (placed ++ entry_index s ∷ []) (with_entry less placed x (entry_index s)) (covers_next known placed (entry_index s) x fits) (there_next placed (entry_index s) there new.0) new.2 k in_end)
      where
        next : sunk count e (joined_on less placed x (s ∷ ss)) ≡ sunk count e (joined_on less (placed ++ entry_index s ∷ []) (with_entry less placed x (entry_index s)) ss)
        next = refl

        go : (b : Bool) → names_within e placed (entry_index s) ≡ b →
            (is_ready (placed ++ entry_index s ∷ []) e ≡ false → sunk count e (joined_on less (placed ++ entry_index s ∷ []) (with_entry less placed x (entry_index s)) ss) ≡ joined_on more (placed ++ entry_index s ∷ []) (with_entry less placed x (entry_index s)) ss) →
            sunk count e (joined_on less (placed ++ entry_index s ∷ []) (with_entry less placed x (entry_index s)) ss) ≡ joined_on more (placed ++ entry_index s ∷ []) (with_entry more placed x (entry_index s)) ss
        go true within further =
            goes_below ss (placed ++ entry_index s ∷ []) (with_entry less placed x (entry_index s)) (covers_next known placed (entry_index s) x fits) new.2 (ready_next placed (entry_index s) e ∙ within)
            ∙ ap (λ t. joined_on more (placed ++ entry_index s ∷ []) t ss) (comes placed x (entry_index s) fits new.1 new.0 waits within there)
        go false far further =
            further (ready_next placed (entry_index s) e ∙ far)
            ∙ ap (λ t. joined_on more (placed ++ entry_index s ∷ []) t ss) (sym (entry_same placed x (entry_index s) (far_joins_no placed (entry_index s) e far) (far_only_no placed (entry_index s) e far)))

    -- it is not over these entries
    not_among : (ss : List CodeStep) (placed : List ℕ) (x : Term) → AreThere placed → AreNew inner placed ss → is_over inner e ≡ false → joined_on more placed x ss ≡ joined_on less placed x ss
    not_among [] placed x there new other = refl
    not_among (s ∷ ss) placed x there new other =
        let i = entry_index s in
        ap (λ t. joined_on more (placed ++ i ∷ []) t ss)
        (entry_same placed x i (not_then (joins e placed i) (is_over inner e) (joining_is_over placed i there new.0 e) other) (not_then (only_of e i) (is_over inner e) (only_is_over i new.0 e) other))
        ∙ not_among ss (placed ++ i ∷ []) (with_entry less placed x i) (there_next placed i there new.0) new.2 other

    module _ (s : CodeStep) (ss : List CodeStep) (new : AreNew inner [] (s ∷ ss)) (all : (k : ℕ) → k < inner → is_among (placed_after [] (s ∷ ss)) k ≡ true) where
      abbrev first : ℕ
      first = entry_index s

      first_there : AreThere (first ∷ [])
      first_there = there_next [] first (λ k h. absurd (cc)) new.0

      first_covers : Covers (scan less first) (first ∷ [])
      first_covers k = covers_scan known first k ∙ alone (first == k)
        where
          alone : (b : Bool) → b ≡ b || false
          alone true = refl
          alone false = refl

      pub sinks_in : is_over inner e ≡ true → sunk count e (joined_on less (first ∷ []) (scan less first) ss) ≡ joined_on more (first ∷ []) (scan more first) ss
      sinks_in over = go (is_ready (first ∷ []) e) refl
        where
          some : not (names_none e) ≡ true
          some = and_left (not (names_none e)) (list_all (λ id. nat_lt id.entry inner) (columns e)) over

          alone : is_ready (first ∷ []) e ≡ is_local first e
          alone = ready_next [] first e ∙ all_alike (λ (id : ColumnId). (id.entry == first) || false) (λ id. id.entry == first) (λ id. or_none (id.entry == first)) (columns e)
            where
              or_none : (b : Bool) → b || false ≡ b
              or_none true = refl
              or_none false = refl

          in_end : is_ready (placed_after (first ∷ []) ss) e ≡ true
          in_end =
              all_follow (λ (id : ColumnId). nat_lt id.entry inner) (λ id. is_among (placed_after (first ∷ []) ss) id.entry) (λ id q. all id.entry (ltb-true id.entry inner q)) (columns e)
              (and_right (not (names_none e)) (list_all (λ id. nat_lt id.entry inner) (columns e)) over)

          go : (b : Bool) → is_ready (first ∷ []) e ≡ b → sunk count e (joined_on less (first ∷ []) (scan less first) ss) ≡ joined_on more (first ∷ []) (scan more first) ss
          go true ready =
              let own = sym alone ∙ ready in
              goes_below ss (first ∷ []) (scan less first) first_covers new.2 ready
              ∙ ap (λ t. joined_on more (first ∷ []) t ss)
              (scan_sinks first new.0 (both (names_entry e first) (is_local first e) (all_some (λ (id : ColumnId). id.entry == first) (columns e) some own) own))
          go false waits =
              comes_later ss (first ∷ []) (scan less first) first_covers first_there new.2 waits in_end
              ∙ ap (λ t. joined_on more (first ∷ []) t ss) (sym (scan_same first (bools.and_right (names_entry e first) (is_local first e) (sym alone ∙ waits))))

      pub stays_out : is_over inner e ≡ false → joined_on more (first ∷ []) (scan more first) ss ≡ joined_on less (first ∷ []) (scan less first) ss
      stays_out other =
          ap (λ t. joined_on more (first ∷ []) t ss) (scan_same first (not_then (only_of e first) (is_over inner e) (only_is_over first new.0 e) other))
          ∙ not_among ss (first ∷ []) (scan less first) first_there new.2 other
