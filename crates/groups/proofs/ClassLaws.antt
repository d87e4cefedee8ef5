-- The groups of members that come one after the other.
use Rattle.std.proofs.Common.{◌≡◌, ◌==◌, Bool, true, false, arith, length, cond, List, [], ◌∷◌, ◌++◌, map, filter, ◌<◌, refl, sym, ap, ap₂, subst, ◌∙◌, Ordering, Less, Equal, Greater, is_eq, Option, Some, None, unwrap_or, Vec}
use Rattle.std.specs.List.{AllByRecursion}
use Rattle.std.specs.List.Sorted.{IsStrictlySortedBy}
use Rattle.std.specs.Ordering.{match_ordering}
use Rattle.std.specs.Map.{keys_of, lookup}
use Rattle.std.specs.BTreeMap.{is_at, insert_entry}
use Rattle.std.proofs.lemmas.Bool.{eqb-true}
use Rattle.std.proofs.lemmas.Cmp.{on_total, tied_itself}
use Rattle.std.proofs.lemmas.List.{append-nil, length-map, map-append}
use Rattle.std.proofs.lemmas.List.Elements.{filter-append}
use Rattle.std.proofs.lemmas.Map.{lookup-none}
use Rattle.std.proofs.lemmas.Map.Entries.{none_below_head}
use Rattle.std.proofs.lemmas.Map.Keys.{sorted_tail}
use Rattle.bags.proofs.Order.{all_weaker}
use Rattle.value.specs.Datum.{Row}
use Rattle.value.specs.Orders.{row_cmp}
use Rattle.value.proofs.DatumOrder.{row_cmp_total}
use Rattle.expr.specs.declared.bound.ColumnId.{ColumnId}
use Rattle.expr.specs.Aggregates.{AggregateCall}
use Rattle.eval.specs.Meaning.{Outcome}
use Rattle.groups.specs.Stages.{gives, stage}
use Rattle.groups.specs.declared.keys.Key.{Key}
use Rattle.groups.specs.declared.totals.Total as code
use Rattle.groups.specs.Members.{Member}
use Rattle.groups.specs.Groups.{Group, same_key, has_key, group_with, all_in_one, classes, groups_of}
use Rattle.groups.specs.GroupRow.{group_row, group_rows, with_totals}
use Rattle.groups.specs.Classes.{grouped, put}
use Rattle.groups.specs.Running.{AreOutcomesInPlace, IsMemberInPlace, RunningGroup, Total, finished_row, finished_rows, fresh, put_running, running, running_group, running_groups, started, totals_for, with_arguments, with_member}
use Rattle.groups.specs.View.{key_of, running_in, running_of, total_of, totals_of}
use Rattle.groups.proofs.KeyLaws.{Rise, each_key, each_rises, put_key, each_key_more, none_has_it}
use Rattle.groups.proofs.RunningTotals.{all_finished_are, fresh_running, running_more, started_already}

-- ---- the group of one key, with one more member

of_others : (m : Member) (ms : List Member) (k : Row) → same_key m.key k ≡ false → group_with (ms ++ m ∷ []) k ≡ group_with ms k
of_others m ms k h =
    ap (λ l. grouped k (map (λ n. n.arguments) l)) (filter-append (has_key k) ms (m ∷ []) ∙ ap (λ b. filter (has_key k) ms ++ cond b (m ∷ []) []) h ∙ append-nil (filter (has_key k) ms))

of_its_key : (m : Member) (ms : List Member) (k : Row) → same_key m.key k ≡ true → group_with (ms ++ m ∷ []) k ≡ grouped k ((group_with ms k).members ++ m.arguments ∷ [])
of_its_key m ms k h =
    ap (λ l. grouped k (map (λ n. n.arguments) l)) (filter-append (has_key k) ms (m ∷ []) ∙ ap (λ b. filter (has_key k) ms ++ cond b (m ∷ []) []) h)
    ∙ ap (grouped k) (map-append (λ (n : Member). n.arguments) (filter (has_key k) ms) (m ∷ []))

alone : (m : Member) (ms : List Member) → filter (has_key m.key) ms ≡ [] → group_with (ms ++ m ∷ []) m.key ≡ grouped m.key (m.arguments ∷ [])
alone m ms none = of_its_key m ms m.key (ap is_eq (tied_itself row_cmp_total m.key)) ∙ ap (λ l. grouped m.key (map (λ n. n.arguments) l ++ m.arguments ∷ [])) none

-- ---- the groups of all keys, with one more member

others : (m : Member) (ms : List Member) (ks : List Row) → AllByRecursion (λ l. same_key m.key l ≡ false) ks → map (group_with (ms ++ m ∷ [])) ks ≡ map (group_with ms) ks
others m ms [] all = refl
others m ms (k ∷ ks) all = ap₂ ◌∷◌ (of_others m ms k all.0) (others m ms ks all.1)

put_each : (m : Member) (ms : List Member) (ks : List Row) → Rise ks → (AllByRecursion (λ l. same_key m.key l ≡ false) ks → filter (has_key m.key) ms ≡ []) →
    map (group_with (ms ++ m ∷ [])) (put_key m.key ks) ≡ put m (map (group_with ms) ks)
put_each m ms [] up none = ap (λ g. g ∷ []) (alone m ms (none tt))
put_each m ms (k ∷ ks) up none = go (row_cmp m.key k) refl (put_each m ms ks up.1)
  where
    go : (o : Ordering) → row_cmp m.key k ≡ o →
        ((AllByRecursion (λ l. same_key m.key l ≡ false) ks → filter (has_key m.key) ms ≡ []) → map (group_with (ms ++ m ∷ [])) (put_key m.key ks) ≡ put m (map (group_with ms) ks)) →
        map (group_with (ms ++ m ∷ [])) (match_ordering o (m.key ∷ k ∷ ks) (k ∷ ks) (k ∷ put_key m.key ks))
        ≡ match_ordering o (grouped m.key (m.arguments ∷ []) ∷ map (group_with ms) (k ∷ ks)) (grouped k ((group_with ms k).members ++ m.arguments ∷ []) ∷ map (group_with ms) ks) (group_with ms k ∷ put m (map (group_with ms) ks))
    go Less e more =
        let below : AllByRecursion (λ l. same_key m.key l ≡ false) (k ∷ ks) = (ap is_eq e, all_weaker _ _ (λ x f. ap is_eq (row_cmp_total.trans m.key k x e f)) ks up.0) in
        ap₂ ◌∷◌ (alone m ms (none below)) (others m ms (k ∷ ks) below)
    go Equal e more = ap₂ ◌∷◌ (of_its_key m ms k (ap is_eq e)) (others m ms ks (all_weaker _ _ (λ x f. ap is_eq (row_cmp_total.congr m.key k x e ∙ f)) ks up.0))
    go Greater e more = ap₂ ◌∷◌ (of_others m ms k (ap is_eq e)) (more (λ all. none (ap is_eq e, all)))

pub classes_more : (ms : List Member) (m : Member) → classes (ms ++ m ∷ []) ≡ put m (classes ms)
classes_more ms m = ap (map (group_with (ms ++ m ∷ []))) (each_key_more ms m) ∙ put_each m ms (each_key ms) (each_rises ms) (none_has_it m.key ms)

-- in the one group without GROUP BY
one_more : (ms : List Member) (m : Member) → m.key ≡ [] → all_in_one (ms ++ m ∷ []) ∷ [] ≡ put m (all_in_one ms ∷ [])
one_more ms m e =
    ap (λ l. grouped [] l ∷ []) (map-append (λ (n : Member). n.arguments) ms (m ∷ [])) ∙ ap (λ k. put (record { key = k; arguments = m.arguments }) (all_in_one ms ∷ [])) (sym e)

groups_more : (columns : List ColumnId) (ms : List Member) (m : Member) → (columns ≡ [] → m.key ≡ []) → groups_of columns (ms ++ m ∷ []) ≡ put m (groups_of columns ms)
groups_more [] ms m key = one_more ms m (key refl)
groups_more (column ∷ columns) ms m key = classes_more ms m

-- ---- the groups with their totals

abbrev runs : Row → List Total → RunningGroup
runs key ts = record { key = key; totals = ts }

module _ (calls : List AggregateCall) where
  first_member : (m : Member) → running_group calls (grouped m.key (m.arguments ∷ [])) ≡ with_member calls m.key [] m.arguments
  first_member m = ap (λ ts. runs m.key ts) (running_more calls [] m.arguments ∙ ap (λ ts. with_arguments ts m.arguments) (fresh_running calls))

  next_member : (m : Member) (g : Group) → running_group calls (grouped g.key (g.members ++ m.arguments ∷ [])) ≡ with_member calls g.key (running calls 0 g.members) m.arguments
  next_member m g = ap (λ ts. runs g.key ts) (running_more calls g.members m.arguments ∙ ap (λ ts. with_arguments ts m.arguments) (sym (started_already calls g.members)))

  -- one more member in groups is one more in their totals
  put_totals : (m : Member) (gs : List Group) → running_groups calls (put m gs) ≡ put_running calls m (running_groups calls gs)
  put_totals m [] = ap (λ g. g ∷ []) (first_member m)
  put_totals m (g ∷ gs) = go (row_cmp m.key g.key) (put_totals m gs)
    where
      go : (o : Ordering) → running_groups calls (put m gs) ≡ put_running calls m (running_groups calls gs) →
          running_groups calls (match_ordering o (grouped m.key (m.arguments ∷ []) ∷ g ∷ gs) (grouped g.key (g.members ++ m.arguments ∷ []) ∷ gs) (g ∷ put m gs))
          ≡ match_ordering o (with_member calls m.key [] m.arguments ∷ running_groups calls (g ∷ gs)) (with_member calls g.key (running calls 0 g.members) m.arguments ∷ running_groups calls gs) (running_group calls g ∷ put_running calls m (running_groups calls gs))
      go Less more = ap (λ h. h ∷ running_groups calls (g ∷ gs)) (first_member m)
      go Equal more = ap (λ h. h ∷ running_groups calls gs) (next_member m g)
      go Greater more = ap (λ hs. running_group calls g ∷ hs) more

  -- ---- the totals of a map

  module _ {A : Type 0} where
    abbrev pub key_cmp : Key A → Key A → Ordering
    key_cmp k l = row_cmp (key_of k) (key_of l)

    -- the totals at a key are those that were there, with one more member
    module _ (k : Key A) (start new : Vec (code.Total A) A) (before : Option (Vec (code.Total A) A)) (arguments : Row) (none : start.items ≡ [])
        (is : totals_of new.items ≡ with_arguments (started calls (totals_of (unwrap_or before start).items)) arguments) where
      abbrev m : Member
      m = record { key = key_of k; arguments = arguments }

      at_new : before ≡ None → totals_of new.items ≡ with_arguments (started calls []) arguments
      at_new e = is ∙ ap (λ o. with_arguments (started calls (totals_of (unwrap_or o start).items)) arguments) e ∙ ap (λ l. with_arguments (started calls (totals_of l)) arguments) none

      at_old : (old : Vec (code.Total A) A) → before ≡ Some old → totals_of new.items ≡ with_arguments (started calls (totals_of old.items)) arguments
      at_old old e = is ∙ ap (λ o. with_arguments (started calls (totals_of (unwrap_or o start).items)) arguments) e

      pub put_entry : (es : List (Key A × Vec (code.Total A) A)) → IsStrictlySortedBy key_cmp (keys_of es) → before ≡ lookup (is_at (key_cmp k)) es → running_in (insert_entry key_cmp es k new) ≡ put_running calls m (running_in es)
      put_entry [] up e = ap (λ ts. runs (key_of k) ts ∷ []) (at_new e)
      put_entry (f ∷ es) up e = go (key_cmp k f.0) refl (put_entry es (sorted_tail key_cmp f.0 (keys_of es) up))
        where
          go : (o : Ordering) → key_cmp k f.0 ≡ o → (before ≡ lookup (is_at (key_cmp k)) es → running_in (insert_entry key_cmp es k new) ≡ put_running calls m (running_in es)) →
              running_in (match_ordering o ((k, new) ∷ f ∷ es) ((f.0, new) ∷ es) (f ∷ insert_entry key_cmp es k new))
              ≡ match_ordering o (with_member calls m.key [] m.arguments ∷ running_in (f ∷ es)) (with_member calls (key_of f.0) (totals_of f.1.items) m.arguments ∷ running_in es) (running_of f ∷ put_running calls m (running_in es))
          go Less h more = ap (λ ts. runs (key_of k) ts ∷ running_in (f ∷ es)) (at_new (e ∙ lookup-none (is_at (key_cmp k)) (f ∷ es) (none_below_head (on_total (λ (l : Key A). key_of l) row_cmp_total) k f es up h)))
          go Equal h more = ap (λ ts. runs (key_of f.0) ts ∷ running_in es) (at_old f.1 (e ∙ ap (λ o. cond (is_eq o) (Some f.1) (lookup (is_at (key_cmp k)) es)) h))
          go Greater h more = ap (λ gs. running_of f ∷ gs) (more (e ∙ ap (λ o. cond (is_eq o) (Some f.1) (lookup (is_at (key_cmp k)) es)) h))

pub totals_more : (columns : List ColumnId) (calls : List AggregateCall) (ms : List Member) (m : Member) → (columns ≡ [] → m.key ≡ []) →
    put_running calls m (running_groups calls (groups_of columns ms)) ≡ running_groups calls (groups_of columns (ms ++ m ∷ []))
totals_more columns calls ms m key = sym (put_totals calls m (groups_of columns ms)) ∙ ap (running_groups calls) (sym (groups_more columns ms m key))

-- ---- the totals of a key in a map

module _ {A : Type 0} where
  -- those that are there, or none
  abbrev held : Option (Vec (code.Total A) A) → List Total
  held None = []
  held (Some totals) = totals_of totals.items

  held_or : (o : Option (Vec (code.Total A) A)) (start : Vec (code.Total A) A) → start.items ≡ [] → totals_of (unwrap_or o start).items ≡ held o
  held_or None start none = ap (λ l. totals_of l) none
  held_or (Some totals) start none = refl

  totals_there : (k : Key A) (es : List (Key A × Vec (code.Total A) A)) → totals_for (key_of k) (running_in es) ≡ held (lookup (is_at (λ l. row_cmp (key_of k) (key_of l))) es)
  totals_there k [] = refl
  totals_there k (e ∷ es) = go (same_key (key_of k) (key_of e.0)) (totals_there k es)
    where
      go : (b : Bool) → totals_for (key_of k) (running_in es) ≡ held (lookup (is_at (λ l. row_cmp (key_of k) (key_of l))) es) →
          cond b (totals_of e.1.items) (totals_for (key_of k) (running_in es)) ≡ held (cond b (Some e.1) (lookup (is_at (λ l. row_cmp (key_of k) (key_of l))) es))
      go true more = refl
      go false more = more

  -- a member in place has a group
  pub has_group : (k : Key A) (outcomes : List Outcome) (es : List (Key A × Vec (code.Total A) A)) → lookup (is_at (λ l. row_cmp (key_of k) (key_of l))) es ≡ None →
      IsMemberInPlace (key_of k) outcomes (running_in es) → ⊥
  has_group k outcomes es none place =
      let empty : totals_for (key_of k) (running_in es) ≡ [] = totals_there k es ∙ ap held none in
      omega (arith, subst (λ ts. 0 < length ts) empty place.0)

  -- its arguments are in place in the totals that are there
  pub arguments_in_place : (k : Key A) (outcomes : List Outcome) (es : List (Key A × Vec (code.Total A) A)) (o : Option (Vec (code.Total A) A)) (start : Vec (code.Total A) A) →
      o ≡ lookup (is_at (λ l. row_cmp (key_of k) (key_of l))) es → start.items ≡ [] → IsMemberInPlace (key_of k) outcomes (running_in es) →
      (0 < length (unwrap_or o start).items) × AreOutcomesInPlace (totals_of (unwrap_or o start).items) outcomes
  arguments_in_place k outcomes es o start is none place =
      let there = subst (λ ts. (0 < length ts) × AreOutcomesInPlace ts outcomes) (totals_there k es ∙ ap held (sym is) ∙ sym (held_or o start none)) place in
      (subst (λ n. 0 < n) (length-map (unwrap_or o start).items (λ t. total_of t)) there.0, there.1)

-- ---- the groups of no members

pub no_columns : (columns : List ColumnId) → (length columns == 0) ≡ true → groups_of columns [] ≡ all_in_one [] ∷ []
no_columns [] none = refl
no_columns (column ∷ columns) none = let zero : length (column ∷ columns) ≡ 0 = eqb-true _ _ none in absurd (omega (arith, zero))

pub only_group : (calls : List AggregateCall) (key : Row) (ts : List Total) → key ≡ [] → ts ≡ fresh calls → runs key ts ∷ [] ≡ running_groups calls (all_in_one [] ∷ [])
only_group calls key ts e f = ap₂ (λ k l. runs k l ∷ []) e (f ∙ sym (fresh_running calls))

-- ---- the rows of the groups

same_rows : (calls : List AggregateCall) (gs : List Group) → map (λ g. gives (finished_row calls g)) (running_groups calls gs) ≡ map (λ g. gives (group_row calls g)) gs
same_rows calls [] = refl
same_rows calls (g ∷ gs) = ap₂ (λ r l. gives (with_totals g.key r) ∷ l) (all_finished_are calls 0 g.members) (same_rows calls gs)

pub rows_finished : (columns : List ColumnId) (calls : List AggregateCall) (ms : List Member) → finished_rows calls (running_groups calls (groups_of columns ms)) ≡ group_rows columns calls ms
rows_finished columns calls ms = ap stage (same_rows calls (groups_of columns ms))
