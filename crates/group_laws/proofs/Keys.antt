-- The cells of the key of a group are those of a combination of its class.
use Rattle.std.proofs.Common.{◌≡◌, inl, Bool, true, false, cond, map, List, [], ◌∷◌, Result, Ok, Err, refl, sym, subst}
use Rattle.std.specs.Prelude.{IfOk}
use Rattle.std.specs.List.{All}
use Rattle.std.proofs.lemmas.List.Elements.{All-cons, All-head, All-map, All-nil, All-tail}
use Rattle.std.proofs.lemmas.List.Sorted.{All-permutation, IsPermutation-sym}
use Rattle.bags.specs.Sorting.{sorted_by}
use Rattle.bags.proofs.Order.{IsPermutation-sorted_by}
use Rattle.value.specs.Datum.{Row}
use Rattle.value.specs.Names.{Name}
use Rattle.value.specs.Orders.{row_cmp}
use Rattle.value.specs.declared.faults.Fault.{Fault}
use Rattle.value.proofs.DatumOrder.{row_cmp_total}
use Rattle.expr.specs.declared.bound.ColumnId.{ColumnId}
use Rattle.expr.specs.Aggregates.{AggregateCall}
use Rattle.expr.specs.Bound.{is_column}
use Rattle.expr.specs.BoundQuery.{BoundQuery}
use Rattle.predicates.proofs.Equal.{column_exact}
use Rattle.eval.specs.Meaning.{Cells}
use Rattle.scope.specs.Entry.{Entry}
use Rattle.typing.specs.Typing.{column_type}
use Rattle.type_laws.specs.Rules.{HasType}
use Rattle.tuples.specs.Combinations.{Combination, joined_cells}
use Rattle.groups.specs.Groups.{Group, all_in_one, front_once, group_with, groups_of, keys, same_key, without_repeats}
use Rattle.groups.specs.GroupRow.{GroupRow, group_row, key_cell, with_totals}
use Rattle.groups.specs.Members.{Member, arguments, key_on, member_on, with_key}
use Rattle.groups.specs.Aggregates.{totals}
use Rattle.report.specs.QueryStages.{arguments_stage, query_aggregates, sums_stage}
use Rattle.group_laws.proofs.Kept.{all_given}

-- ---- keys, in order and each once

once : (P : Row → Type 0) (k : Row) (ls : List Row) → P k → All P ls → All P (front_once k ls)
once P k [] h all = All-cons P k [] h all
once P k (l ∷ ls) h all = go (same_key k l)
  where
    go : (b : Bool) → All P (cond b (k ∷ ls) (k ∷ l ∷ ls))
    go true = All-cons P k ls h (All-tail P l ls all)
    go false = All-cons P k (l ∷ ls) h all

all_once : (P : Row → Type 0) (ks : List Row) → All P ks → All P (without_repeats ks)
all_once P [] all = all
all_once P (k ∷ ks) all = once P k (without_repeats ks) (All-head P k ks all) (all_once P ks (All-tail P k ks all))

all_sorted : (P : Row → Type 0) (ks : List Row) → All P ks → All P (sorted_by row_cmp ks)
all_sorted P ks all = All-permutation P ks (sorted_by row_cmp ks) (IsPermutation-sym _ _ (IsPermutation-sorted_by row_cmp row_cmp_total ks)) all

-- ---- keys whose cells are of the types of their columns

module _ (entries : List Entry) where
  -- each cell of a row is of the type of its column, or null
  abbrev pub ColumnsFit : Cells → Type 0
  ColumnsFit cells = (id : ColumnId) → HasType (column_type entries id) (cells.column id)

  -- so is each of a key
  abbrev pub KeyFits : List ColumnId → Row → Type 0
  KeyFits columns key = (id : ColumnId) → HasType (column_type entries id) (key_cell columns key id)

  key_on_fits : (cells : Cells) (columns : List ColumnId) → ColumnsFit cells → KeyFits columns (key_on cells columns)
  key_on_fits cells [] fit id = inl refl
  key_on_fits cells (column ∷ columns) fit id = go (is_column column id) refl (key_on_fits cells columns fit id)
    where
      go : (b : Bool) → is_column column id ≡ b → HasType (column_type entries id) (key_cell columns (key_on cells columns) id) →
          HasType (column_type entries id) (cond b (cells.column column) (key_cell columns (key_on cells columns) id))
      go true is h = subst (λ i. HasType (column_type entries id) (cells.column i)) (sym (column_exact column id is)) (fit id)
      go false is h = h

  module _ (columns : List ColumnId) where
    with_key_fits : (key : Row) (r : Result Row Fault) → KeyFits columns key → IfOk (with_key key r) (λ m. KeyFits columns m.key)
    with_key_fits key (Ok arguments) h = h
    with_key_fits key (Err fault) h = tt

    member_fits : (cells : Cells) (role : Name) (calls : List AggregateCall) → ColumnsFit cells → IfOk (member_on cells role columns calls) (λ m. KeyFits columns m.key)
    member_fits cells role calls fit = with_key_fits (key_on cells columns) (arguments cells role calls) (key_on_fits cells columns fit)

    with_totals_fits : (key : Row) (r : Result Row Fault) → KeyFits columns key → IfOk (with_totals key r) (λ g. KeyFits columns g.key)
    with_totals_fits key (Ok totals) h = h
    with_totals_fits key (Err fault) h = tt

    row_fits : (calls : List AggregateCall) (group : Group) → KeyFits columns group.key → IfOk (group_row calls group) (λ g. KeyFits columns g.key)
    row_fits calls group h = with_totals_fits group.key (totals calls 0 group.members) h

    class_keys : (members : List Member) (ks : List Row) → All (KeyFits columns) ks → All (λ (g : Group). KeyFits columns g.key) (map (group_with members) ks)
    class_keys members ks h = All-map (λ (g : Group). KeyFits columns g.key) (group_with members) ks h

  -- ---- of the groups of members with such keys

  group_keys : (columns : List ColumnId) (members : List Member) → All (λ m. KeyFits columns m.key) members → All (λ (g : Group). KeyFits columns g.key) (groups_of columns members)
  group_keys [] members h = All-cons (λ (g : Group). KeyFits [] g.key) (all_in_one members) [] (λ id. inl refl) (All-nil (λ (g : Group). KeyFits [] g.key))
  group_keys (column ∷ columns) members h =
      let fits = KeyFits (column ∷ columns) in
      class_keys (column ∷ columns) members (without_repeats (sorted_by row_cmp (keys members)))
      (all_once fits (sorted_by row_cmp (keys members)) (all_sorted fits (keys members) (All-map fits (λ (m : Member). m.key) members h)))

  -- ---- of combinations whose columns fit

  module _ (role : Name) (q : BoundQuery) where
    pub rows_fit : (these : List Combination) (members : List Member) (groups : List GroupRow) → All (λ c. ColumnsFit (joined_cells c)) these → arguments_stage role q these ≡ Ok members → sums_stage role q members ≡ Ok groups →
        All (λ g. KeyFits q.group_by g.key) groups
    rows_fit these members groups fit members_are groups_are =
        let calls = query_aggregates q in
        let in_members =
        all_given (λ (m : Member). KeyFits q.group_by m.key) (λ c. member_on (joined_cells c) role q.group_by calls) these members (λ k d lt. member_fits q.group_by (joined_cells _) role calls (fit k d lt)) members_are in
        all_given (λ (g : GroupRow). KeyFits q.group_by g.key) (group_row calls) (groups_of q.group_by members) groups (λ k d lt. row_fits q.group_by calls _ (group_keys q.group_by members in_members k d lt)) groups_are
