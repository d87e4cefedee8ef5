-- The values of expressions on the groups of an admitted query are of their types.
use Rattle.std.proofs.Common.{◌≡◌, ℕ, zero, suc, ◌<◌, arith, List, [], ◌∷◌, length, get_or, Some, refl, subst}
use Rattle.std.specs.Prelude.{option_to_list}
use Rattle.std.specs.List.{All, Contains, flat_map}
use Rattle.std.proofs.lemmas.List.Elements.{All-contains, All-head, All-weaker, Contains-append_left, Contains-append_right}
use Rattle.expr.specs.Aggregates.{AggregateCall, aggregates}
use Rattle.expr.specs.Bound.{BoundExpr, Column}
use Rattle.value.specs.Names.{Name}
use Rattle.value.specs.declared.types.ColType.TheVariants.{Boolean}
use Rattle.eval.specs.Meaning.{meaning}
use Rattle.typing.specs.Typing.{TypeOf, column_type}
use Rattle.type_laws.specs.Laws.{GivesType}
use Rattle.type_laws.specs.Rules.{IsOfType}
use Rattle.type_laws.proofs.Outcomes.{gives_further}
use Rattle.type_laws.proofs.Values.{gives}
use Rattle.tuples.specs.Combinations.{Combination, joined_cells}
use Rattle.groups.specs.GroupRow.{GroupRow}
use Rattle.report.specs.QueryStages.{cells_of_group, item_aggregates, query_aggregates}
use Rattle.resolve.specs.Resolved.{Bound}
use Rattle.store.specs.Database.{Database}
use Rattle.query_laws.specs.Admitted.{HasPlainArgument, IsPlaced, IsPlain}
use Rattle.query_laws.specs.Values.{IsCombination}
use Rattle.query_laws.proofs.FittingValues.{values_are_of_types}
use Rattle.query_laws.proofs.Placed.{aggregates_are_placed}
use Rattle.query_laws.proofs.Typed.{admitted_are_typed}
use Rattle.group_laws.specs.Groups.{AggregatesHaveValues, HasItsValue}
use Rattle.group_laws.specs.GroupValues.{AreGroups, GivesOnGroups, HasAggregatesOf}
use Rattle.group_laws.proofs.Aggregates.{call_fits}
use Rattle.group_laws.proofs.Calls.{IsWritten, are_written, arguments_plain}
use Rattle.group_laws.proofs.Keys.{ColumnsFit, rows_fit}

-- what one of several lists contains, all of them do
contained : {X Y : Type 0} (f : X → List Y) (xs : List X) (k : ℕ) (d : X) (y : Y) → k < length xs → Contains (f (get_or xs k d)) y → Contains (flat_map f xs) y
contained f [] k d y lt h = absurd (omega (arith, lt))
contained f (x ∷ xs) zero d y lt h = Contains-append_left (f x) (flat_map f xs) y h
contained f (x ∷ xs) (suc k) d y lt h = Contains-append_right (f x) (flat_map f xs) y (contained f xs k d y (omega (arith, lt)) h)

module _ (values : AggregatesHaveValues) (database : Database) (role : Name) (text : List ℕ) (b : Bound) (groups : List GroupRow) (are : AreGroups database role text b groups) where
  placed : IsPlaced b.query
  placed = aggregates_are_placed database.catalog role text b are.is_admitted

  columns_fit : (c : Combination) → IsCombination database b.entries c → ColumnsFit b.entries (joined_cells c)
  columns_fit c is id = values_are_of_types database role text b c (Column id) (column_type b.entries id) are.well_formed are.is_admitted is refl refl

  -- the argument of an aggregate of the query gives values of its type on each combination
  argument_gives : (call : AggregateCall) → Contains (query_aggregates b.query) call → (e : BoundExpr) (a : TypeOf) → call.argument ≡ Some e → IsOfType b.entries e a → All (λ c. GivesType a (meaning (joined_cells c) role e)) are.these
  argument_gives call within e a is typed k d lt =
      let plain = All-contains HasPlainArgument (query_aggregates b.query) call (arguments_plain b.query placed) within in
      values_are_of_types database role text b (get_or are.these k d) e a are.well_formed are.is_admitted (are.combinations k d lt) typed
      (All-head IsPlain e [] (subst (λ o. All IsPlain (option_to_list o)) is plain))

  pub group_gives : (x : BoundExpr) (t : TypeOf) → IsOfType b.entries x t → HasAggregatesOf b.query x → GivesOnGroups role b.query groups x t
  group_gives x t typed within k d lt =
      let g = get_or groups k d in
      let q = b.query in
      gives b.entries (cells_of_group q g) role x t typed (record {
        columns = rows_fit b.entries role q are.these are.members groups (All-weaker _ _ columns_fit are.these are.combinations) are.members_are are.groups_are k d lt;
        aggregates = λ call of_x s h.
            call_fits role q.group_by g.key are.these b.entries call.aggregate call.offset call.argument s _ (All-contains IsWritten (aggregates x) call (are_written x) of_x) (argument_gives call (within call of_x)) h
            (All-contains (HasItsValue role q are.these g) (query_aggregates q) call (values database.catalog role text b are.these are.members groups are.is_admitted are.members_are are.groups_are k d lt) (within call of_x));
      })

  pub items_give : All (λ i. (t : TypeOf) × IsOfType b.entries i.value t × GivesOnGroups role b.query groups i.value t) b.query.items
  items_give k d lt =
      let item = get_or b.query.items k d in
      let has = (admitted_are_typed database.catalog role text b are.is_admitted).items k d lt in
      (has.0, has.1, group_gives item.value has.0 has.1 (λ call h. Contains-append_left _ _ call (contained item_aggregates b.query.items k d call lt h)))

  pub having_gives : All (λ e. GivesOnGroups role b.query groups e (Some Boolean)) (option_to_list b.query.having)
  having_gives k d lt =
      let having = option_to_list b.query.having in
      let has = (admitted_are_typed database.catalog role text b are.is_admitted).having k d lt in
      let given = group_gives (get_or having k d) has.0 has.1 (λ call h. Contains-append_right (flat_map item_aggregates b.query.items) _ call (contained aggregates having k d call lt h)) in
      λ i g l. gives_further has.0 (Some Boolean) (meaning (cells_of_group b.query (get_or groups i g)) role (get_or having k d)) (given i g l) has.2
