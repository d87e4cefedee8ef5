-- Evaluation depends only on the columns that the query names.
use Rattle.std.proofs.Common.{◌≡◌, ℕ, zero, suc, ◌-◌, Bool, true, false, ◌&&◌, cond, List, [], ◌∷◌, ◌++◌, length, filter, take, drop, option_to_list, refl, sym, ap, ap₂, ◌∙◌, append-nil, subst, arith, Option, Some, None, Contains, ◌⊎◌, inl, inr}
use Rattle.std.specs.List.{All, flat_map, list_all}
use Rattle.std.proofs.lemmas.Grind.{flat_map-append}
use Rattle.std.proofs.lemmas.List.Elements.{All-cons, All-nil, Contains-append_cases}
use Rattle.value.specs.Names.{Name}
use Rattle.expr.specs.declared.bound.ColumnId.{ColumnId}
use Rattle.expr.specs.Bound as bound
use Rattle.expr.specs.Bound.{BoundExpr, BoundExprs, BoundArms, BoundOtherwise}
use Rattle.expr.specs.Columns.{columns, all_columns, arms_columns, otherwise_columns}
use Rattle.expr.specs.Aggregates.{AggregateCall, aggregates, all_aggregates, arms_aggregates, otherwise_aggregates}
use Rattle.eval.specs.Meaning.{Cells, holds}
use Rattle.eval.specs.Laws.{AgreeOn}
use Rattle.eval.proofs.Agreement.{agree_left, agree_right, same_meaning, same_holds}
use Rattle.memory.specs.Results.{first_then}
use Rattle.groups.specs.Members.{argument, arguments, key_on, with_key, member_on}
use Rattle.expr.specs.BoundQuery.{BoundItem, BoundQuery}
use Rattle.expr.specs.Conjuncts.{members, conjuncts_of, conjuncts_in, conjuncts, inner_ons, left_ons}
use Rattle.expr.specs.NamedColumns.{item_columns, condition_columns, named_columns}
use Rattle.report.specs.QueryStages.{truth_in, unless_dropped, keeps, values_of, item_aggregates, query_aggregates}

-- ---- the columns of conjuncts

members_columns : (es : BoundExprs) → flat_map columns (members es) ≡ all_columns es
members_columns bound.no_expr = refl
members_columns (bound.one_expr e es) = ap (λ ids. columns e ++ ids) (members_columns es)

conjunct_columns : (e : BoundExpr) → flat_map columns (conjuncts_of e) ≡ columns e
conjunct_columns (bound.And offset es) = members_columns es
conjunct_columns (bound.Column id) = append-nil (columns (bound.Column id))
conjunct_columns (bound.Literal d) = refl
conjunct_columns bound.CurrentUser = refl
conjunct_columns (bound.Negate offset e) = append-nil (columns (bound.Negate offset e))
conjunct_columns (bound.Arithmetic op offset e f) = append-nil (columns (bound.Arithmetic op offset e f))
conjunct_columns (bound.Comparison op offset e f) = append-nil (columns (bound.Comparison op offset e f))
conjunct_columns (bound.Between negated offset e low high) = append-nil (columns (bound.Between negated offset e low high))
conjunct_columns (bound.In negated offset values e) = append-nil (columns (bound.In negated offset values e))
conjunct_columns (bound.IsNull negated offset e) = append-nil (columns (bound.IsNull negated offset e))
conjunct_columns (bound.Not offset e) = append-nil (columns (bound.Not offset e))
conjunct_columns (bound.Or offset es) = append-nil (columns (bound.Or offset es))
conjunct_columns (bound.Cast offset to e) = append-nil (columns (bound.Cast offset to e))
conjunct_columns (bound.Case offset as_ o) = append-nil (columns (bound.Case offset as_ o))
conjunct_columns (bound.CountStar offset) = refl
conjunct_columns (bound.Call f offset e) = append-nil (columns (bound.Call f offset e))

condition_conjuncts : (condition : Option BoundExpr) → flat_map columns (conjuncts_in condition) ≡ condition_columns condition
condition_conjuncts None = refl
condition_conjuncts (Some e) = conjunct_columns e

ons_conjuncts : (ons : List (Option BoundExpr)) → flat_map columns (flat_map conjuncts_in ons) ≡ flat_map condition_columns ons
ons_conjuncts [] = refl
ons_conjuncts (on ∷ ons) = flat_map-append columns (conjuncts_in on) (flat_map conjuncts_in ons) ∙ ap₂ ◌++◌ (condition_conjuncts on) (ons_conjuncts ons)

query_conjuncts : (q : BoundQuery) → flat_map columns (conjuncts q) ≡ flat_map condition_columns (inner_ons q) ++ condition_columns q.filter
query_conjuncts q = flat_map-append columns (flat_map conjuncts_in (inner_ons q)) (conjuncts_in q.filter) ∙ ap₂ ◌++◌ (ons_conjuncts (inner_ons q)) (condition_conjuncts q.filter)

-- the ONs as they are written
pub whole_ons : (ons : List (Option BoundExpr)) → flat_map columns (flat_map option_to_list ons) ≡ flat_map condition_columns ons
whole_ons [] = refl
whole_ons (None ∷ ons) = whole_ons ons
whole_ons (Some e ∷ ons) = ap (λ ids. columns e ++ ids) (whole_ons ons)

-- ---- evaluation on cells that are the same in the columns that are named

module _ (one other : Cells) where
  agree_none : (ids : List ColumnId) → AgreeOn ids one other → AgreeOn [] one other
  agree_none ids h = record { columns = λ id c. absurd (omega (arith, c.1)); aggregates = h.aggregates }

  agree_append : (xs ys : List ColumnId) → AgreeOn xs one other → AgreeOn ys one other → AgreeOn (xs ++ ys) one other
  agree_append xs ys h k = record { columns = λ id c. go id (Contains-append_cases xs ys id c); aggregates = h.aggregates }
    where
      go : (id : ColumnId) → Contains xs id ⊎ Contains ys id → one.column id ≡ other.column id
      go id (inl a) = h.columns id a
      go id (inr b) = k.columns id b

  -- ---- the columns of a query

  abbrev conditions_columns : BoundQuery → List ColumnId
  conditions_columns q = flat_map condition_columns q.ons ++ condition_columns q.filter

  abbrev groups_columns : BoundQuery → List ColumnId
  groups_columns q = q.group_by ++ condition_columns q.having

  pub agree_items : (q : BoundQuery) → AgreeOn (named_columns q) one other → AgreeOn (flat_map item_columns q.items) one other
  agree_items q h = agree_left one other (flat_map item_columns q.items) (conditions_columns q ++ groups_columns q) h

  agree_after_items : (q : BoundQuery) → AgreeOn (named_columns q) one other → AgreeOn (conditions_columns q ++ groups_columns q) one other
  agree_after_items q h = agree_right one other (flat_map item_columns q.items) (conditions_columns q ++ groups_columns q) h

  agree_conditions : (q : BoundQuery) → AgreeOn (named_columns q) one other → AgreeOn (conditions_columns q) one other
  agree_conditions q h = agree_left one other (conditions_columns q) (groups_columns q) (agree_after_items q h)

  agree_ons : (q : BoundQuery) → AgreeOn (named_columns q) one other → AgreeOn (flat_map condition_columns q.ons) one other
  agree_ons q h = agree_left one other (flat_map condition_columns q.ons) (condition_columns q.filter) (agree_conditions q h)

  -- of the first ONs, and of the others
  agree_first : (n : ℕ) (ons : List (Option BoundExpr)) → AgreeOn (flat_map condition_columns ons) one other → AgreeOn (flat_map condition_columns (take n ons)) one other
  agree_first zero ons h = agree_none (flat_map condition_columns ons) h
  agree_first (suc n) [] h = h
  agree_first (suc n) (on ∷ ons) h =
      agree_append (condition_columns on) (flat_map condition_columns (take n ons)) (agree_left one other (condition_columns on) (flat_map condition_columns ons) h)
      (agree_first n ons (agree_right one other (condition_columns on) (flat_map condition_columns ons) h))

  agree_others : (n : ℕ) (ons : List (Option BoundExpr)) → AgreeOn (flat_map condition_columns ons) one other → AgreeOn (flat_map condition_columns (drop n ons)) one other
  agree_others zero ons h = h
  agree_others (suc n) [] h = h
  agree_others (suc n) (on ∷ ons) h = agree_others n ons (agree_right one other (condition_columns on) (flat_map condition_columns ons) h)

  pub agree_conjuncts : (q : BoundQuery) → AgreeOn (named_columns q) one other → AgreeOn (flat_map columns (conjuncts q)) one other
  agree_conjuncts q h =
      subst (λ ids. AgreeOn ids one other) (sym (query_conjuncts q))
      (agree_append (flat_map condition_columns (inner_ons q)) (condition_columns q.filter) (agree_first (length q.ons - q.left_count) q.ons (agree_ons q h))
      (agree_right one other (flat_map condition_columns q.ons) (condition_columns q.filter) (agree_conditions q h)))

  -- of the ONs of left joins
  pub agree_lefts : (q : BoundQuery) → AgreeOn (named_columns q) one other → AgreeOn (flat_map columns (left_ons q)) one other
  agree_lefts q h = subst (λ ids. AgreeOn ids one other) (sym (whole_ons (drop (length q.ons - q.left_count) q.ons))) (agree_others (length q.ons - q.left_count) q.ons (agree_ons q h))

  agree_groups : (q : BoundQuery) → AgreeOn (named_columns q) one other → AgreeOn (groups_columns q) one other
  agree_groups q h = agree_right one other (conditions_columns q) (groups_columns q) (agree_after_items q h)

  -- of some of the conditions
  pub agree_some : (p : BoundExpr → Bool) (es : List BoundExpr) → AgreeOn (flat_map columns es) one other → AgreeOn (flat_map columns (filter p es)) one other
  agree_some p [] h = h
  agree_some p (e ∷ es) h = go (p e) (agree_some p es (agree_right one other (columns e) (flat_map columns es) h))
    where
      first : AgreeOn (columns e) one other
      first = agree_left one other (columns e) (flat_map columns es) h

      go : (b : Bool) → AgreeOn (flat_map columns (filter p es)) one other → AgreeOn (flat_map columns (cond b (e ∷ filter p es) (filter p es))) one other
      go true later = agree_append (columns e) (flat_map columns (filter p es)) first later
      go false later = later

  -- ---- the columns of the arguments of aggregates are columns of the expressions that they are in

  abbrev call_columns : AggregateCall → List ColumnId
  call_columns c = condition_columns c.argument

  agree_both : (xs ys : List AggregateCall) → AgreeOn (flat_map call_columns xs) one other → AgreeOn (flat_map call_columns ys) one other → AgreeOn (flat_map call_columns (xs ++ ys)) one other
  agree_both xs ys h k = subst (λ ids. AgreeOn ids one other) (sym (flat_map-append call_columns xs ys)) (agree_append (flat_map call_columns xs) (flat_map call_columns ys) h k)

  mutual
    in_arguments : (e : BoundExpr) → AgreeOn (columns e) one other → AgreeOn (flat_map call_columns (aggregates e)) one other
    in_arguments (bound.Column id) h = agree_none (id ∷ []) h
    in_arguments (bound.Literal d) h = h
    in_arguments bound.CurrentUser h = h
    in_arguments (bound.Negate offset e) h = in_arguments e h
    in_arguments (bound.Arithmetic op offset e f) h =
        agree_both (aggregates e) (aggregates f) (in_arguments e (agree_left one other (columns e) (columns f) h)) (in_arguments f (agree_right one other (columns e) (columns f) h))
    in_arguments (bound.Comparison op offset e f) h =
        agree_both (aggregates e) (aggregates f) (in_arguments e (agree_left one other (columns e) (columns f) h)) (in_arguments f (agree_right one other (columns e) (columns f) h))
    in_arguments (bound.Between negated offset e low high) h =
        let r = agree_right one other (columns e) (columns low ++ columns high) h in
        agree_both (aggregates e) (aggregates low ++ aggregates high) (in_arguments e (agree_left one other (columns e) (columns low ++ columns high) h))
        (agree_both (aggregates low) (aggregates high) (in_arguments low (agree_left one other (columns low) (columns high) r)) (in_arguments high (agree_right one other (columns low) (columns high) r)))
    in_arguments (bound.In negated offset values e) h = in_arguments e h
    in_arguments (bound.IsNull negated offset e) h = in_arguments e h
    in_arguments (bound.Not offset e) h = in_arguments e h
    in_arguments (bound.And offset es) h = in_members es h
    in_arguments (bound.Or offset es) h = in_members es h
    in_arguments (bound.Cast offset to e) h = in_arguments e h
    in_arguments (bound.Case offset as_ o) h =
        agree_both (arms_aggregates as_) (otherwise_aggregates o) (in_arms as_ (agree_left one other (arms_columns as_) (otherwise_columns o) h))
        (in_otherwise o (agree_right one other (arms_columns as_) (otherwise_columns o) h))
    in_arguments (bound.CountStar offset) h = h
    in_arguments (bound.Call f offset e) h = subst (λ ids. AgreeOn ids one other) (sym (append-nil (columns e))) h

    in_members : (es : BoundExprs) → AgreeOn (all_columns es) one other → AgreeOn (flat_map call_columns (all_aggregates es)) one other
    in_members bound.no_expr h = h
    in_members (bound.one_expr e es) h =
        agree_both (aggregates e) (all_aggregates es) (in_arguments e (agree_left one other (columns e) (all_columns es) h)) (in_members es (agree_right one other (columns e) (all_columns es) h))

    in_arms : (as_ : BoundArms) → AgreeOn (arms_columns as_) one other → AgreeOn (flat_map call_columns (arms_aggregates as_)) one other
    in_arms bound.no_arm h = h
    in_arms (bound.one_arm when result as_) h =
        let r = agree_right one other (columns when) (columns result ++ arms_columns as_) h in
        agree_both (aggregates when) (aggregates result ++ arms_aggregates as_) (in_arguments when (agree_left one other (columns when) (columns result ++ arms_columns as_) h))
        (agree_both (aggregates result) (arms_aggregates as_) (in_arguments result (agree_left one other (columns result) (arms_columns as_) r)) (in_arms as_ (agree_right one other (columns result) (arms_columns as_) r)))

    in_otherwise : (o : BoundOtherwise) → AgreeOn (otherwise_columns o) one other → AgreeOn (flat_map call_columns (otherwise_aggregates o)) one other
    in_otherwise bound.Nothing h = h
    in_otherwise (bound.Value e) h = in_arguments e h

  in_items : (items : List BoundItem) → AgreeOn (flat_map item_columns items) one other → AgreeOn (flat_map call_columns (flat_map item_aggregates items)) one other
  in_items [] h = h
  in_items (i ∷ more) h =
      agree_both (aggregates i.value) (flat_map item_aggregates more) (in_arguments i.value (agree_left one other (columns i.value) (flat_map item_columns more) h))
      (in_items more (agree_right one other (columns i.value) (flat_map item_columns more) h))

  in_condition : (condition : Option BoundExpr) → AgreeOn (condition_columns condition) one other → AgreeOn (flat_map call_columns (flat_map aggregates (option_to_list condition))) one other
  in_condition None h = h
  in_condition (Some e) h = subst (λ calls. AgreeOn (flat_map call_columns calls) one other) (sym (append-nil (aggregates e))) (in_arguments e h)

  agree_calls : (q : BoundQuery) → AgreeOn (named_columns q) one other → AgreeOn (flat_map call_columns (query_aggregates q)) one other
  agree_calls q h =
      agree_both (flat_map item_aggregates q.items) (flat_map aggregates (option_to_list q.having)) (in_items q.items (agree_items q h))
      (in_condition q.having (agree_right one other q.group_by (condition_columns q.having) (agree_groups q h)))

  -- ---- equal outcomes

  same_key : (ids : List ColumnId) → AgreeOn ids one other → key_on one ids ≡ key_on other ids
  same_key [] h = refl
  same_key (id ∷ ids) h = ap₂ ◌∷◌ (h.columns id (0, omega arith, refl)) (same_key ids (agree_right one other (id ∷ []) ids h))

  module _ (role : Name) where
    pub same_all_hold : (es : List BoundExpr) → AgreeOn (flat_map columns es) one other → list_all (holds one role) es ≡ list_all (holds other role) es
    same_all_hold [] h = refl
    same_all_hold (e ∷ es) h =
        ap₂ ◌&&◌ (same_holds one other role e (agree_left one other (columns e) (flat_map columns es) h)) (same_all_hold es (agree_right one other (columns e) (flat_map columns es) h))

    pub same_each : (es : List BoundExpr) → AgreeOn (flat_map columns es) one other → All (λ e. holds one role e ≡ holds other role e) es
    same_each [] h = All-nil (λ e. holds one role e ≡ holds other role e)
    same_each (e ∷ es) h =
        All-cons (λ x. holds one role x ≡ holds other role x) e es (same_holds one other role e (agree_left one other (columns e) (flat_map columns es) h))
        (same_each es (agree_right one other (columns e) (flat_map columns es) h))

    pub same_keeps : (es : List BoundExpr) → AgreeOn (flat_map columns es) one other → keeps one role es ≡ keeps other role es
    same_keeps [] h = refl
    same_keeps (e ∷ es) h =
        ap₂ (λ m more. unless_dropped (truth_in m) more) (same_meaning one other role e (agree_left one other (columns e) (flat_map columns es) h)) (same_keeps es (agree_right one other (columns e) (flat_map columns es) h))

    pub same_values : (items : List BoundItem) → AgreeOn (flat_map item_columns items) one other → values_of one role items ≡ values_of other role items
    same_values [] h = refl
    same_values (i ∷ more) h =
        ap₂ first_then (same_meaning one other role i.value (agree_left one other (columns i.value) (flat_map item_columns more) h)) (same_values more (agree_right one other (columns i.value) (flat_map item_columns more) h))

    same_argument : (argument_ : Option BoundExpr) → AgreeOn (condition_columns argument_) one other → argument one role argument_ ≡ argument other role argument_
    same_argument None h = refl
    same_argument (Some e) h = same_meaning one other role e h

    same_arguments : (calls : List AggregateCall) → AgreeOn (flat_map call_columns calls) one other → arguments one role calls ≡ arguments other role calls
    same_arguments [] h = refl
    same_arguments (c ∷ calls) h =
        ap₂ first_then (same_argument c.argument (agree_left one other (call_columns c) (flat_map call_columns calls) h)) (same_arguments calls (agree_right one other (call_columns c) (flat_map call_columns calls) h))

    pub same_member : (q : BoundQuery) → AgreeOn (named_columns q) one other → member_on one role q.group_by (query_aggregates q) ≡ member_on other role q.group_by (query_aggregates q)
    same_member q h =
        ap₂ with_key (same_key q.group_by (agree_left one other q.group_by (condition_columns q.having) (agree_groups q h))) (same_arguments (query_aggregates q) (agree_calls q h))
