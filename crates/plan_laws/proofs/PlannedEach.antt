-- What holds of each condition of a planning list: what the parts of a simplified condition keep, and what follows from two.
use Rattle.std.proofs.Common.{◌≡◌, refl, subst, ℕ, suc, Bool, true, false, List, [], ◌∷◌, ◌++◌, map, Option, Some, None, is_some, if◌then◌else◌}
use Rattle.std.specs.Prelude.{option_and_then, option_map}
use Rattle.std.specs.List.{AllByRecursion}
use Rattle.expr.specs.declared.bound.ColumnId.{ColumnId}
use Rattle.expr.specs.Bound.{is_column, BoundExpr, BoundExprs, And, no_expr, one_expr}
use Rattle.expr.specs.BoundQuery.{BoundQuery}
use Rattle.expr.specs.Conjuncts.{members, movable_conjuncts}
use Rattle.predicates.specs.Equalities.{column_equals, column_sides, literal_side}
use Rattle.predicates.specs.Inward.{inward}
use Rattle.predicates.specs.Offsets.{without_offsets}
use Rattle.plan_laws.proofs.EachColumn.{OfColumns, of_both}
use Rattle.plan_laws.proofs.Bare.{AreBare, IsBare, folded_bare, inward_bare, sides_bare, without_bare}
use Rattle.row_terms.specs.Written.{left_conditions}
use Rattle.algebra.specs.PlanningList.{Planned, consequence, entries_before_lefts, first_turning, is_across, is_too_long, parts_of, planning_list, simplified, simplified_parts, turned, with_all, with_any, with_condition, with_consequences, with_each, with_others, without_repeats, written_conditions}
use Rattle.algebra.specs.Rules.{constant_of, other_column}
use Rattle.algebra.specs.Runs.{stands_in}

module _ (P : BoundExpr → Type 0) where
  abbrev pub Each : List BoundExpr → Type 0
  Each es = AllByRecursion P es

  with_condition_each : (known : List BoundExpr) (e : BoundExpr) → Each known → P e → Each (with_condition known e)
  with_condition_each known e h k = go (stands_in e known)
    where
      go : (b : Bool) → Each (if b then known else known ++ e ∷ [])
      go true = h
      go false = of_both P known (e ∷ []) h (k, tt)

  with_others_each : (known es : List BoundExpr) → Each known → Each es → Each (with_others known es)
  with_others_each known [] h k = h
  with_others_each known (e ∷ es) h k = with_others_each (with_condition known e) es (with_condition_each known e h k.0) k.1

  module _ (follows : (p q e : BoundExpr) → P p → consequence p q ≡ Some e → P e) where
    with_any_each : (known : List BoundExpr) (p q : BoundExpr) → Each known → P p → Each (with_any known (consequence p q))
    with_any_each known p q h k = go (consequence p q) refl
      where
        go : (o : Option BoundExpr) → consequence p q ≡ o → Each (with_any known o)
        go None is = h
        go (Some e) is = with_condition_each known e h (follows p q e k is)

    with_each_each : (known : List BoundExpr) (p : BoundExpr) (qs : List BoundExpr) → Each known → P p → Each (with_each known p qs)
    with_each_each known p [] h k = h
    with_each_each known p (q ∷ qs) h k = with_each_each (with_any known (consequence p q)) p qs (with_any_each known p q h k) k

    with_all_each : (known ps qs : List BoundExpr) → Each known → Each ps → Each (with_all known ps qs)
    with_all_each known [] qs h k = h
    with_all_each known (p ∷ ps) qs h k = with_all_each (with_each known p qs) ps qs (with_each_each known p qs h k.0) k.1

    module _ (kept : (e : BoundExpr) → P e → Each (parts_of (simplified e))) where
      parts_each : (es : List BoundExpr) → Each es → Each (simplified_parts es)
      parts_each [] h = tt
      parts_each (e ∷ es) h = of_both P (parts_of (simplified e)) (simplified_parts es) (kept e h.0) (parts_each es h.1)

      module _ (parted : (e : BoundExpr) → P e → Each (parts_of e)) where
        turned_each : (ons : List BoundExpr) (n : ℕ) (es : List BoundExpr) → Each ons → Each es → Each (turned n es ons).conditions
        turned_each [] n es h k = k
        turned_each (on ∷ ons) n es h k =
            go (is_some (first_turning n es)) (turned_each ons (suc n) (es ++ simplified_parts (parts_of on)) h.1 (of_both P es (simplified_parts (parts_of on)) k (parts_each (parts_of on) (parted on h.0))))
          where
            more : List BoundExpr
            more = es ++ simplified_parts (parts_of on)

            go : (b : Bool) → Each (turned (suc n) more ons).conditions → Each (if b then turned (suc n) more ons else record { conditions = es; lefts = on ∷ ons }).conditions
            go true further = further
            go false further = k

        pub planned_each : (q : BoundQuery) → Each (written_conditions q) → Each (left_conditions q) → Each (planning_list q)
        planned_each q h k = go (is_too_long es) (is_too_long (with_consequences es))
          where
            end : Planned
            end = turned (entries_before_lefts q) (simplified_parts (written_conditions q)) (left_conditions q)

            es : List BoundExpr
            es = end.conditions

            as_written : Planned
            as_written = record { conditions = written_conditions q; lefts = left_conditions q }

            both : Each es
            both = turned_each (left_conditions q) (entries_before_lefts q) (simplified_parts (written_conditions q)) k (parts_each (written_conditions q) h)

            go : (b c : Bool) → Each (if b then as_written else if c then as_written else record { conditions = without_repeats (with_consequences es); lefts = end.lefts }).conditions
            go true c = h
            go false true = h
            go false false = with_others_each [] (with_consequences es) tt (with_all_each es es es both both)

-- ---- no offsets, each column of one kind

module _ (Q : ColumnId → Type 0) where
  members_bare : (es : BoundExprs) → AreBare Q es → AllByRecursion (IsBare Q) (members es)
  members_bare no_expr h = tt
  members_bare (one_expr e es) h = (h.0, members_bare es h.1)

  parts_bare : (e : BoundExpr) → IsBare Q e → AllByRecursion (IsBare Q) (parts_of e)
  parts_bare (And offset (one_expr e (one_expr f es))) h = members_bare (one_expr e (one_expr f es)) h.1
  parts_bare _ h = (h, tt)

  then_some : {X Y : Type 0} (f : X → Option Y) (o : Option X) (y : Y) → option_and_then f o ≡ Some y → (x : X) × (o ≡ Some x) × (f x ≡ Some y)
  then_some f None y h = absurd (cc)
  then_some f (Some x) y h = (x, refl, h)

  map_some : {X Y : Type 0} (f : X → Y) (o : Option X) (y : Y) → option_map f o ≡ Some y → (x : X) × (o ≡ Some x) × (f x ≡ y)
  map_some f None y h = absurd (cc)
  map_some f (Some x) y h = (x, refl, cc)

  other_bare : (p : ColumnId × ColumnId) (a b : ColumnId) → Q p.0 × Q p.1 → other_column p a ≡ Some b → Q b
  other_bare p a b h k = first (is_column a p.0) k
    where
      second : (t : Bool) → (if t then Some p.0 else None) ≡ Some b → Q b
      second true e = let same : p.0 ≡ b = cc in subst Q same h.0
      second false e = absurd (cc)

      first : (t : Bool) → (if t then Some p.1 else if is_column a p.1 then Some p.0 else None) ≡ Some b → Q b
      first true e = let same : p.1 ≡ b = cc in subst Q same h.1
      first false e = second (is_column a p.1) e

  constant_bare : (p q e : BoundExpr) → IsBare Q p → constant_of p q ≡ Some e → IsBare Q e
  constant_bare p q e h k =
      let s = then_some _ (column_sides p) e k in
      let t = then_some _ (literal_side q) e s.2 in
      let u = map_some (λ b. column_equals b t.0.1) (other_column s.0 t.0.0) e t.2 in
      subst (IsBare Q) u.2 (refl, other_bare s.0 t.0.0 u.0 (sides_bare Q p s.0 s.1 h) u.1, tt)

  follows_bare : (p q e : BoundExpr) → IsBare Q p → consequence p q ≡ Some e → IsBare Q e
  follows_bare p q e h k = go (is_across p) k
    where
      go : (b : Bool) → (if b then constant_of p q else None) ≡ Some e → IsBare Q e
      go true k = constant_bare p q e h k
      go false k = absurd (cc)

  simplified_bare : (e : BoundExpr) → IsBare Q e → AllByRecursion (IsBare Q) (parts_of (simplified e))
  simplified_bare e h = parts_bare (simplified e) (folded_bare Q (inward e) (inward_bare Q e h))

  pub written_bare : (es : List BoundExpr) → AllByRecursion (OfColumns Q) es → AllByRecursion (IsBare Q) (map without_offsets es)
  written_bare [] h = tt
  written_bare (e ∷ es) h = (without_bare Q e h.0, written_bare es h.1)

  -- a planning list has no offsets, and its columns are of the kind of those of the movable conjuncts and the left joins
  pub planning_bare : (q : BoundQuery) → AllByRecursion (OfColumns Q) (movable_conjuncts q) → AllByRecursion (IsBare Q) (left_conditions q) → AllByRecursion (IsBare Q) (planning_list q)
  planning_bare q h lefts = planned_each (IsBare Q) follows_bare simplified_bare parts_bare q (written_bare (movable_conjuncts q) h) lefts
