-- The conditions that a query is planned with are plain and no deeper than those that it is written with.
use Rattle.std.proofs.Common.{ℕ, suc, max, ◌≤◌, Bool, true, false, List, [], ◌∷◌, ◌++◌, map, Option, Some, None, is_some, IfSome, option_and_then, option_map, if◌then◌else◌, arith}
use Rattle.std.specs.List.{All, flat_map}
use Rattle.std.proofs.lemmas.List.Elements.{All-nil, All-cons, All-head, All-tail, All-append, All-push}
use Rattle.value.specs.Datum.{Datum, null, int, text, bool}
use Rattle.value.specs.declared.operators.Comparison.TheVariants.{Equal}
use Rattle.expr.specs.declared.bound.ColumnId.{ColumnId}
use Rattle.expr.specs.Bound.{BoundExpr, Column, Literal, Comparison, And, BoundExprs, no_expr, one_expr, is_column}
use Rattle.expr.specs.BoundQuery.{BoundQuery}
use Rattle.expr.specs.Conjuncts.{members, movable_conjuncts}
use Rattle.scope.specs.Entry.{Entry}
use Rattle.expr_texts.specs.Filters.{levels, most_levels}
use Rattle.bound_plans.specs.Named.{named, named_members}
use Rattle.predicates.specs.Equalities.{column_equals, column_sides, literal_side, unless_null}
use Rattle.predicates.specs.Inward.{inward}
use Rattle.predicates.specs.Offsets.{without_offsets}
use Rattle.row_terms.specs.Written.{left_conditions}
use Rattle.algebra.specs.Rules.{constant_of, other_column}
use Rattle.algebra.specs.Runs.{stands_in}
use Rattle.algebra.specs.PlanningList.{Planned, written_conditions, simplified, parts_of, simplified_parts, is_across, consequence, with_condition, with_any, with_each, with_all, with_consequences, with_others, without_repeats, is_too_long, first_turning, turned, finished, entries_before_lefts, planning_list}
use Rattle.plan_laws.proofs.Plain.{is_and, IsPlain, ArePlain}
use Rattle.plan_laws.proofs.PlainRebuilt.{without_offsets_plain, folded_plain}
use Rattle.plan_laws.proofs.PlainInward.{inward_plain}
use Rattle.plan_laws.proofs.SaidLevels.{without_offsets_levels, folded_levels, inward_levels}

first_below : (a b n : ℕ) → max a b ≤ n → a ≤ n
first_below a b n h = omega arith

second_below : (a b n : ℕ) → max a b ≤ n → b ≤ n
second_below a b n h = omega arith

less : (a n : ℕ) → suc a ≤ n → a ≤ n
less a n h = omega arith

through : (a b c : ℕ) → a ≤ b → b ≤ c → a ≤ c
through a b c p q = omega arith

-- the elements of lists that functions of elements give
flat_all : {X Y : Type 0} (P : X → Type 0) (R : Y → Type 0) (f : X → List Y) → ((x : X) → P x → All R (f x)) → (xs : List X) → All P xs → All R (flat_map f xs)
flat_all P R f each [] h = All-nil R
flat_all P R f each (x ∷ xs) h = All-append R (f x) (flat_map f xs) (each x (All-head P x xs h)) (flat_all P R f each xs (All-tail P x xs h))

mapped_all : {X Y : Type 0} (P : X → Type 0) (R : Y → Type 0) (f : X → Y) → ((x : X) → P x → R (f x)) → (xs : List X) → All P xs → All R (map f xs)
mapped_all P R f each [] h = All-nil R
mapped_all P R f each (x ∷ xs) h = All-cons R (f x) (map f xs) (each x (All-head P x xs h)) (mapped_all P R f each xs (All-tail P x xs h))

module _ (entries : List Entry) (P : ColumnId → Type 0) (Q : Datum → Type 0) (unknown : Q null) (truth : (b : Bool) → Q (bool b)) (n : ℕ) where
  -- plain, and with so many levels at most
  pub record IsKept (e : BoundExpr) : Type 0 where
    pub plain : IsPlain P Q e
    pub shallow : levels (named entries e) ≤ n

  pub without_kept : (e : BoundExpr) → IsKept e → IsKept (without_offsets e)
  without_kept e h = record { plain = without_offsets_plain P Q e h.plain; shallow = through _ _ _ (without_offsets_levels entries e) h.shallow }

  simplified_kept : (e : BoundExpr) → IsKept e → IsKept (simplified e)
  simplified_kept e h = record {
    plain = folded_plain P Q unknown truth (inward e) (inward_plain P Q unknown truth e h.plain);
    shallow = through _ _ _ (folded_levels entries (inward e)) (through _ _ _ (inward_levels entries e) h.shallow);
  }

  -- ---- parts

  members_kept : (es : BoundExprs) → ArePlain P Q is_and es → most_levels (named_members entries es) ≤ n → All IsKept (members es)
  members_kept no_expr h k = All-nil IsKept
  members_kept (one_expr e es) h k =
      All-cons IsKept e (members es) (record { plain = h.1; shallow = first_below _ (most_levels (named_members entries es)) n k })
      (members_kept es h.2 (second_below (levels (named entries e)) _ n k))

  parts_kept : (e : BoundExpr) → IsKept e → All IsKept (parts_of e)
  parts_kept (And offset (one_expr e (one_expr f es))) h = members_kept (one_expr e (one_expr f es)) h.plain.1 (less _ n h.shallow)
  parts_kept e h = All-cons IsKept e [] h (All-nil IsKept)

  simplified_parts_kept : (es : List BoundExpr) → All IsKept es → All IsKept (simplified_parts es)
  simplified_parts_kept es h = flat_all IsKept IsKept parts_of parts_kept (map simplified es) (mapped_all IsKept IsKept simplified simplified_kept es h)

  -- ---- consequences

  abbrev SidesPlain : ColumnId × ColumnId → Type 0
  SidesPlain p = P p.0 × P p.1

  abbrev ValuePlain : ColumnId × Datum → Type 0
  ValuePlain p = Q p.1

  sides_plain : (e : BoundExpr) → IsPlain P Q e → IfSome (column_sides e) SidesPlain
  sides_plain (Comparison Equal offset (Column a) (Column b)) h = h
  sides_plain _ h = tt

  value_plain : (a : ColumnId) (d : Datum) → Q d → IfSome (unless_null a d) ValuePlain
  value_plain a null h = tt
  value_plain a (int n) h = h
  value_plain a (text t) h = h
  value_plain a (bool b) h = h

  literal_plain : (e : BoundExpr) → IsPlain P Q e → IfSome (literal_side e) ValuePlain
  literal_plain (Comparison Equal offset (Column a) (Literal d)) h = value_plain a d h.1
  literal_plain (Comparison Equal offset (Literal d) (Column a)) h = value_plain a d h.0
  literal_plain _ h = tt

  module _ (some_levels : 1 ≤ n) where
    -- of what a function gives for each
    then_kept : {X : Type 0} (R : X → Type 0) (f : X → Option BoundExpr) → ((x : X) → R x → IfSome (f x) IsKept) → (o : Option X) → IfSome o R → IfSome (option_and_then f o) IsKept
    then_kept R f each None h = tt
    then_kept R f each (Some x) h = each x h

    mapped_kept : {X : Type 0} (R : X → Type 0) (f : X → BoundExpr) → ((x : X) → R x → IsKept (f x)) → (o : Option X) → IfSome o R → IfSome (option_map f o) IsKept
    mapped_kept R f each None h = tt
    mapped_kept R f each (Some x) h = each x h

    other_plain : (p : ColumnId × ColumnId) (a : ColumnId) → SidesPlain p → IfSome (other_column p a) P
    other_plain p a h = go (is_column a p.0) (is_column a p.1)
      where
        go : (b c : Bool) → IfSome (if b then Some p.1 else if c then Some p.0 else None) P
        go true c = h.1
        go false true = h.0
        go false false = tt

    -- the equality with the value, of the other column
    abbrev by_value : ColumnId × ColumnId → ColumnId × Datum → Option BoundExpr
    by_value p q = option_map (λ b. column_equals b q.1) (other_column p q.0)

    abbrev by_sides : BoundExpr → ColumnId × ColumnId → Option BoundExpr
    by_sides f p = option_and_then (by_value p) (literal_side f)

    by_value_kept : (p : ColumnId × ColumnId) → SidesPlain p → (q : ColumnId × Datum) → ValuePlain q → IfSome (by_value p q) IsKept
    by_value_kept p sides q value = mapped_kept P (λ b. column_equals b q.1) (λ b column. record { plain = (column, value); shallow = some_levels }) (other_column p q.0) (other_plain p q.0 sides)

    constant_kept : (e f : BoundExpr) → IsPlain P Q e → IsPlain P Q f → IfSome (constant_of e f) IsKept
    constant_kept e f h k =
        then_kept SidesPlain (by_sides f) (λ p sides. then_kept ValuePlain (by_value p) (λ q value. by_value_kept p sides q value) (literal_side f) (literal_plain f k))
        (column_sides e) (sides_plain e h)

    consequence_kept : (p q : BoundExpr) → IsKept p → IsKept q → IfSome (consequence p q) IsKept
    consequence_kept p q h k = go (is_across p)
      where
        go : (b : Bool) → IfSome (if b then constant_of p q else None) IsKept
        go true = constant_kept p q h.plain k.plain
        go false = tt

    -- ---- lists

    condition_kept : (known : List BoundExpr) (e : BoundExpr) → All IsKept known → IsKept e → All IsKept (with_condition known e)
    condition_kept known e h k = go (stands_in e known)
      where
        go : (b : Bool) → All IsKept (if b then known else known ++ e ∷ [])
        go true = h
        go false = All-push IsKept known e h k

    any_kept : (known : List BoundExpr) (o : Option BoundExpr) → All IsKept known → IfSome o IsKept → All IsKept (with_any known o)
    any_kept known None h k = h
    any_kept known (Some e) h k = condition_kept known e h k

    each_kept : (known : List BoundExpr) (p : BoundExpr) (qs : List BoundExpr) → All IsKept known → IsKept p → All IsKept qs → All IsKept (with_each known p qs)
    each_kept known p [] h k l = h
    each_kept known p (q ∷ qs) h k l =
        each_kept (with_any known (consequence p q)) p qs (any_kept known (consequence p q) h (consequence_kept p q k (All-head IsKept q qs l))) k (All-tail IsKept q qs l)

    all_kept : (known ps qs : List BoundExpr) → All IsKept known → All IsKept ps → All IsKept qs → All IsKept (with_all known ps qs)
    all_kept known [] qs h k l = h
    all_kept known (p ∷ ps) qs h k l = all_kept (with_each known p qs) ps qs (each_kept known p qs h (All-head IsKept p ps k) l) (All-tail IsKept p ps k) l

    others_kept : (known es : List BoundExpr) → All IsKept known → All IsKept es → All IsKept (with_others known es)
    others_kept known [] h k = h
    others_kept known (e ∷ es) h k = others_kept (with_condition known e) es (condition_kept known e h (All-head IsKept e es k)) (All-tail IsKept e es k)

    turned_kept : (ons : List BoundExpr) (k : ℕ) (es : List BoundExpr) → All IsKept ons → All IsKept es → All IsKept (turned k es ons).conditions
    turned_kept [] k es h l = l
    turned_kept (on ∷ ons) k es h l =
        go (is_some (first_turning k es))
        (turned_kept ons (suc k) more (All-tail IsKept on ons h) (All-append IsKept es (simplified_parts (parts_of on)) l (simplified_parts_kept (parts_of on) (parts_kept on (All-head IsKept on ons h)))))
      where
        more : List BoundExpr
        more = es ++ simplified_parts (parts_of on)

        go : (b : Bool) → All IsKept (turned (suc k) more ons).conditions → All IsKept (if b then turned (suc k) more ons else record { conditions = es; lefts = on ∷ ons }).conditions
        go true further = further
        go false further = l

    finished_kept : (as_written end : Planned) → All IsKept as_written.conditions → All IsKept end.conditions → All IsKept (finished as_written end).conditions
    finished_kept as_written end h k = go (is_too_long es) (is_too_long (with_consequences es))
      where
        es : List BoundExpr
        es = end.conditions

        go : (b c : Bool) → All IsKept (if b then as_written else if c then as_written else record { conditions = without_repeats (with_consequences es); lefts = end.lefts }).conditions
        go true c = h
        go false true = h
        go false false = others_kept [] (with_consequences es) (All-nil IsKept) (all_kept es es es k k k)

    pub planning_plain : (q : BoundQuery) → All IsKept (movable_conjuncts q) → All IsKept (left_conditions q) → All IsKept (planning_list q)
    planning_plain q h lefts =
        let written = mapped_all IsKept IsKept without_offsets without_kept (movable_conjuncts q) h in
        let parts = simplified_parts (written_conditions q) in
        finished_kept (record { conditions = written_conditions q; lefts = left_conditions q }) (turned (entries_before_lefts q) parts (left_conditions q)) written
        (turned_kept (left_conditions q) (entries_before_lefts q) parts lefts (simplified_parts_kept (written_conditions q) written))
