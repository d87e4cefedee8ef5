-- The conditions that a query is planned with, and the left joins that stay such.
use Rattle.std.specs.Prelude.{◌≡◌, ◌<◌, ℕ, suc, ◌-◌, Bool, true, false, not, ◌&&◌, ◌==◌, nat_le, List, [], ◌∷◌, ◌++◌, length, map, Option, Some, None, is_some, if◌then◌else◌}
use Rattle.std.specs.List.{flat_map, position}
use Rattle.value.specs.Limits.{most_conjuncts}
use Rattle.expr.specs.declared.bound.ColumnId.{ColumnId}
use Rattle.expr.specs.Bound.{BoundExpr, And, one_expr}
use Rattle.expr.specs.BoundQuery.{BoundQuery}
use Rattle.expr.specs.Conjuncts.{members, movable_conjuncts}
use Rattle.predicates.specs.Equalities.{column_sides}
use Rattle.predicates.specs.Folded.{folded}
use Rattle.predicates.specs.Inward.{inward}
use Rattle.predicates.specs.NullRows.{rejects_null_rows}
use Rattle.predicates.specs.Offsets.{without_offsets}
use Rattle.row_terms.specs.Written.{left_conditions}
use Rattle.algebra.specs.Rules.{constant_of}
use Rattle.algebra.specs.Runs.{reads_up_to, stands_in}

-- the movable conjuncts as they are written
abbrev pub written_conditions : BoundQuery → List BoundExpr
written_conditions q = map without_offsets (movable_conjuncts q)

-- NOT carried inward, then the literals folded
abbrev pub simplified : BoundExpr → BoundExpr
simplified e = folded (inward e)

-- the members of an AND of two or more, as all ANDs of texts are; all else is its own one part
abbrev pub parts_of : BoundExpr → List BoundExpr
parts_of (And offset (one_expr e (one_expr f es))) = e ∷ f ∷ members es
parts_of e = e ∷ []

-- the parts of each condition in its simplified form
abbrev pub simplified_parts : List BoundExpr → List BoundExpr
simplified_parts es = flat_map parts_of (map simplified es)

-- the conditions of a plan, and the ONs of the entries that are left joined in it, which are the last
pub record Planned : Type 0 where
  pub conditions : List BoundExpr
  pub lefts : List BoundExpr

-- it makes a left joined entry inner: it names no later entry, and is true on no null row of this one
abbrev pub turns : ℕ → BoundExpr → Bool
turns entry e = rejects_null_rows (λ i. entry == i) e && reads_up_to entry e

-- the index of the first of the conditions that does, if there is one
abbrev pub first_turning : ℕ → List BoundExpr → Option ℕ
first_turning entry es = position (turns entry) es

-- the left joined entries from a number on become inner, one after another, while one of the conditions makes them so; the members of
-- the ON of each, simplified, are conditions too from then on
abbrev pub turned : ℕ → List BoundExpr → (ons : List BoundExpr) → Planned
turned entry es [] = record { conditions = es; lefts = [] }
turned entry es (on ∷ ons) =
    if is_some (first_turning entry es) then turned (suc entry) (es ++ simplified_parts (parts_of on)) ons
    else record { conditions = es; lefts = on ∷ ons }

abbrev pub of_two_entries : Option (ColumnId × ColumnId) → Bool
of_two_entries (Some (a, b)) = not (a.entry == b.entry)
of_two_entries None = false

-- it equates columns of two different entries
abbrev pub is_across : BoundExpr → Bool
is_across e = of_two_entries (column_sides e)

-- b = v, of a = b and a = v, where a and b are of two entries
abbrev pub consequence : (p q : BoundExpr) → Option BoundExpr
consequence p q = if is_across p then constant_of p q else None

-- the condition is at the end, unless it stands in the list
abbrev pub with_condition : List BoundExpr → BoundExpr → List BoundExpr
with_condition known e = if stands_in e known then known else known ++ e ∷ []

abbrev pub with_any : List BoundExpr → Option BoundExpr → List BoundExpr
with_any known None = known
with_any known (Some e) = with_condition known e

-- the list, and the consequences of p and each q
abbrev pub with_each : List BoundExpr → (p : BoundExpr) → (qs : List BoundExpr) → List BoundExpr
with_each known p [] = known
with_each known p (q ∷ qs) = with_each (with_any known (consequence p q)) p qs

-- the list, and the consequences of each p and each q
abbrev pub with_all : List BoundExpr → (ps qs : List BoundExpr) → List BoundExpr
with_all known [] qs = known
with_all known (p ∷ ps) qs = with_all (with_each known p qs) ps qs

-- the conditions, and the consequences of each two of them
abbrev pub with_consequences : List BoundExpr → List BoundExpr
with_consequences es = with_all es es es

-- the known conditions, and each other that is not equal to an earlier one
abbrev pub with_others : List BoundExpr → List BoundExpr → List BoundExpr
with_others known [] = known
with_others known (e ∷ es) = with_others (with_condition known e) es

abbrev pub without_repeats : List BoundExpr → List BoundExpr
without_repeats es = with_others [] es

abbrev pub is_too_long : List BoundExpr → Bool
is_too_long es = not (nat_le (length es) most_conjuncts)

-- with the consequences of the conditions, none of these twice; as it is written where they are too many
abbrev pub finished : (as_written : Planned) → Planned → Planned
finished as_written p =
    if is_too_long p.conditions then as_written
    else if is_too_long (with_consequences p.conditions) then as_written
    else record { conditions = without_repeats (with_consequences p.conditions); lefts = p.lefts }

-- the entries before the left joined ones
abbrev pub entries_before_lefts : BoundQuery → ℕ
entries_before_lefts q = length q.ons - length (left_conditions q)

-- what a query is planned with
abbrev pub planned : BoundQuery → Planned
planned q =
    finished (record { conditions = written_conditions q; lefts = left_conditions q })
    (turned (entries_before_lefts q) (simplified_parts (written_conditions q)) (left_conditions q))

-- the conditions that a query is planned with
abbrev pub planning_list : BoundQuery → List BoundExpr
planning_list q = (planned q).conditions

-- the ONs of the entries that are left joined in its plan
abbrev pub remaining_lefts : BoundQuery → List BoundExpr
remaining_lefts q = (planned q).lefts

-- each ON names no entry after its own, the first being that of an entry
abbrev pub reach : (entry : ℕ) → (ons : List BoundExpr) → Bool
reach entry [] = true
reach entry (on ∷ ons) = reads_up_to entry on && reach (suc entry) ons

-- an entry comes before the left joined ones, and the ON of each of these names no later entry
pub record HasLeftsInOrder (q : BoundQuery) : Type 0 where
  pub inner : length (left_conditions q) < length q.ons
  pub reach : reach (entries_before_lefts q) (left_conditions q) ≡ true
