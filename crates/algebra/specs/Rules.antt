-- The rewrite rules: of each the node that it fits, what takes its place, and on what condition. R is a raw entry, G i a guard,
-- F e a filter, * a join, + e a left join, E an empty term.
use Rattle.std.specs.Prelude.{ℕ, zero, suc, Bool, true, false, nat_le, ◌&&◌, ◌||◌, List, length, Option, Some, None, option_map, option_and_then, slice_get, Result, Ok, Err, if◌then◌else◌}
use Rattle.value.specs.Limits.{most_conjuncts}
use Rattle.expr.specs.declared.bound.ColumnId.{ColumnId}
use Rattle.expr.specs.Bound.{BoundExpr, is_column}
use Rattle.expr.specs.Conjuncts.{conjuncts_of}
use Rattle.predicates.specs.Connectives.{both, parted, factored}
use Rattle.predicates.specs.Equalities.{column_equals, column_sides, columns_equal, is_never_true, literal_side, not_null_form}
use Rattle.predicates.specs.Inward.{inward}
use Rattle.predicates.specs.Folded.{folded}
use Rattle.predicates.specs.NullRows.{rejects_null_rows}
use Rattle.predicates.specs.Same.{same}
use Rattle.tuples.specs.Guards.{Guard, All}
use Rattle.row_terms.specs.Terms.{Term, Guarded, Filtered, Joined, LeftJoined, Empty, covers}
use Rattle.algebra.specs.declared.step.Reason.{Reason}
use Rattle.algebra.specs.declared.step.Reason.TheVariants.{Misfit, Unmet}
use Rattle.algebra.specs.Runs.{run, stands_in, reads_only, is_only, emptied}

-- the term after a step, or the reason why there is none
abbrev pub Outcome : Type 0
Outcome = Result Term Reason

-- the term, where the condition is met
abbrev pub where_met : Bool → Term → Outcome
where_met true x = Ok x
where_met false x = Err Unmet

-- the term under a filter, where there is a condition for it
abbrev pub under : Option BoundExpr → Term → Outcome
under None x = Err Unmet
under (Some e) x = Ok (Filtered e x)

-- ---- filters on filters

abbrev pub in_two : Option (BoundExpr × BoundExpr) → Term → Outcome
in_two None x = Err Unmet
in_two (Some parts) x = Ok (Filtered parts.1 (Filtered parts.0 x))

-- F (a AND rest) X to F rest (F a X)
abbrev pub split_filter : Term → Outcome
split_filter (Filtered e x) = in_two (parted e) x
split_filter _ = Err Misfit

-- F b (F a X) to F (a AND b) X, where the AND has at most 64 members
abbrev pub merge_filters : Term → Outcome
merge_filters (Filtered b (Filtered a x)) = where_met (nat_le (length (conjuncts_of (both a b))) most_conjuncts) (Filtered (both a b) x)
merge_filters _ = Err Misfit

-- F b (F a X) to F a (F b X)
abbrev pub swap_filters : Term → Outcome
swap_filters (Filtered b (Filtered a x)) = Ok (Filtered a (Filtered b x))
swap_filters _ = Err Misfit

-- F e X to X, where e stands in the run at X
abbrev pub drop_filter : Term → Outcome
drop_filter (Filtered e x) = where_met (stands_in e (run x)) x
drop_filter _ = Err Misfit

-- X to F e X, where e is the filter of that number in the run at X
abbrev pub copy_filter : ℕ → Term → Outcome
copy_filter p x = under (slice_get (run x) p) x

-- ---- filters and joins

-- F e (X * Y) to (F e X) * Y, where the entries of e are in X
abbrev pub push_left : Term → Outcome
push_left (Filtered e (Joined x y)) = where_met (reads_only x e) (Joined (Filtered e x) y)
push_left _ = Err Misfit

abbrev pub pull_left : Term → Outcome
pull_left (Joined (Filtered e x) y) = where_met (reads_only x e) (Filtered e (Joined x y))
pull_left _ = Err Misfit

-- F e (X * Y) to X * (F e Y), where the entries of e are in Y
abbrev pub push_right : Term → Outcome
push_right (Filtered e (Joined x y)) = where_met (reads_only y e) (Joined x (Filtered e y))
push_right _ = Err Misfit

abbrev pub pull_right : Term → Outcome
pull_right (Joined x (Filtered e y)) = where_met (reads_only y e) (Filtered e (Joined x y))
pull_right _ = Err Misfit

-- X * Y to Y * X
abbrev pub swap_sides : Term → Outcome
swap_sides (Joined x y) = Ok (Joined y x)
swap_sides _ = Err Misfit

-- (X * Y) * Z to (X * Z) * Y
abbrev pub exchange_right : Term → Outcome
exchange_right (Joined (Joined x y) z) = Ok (Joined (Joined x z) y)
exchange_right _ = Err Misfit

-- ---- left joins

-- F f (X + e Y) to F f (F e (X * Y)), where f is true on no null row of Y
abbrev pub make_inner : Term → Outcome
make_inner (Filtered f (LeftJoined on x y)) = where_met (rejects_null_rows (covers y) f) (Filtered f (Filtered on (Joined x y)))
make_inner _ = Err Misfit

-- F f (X + e Y) to (F f X) + e Y, where the entries of f are in X
abbrev pub push_under_left : Term → Outcome
push_under_left (Filtered f (LeftJoined on x y)) = where_met (reads_only x f) (LeftJoined on (Filtered f x) y)
push_under_left _ = Err Misfit

abbrev pub pull_over_left : Term → Outcome
pull_over_left (LeftJoined on (Filtered f x) y) = where_met (reads_only x f) (Filtered f (LeftJoined on x y))
pull_over_left _ = Err Misfit

-- ---- guards

-- F e (G i X) to G i (F e X)
abbrev pub push_under_guard : Term → Outcome
push_under_guard (Filtered e (Guarded i x)) = Ok (Guarded i (Filtered e x))
push_under_guard _ = Err Misfit

abbrev pub pull_over_guard : Term → Outcome
pull_over_guard (Guarded i (Filtered e x)) = Ok (Filtered e (Guarded i x))
pull_over_guard _ = Err Misfit

abbrev pub is_all : Option Guard → Bool
is_all (Some All) = true
is_all _ = false

-- the guard of the entry shows all rows
abbrev pub is_open : List Guard → ℕ → Bool
is_open frame i = is_all (slice_get frame i)

-- G i X to X, where the guard of i shows all rows
abbrev pub drop_guard : List Guard → Term → Outcome
drop_guard frame (Guarded i x) = where_met (is_open frame i) x
drop_guard frame _ = Err Misfit

-- X to G i X, where the guard of i shows all rows and i, a number from 1, is the only entry of X
abbrev pub add_guard : List Guard → (number : ℕ) → Term → Outcome
add_guard frame zero x = Err Unmet
add_guard frame (suc i) x = where_met (is_open frame i && is_only i x) (Guarded i x)

-- ---- equalities

-- the other columns of two pairs that share one
abbrev pub other_columns : ColumnId × ColumnId → ColumnId × ColumnId → Option (ColumnId × ColumnId)
other_columns p q =
    if is_column p.0 q.0 then Some (p.1, q.1)
    else if is_column p.0 q.1 then Some (p.1, q.0)
    else if is_column p.1 q.0 then Some (p.0, q.1)
    else if is_column p.1 q.1 then Some (p.0, q.0)
    else None

-- a = c, of a = b and b = c, each either way round
abbrev pub equality_of : BoundExpr → BoundExpr → Option BoundExpr
equality_of e f = option_and_then (λ p. option_and_then (λ q. option_map (λ c. columns_equal c.0 c.1) (other_columns p q)) (column_sides f)) (column_sides e)

-- the other column of a pair than that
abbrev pub other_column : ColumnId × ColumnId → ColumnId → Option ColumnId
other_column p a = if is_column a p.0 then Some p.1 else if is_column a p.1 then Some p.0 else None

-- b = v, of a = b and a = v, each either way round
abbrev pub constant_of : BoundExpr → BoundExpr → Option BoundExpr
constant_of e f = option_and_then (λ p. option_and_then (λ q. option_map (λ b. column_equals b q.1) (other_column p q.0)) (literal_side f)) (column_sides e)

-- an equality of columns, or one with a literal
abbrev pub following : (is_constant : Bool) → BoundExpr → BoundExpr → Option BoundExpr
following false = equality_of
following true = constant_of

-- what follows from two filters of the run, by their numbers
abbrev pub by_run : (BoundExpr → BoundExpr → Option BoundExpr) → (p q : ℕ) → List BoundExpr → Option BoundExpr
by_run follows p q es = option_and_then (λ e. option_and_then (follows e) (slice_get es q)) (slice_get es p)

abbrev pub is_given : BoundExpr → Option BoundExpr → Bool
is_given e None = false
is_given e (Some f) = same e f

-- X to F e X, where e follows from two filters of the run at X; and back
abbrev pub add_filter : (BoundExpr → BoundExpr → Option BoundExpr) → (p q : ℕ) → Term → Outcome
add_filter follows p q x = under (by_run follows p q (run x)) x

abbrev pub drop_added : (BoundExpr → BoundExpr → Option BoundExpr) → (p q : ℕ) → Term → Outcome
drop_added follows p q (Filtered e x) = where_met (is_given e (by_run follows p q (run x))) x
drop_added follows p q _ = Err Misfit

-- ---- one filter

-- F e X to F n X, where n is e with NOT carried inward
abbrev pub carry_not : Term → Outcome
carry_not (Filtered e x) = Ok (Filtered (inward e) x)
carry_not _ = Err Misfit

-- F e X to F f X, where f is e with its literals folded
abbrev pub fold_literals : Term → Outcome
fold_literals (Filtered e x) = Ok (Filtered (folded e) x)
fold_literals _ = Err Misfit

-- F ((a AND b) OR (a AND c) OR ..) X to F (a AND (b OR c OR ..)) X
abbrev pub factor_out : Term → Outcome
factor_out (Filtered e x) = under (factored e) x
factor_out _ = Err Misfit

-- F (x = x) X to F (x IS NOT NULL) X
abbrev pub not_null : Term → Outcome
not_null (Filtered e x) = under (not_null_form e) x
not_null _ = Err Misfit

-- ---- empty terms, where there are so many entries

-- F e X to E, where e is FALSE or NULL
abbrev pub empty_filter : (count : ℕ) → Term → Outcome
empty_filter count (Filtered e x) = where_met (is_never_true e) (emptied count x)
empty_filter count _ = Err Misfit

abbrev pub is_empty : Term → Bool
is_empty (Empty entries) = true
is_empty _ = false

abbrev pub has_empty_input : Term → Bool
has_empty_input (Joined x y) = is_empty x || is_empty y
has_empty_input (Filtered e x) = is_empty x
has_empty_input (Guarded i x) = is_empty x
has_empty_input _ = false

-- E * X, X * E, F e E, G i E to E
abbrev pub empty_input : (count : ℕ) → Term → Outcome
empty_input count x = if has_empty_input x then Ok (emptied count x) else Err Misfit
