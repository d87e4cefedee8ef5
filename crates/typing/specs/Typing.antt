-- The type of an expression, or the least offset of a type error in it.
use Rattle.std.specs.Prelude.{ℕ, Bool, true, false, ◌&&◌, List, [], ◌∷◌, map, Option, Some, None, option_map, option_and_then, slice_get, Result, Ok, Err, if◌then◌else◌}
use Rattle.value.specs.Datum.{Datum, null, int, text, bool}
use Rattle.value.specs.declared.types.ColType.{ColType}
use Rattle.value.specs.declared.types.ColType.TheVariants.{Bigint, Text, Boolean}
use Rattle.value.specs.declared.operators.Aggregate.{Aggregate}
use Rattle.value.specs.declared.operators.Aggregate.TheVariants.{Count, Sum, Min, Max}
use Rattle.row_ast.specs.Ast as ast
use Rattle.expr.specs.declared.bound.ColumnId.{ColumnId}
use Rattle.scope.specs.declared.error.BindError.{BindError}
use Rattle.scope.specs.declared.lookup.Scope.{Scope}
use Rattle.scope.specs.Entry.{Entry}
use Rattle.memory.specs.Results.{and_then}
use Rattle.scope.specs.Lookup.{find_column}
use Rattle.typing.specs.Offsets.{both}

-- a type, or none: that of NULL, which fits every type
abbrev pub TypeOf : Type 0
TypeOf = Option ColType

-- the type of a part, or the least offset of an operation that is wrong although its operands are well typed
abbrev pub Typed : Type 0
Typed = Result TypeOf ℕ

-- ---- types

abbrev pub is_type : ColType → ColType → Bool
is_type Bigint Bigint = true
is_type Text Text = true
is_type Boolean Boolean = true
is_type _ _ = false

abbrev pub fits : ColType → TypeOf → Bool
fits to None = true
fits to (Some from) = is_type from to

-- the one type that both fit, if there is one
abbrev pub common : TypeOf → TypeOf → Option TypeOf
common None b = Some b
common (Some a) None = Some (Some a)
common (Some a) (Some b) = if is_type a b then Some (Some a) else None

-- the same of types that were found, if both were
abbrev pub common_of : Option TypeOf → Option TypeOf → Option TypeOf
common_of None b = None
common_of (Some a) None = None
common_of (Some a) (Some b) = common a b

-- the one type that all fit, if there is one
abbrev pub common_of_all : List TypeOf → Option TypeOf
common_of_all [] = Some None
common_of_all (t ∷ ts) = common_of (Some t) (common_of_all ts)

-- CAST takes a number to a text and back, and each type to itself
abbrev pub can_cast : ColType → TypeOf → Bool
can_cast to None = true
can_cast Bigint (Some Bigint) = true
can_cast Bigint (Some Text) = true
can_cast Bigint (Some Boolean) = false
can_cast Text (Some Bigint) = true
can_cast Text (Some Text) = true
can_cast Text (Some Boolean) = false
can_cast Boolean (Some Bigint) = false
can_cast Boolean (Some Text) = false
can_cast Boolean (Some Boolean) = true

-- the types of min and max
abbrev pub is_ordered : TypeOf → Bool
is_ordered (Some Boolean) = false
is_ordered _ = true

-- ---- values and columns

abbrev pub type_of : Datum → TypeOf
type_of null = None
type_of (int n) = Some Bigint
type_of (text t) = Some Text
type_of (bool b) = Some Boolean

-- none for a column that is not there, as no column that was found is (query_laws::law_admitted)
abbrev pub column_type : List Entry → ColumnId → TypeOf
column_type entries id = option_and_then (λ e. option_map (λ c. c.data_type) (slice_get e.table.columns id.column)) (slice_get entries id.entry)

-- none for a name that does not resolve, which is reported before types are checked
abbrev pub found_type : List Entry → Result ColumnId BindError → TypeOf
found_type entries (Ok id) = column_type entries id
found_type entries (Err fault) = None

-- ---- operations on operands that are well typed

abbrev pub type_if : ℕ → Bool → TypeOf → Typed
type_if offset holds t = if holds then Ok t else Err offset

-- the type of a comparison of values of one type
abbrev pub truth_if_common : ℕ → Option TypeOf → Typed
truth_if_common offset None = Err offset
truth_if_common offset (Some t) = Ok (Some Boolean)

abbrev pub aggregate_type : ℕ → Aggregate → TypeOf → Typed
aggregate_type offset Count t = Ok (Some Bigint)
aggregate_type offset Sum t = type_if offset (fits Bigint t) (Some Bigint)
aggregate_type offset Min t = type_if offset (is_ordered t) t
aggregate_type offset Max t = type_if offset (is_ordered t) t

abbrev pub common_or_fault : ℕ → Option TypeOf → Typed
common_or_fault offset None = Err offset
common_or_fault offset (Some t) = Ok t

-- each WHEN is a condition, and the results have one type
abbrev pub result_type : ℕ → Bool → Option TypeOf → TypeOf → Typed
result_type offset holds known otherwise = if holds then common_or_fault offset (common_of known (Some otherwise)) else Err offset

-- ---- operations

abbrev pub negation_type : ℕ → Typed → Typed
negation_type offset a = and_then a (λ t. type_if offset (fits Bigint t) (Some Bigint))

abbrev pub arithmetic_type : ℕ → Typed → Typed → Typed
arithmetic_type offset a b = and_then (both a b) (λ p. type_if offset (fits Bigint p.0 && fits Bigint p.1) (Some Bigint))

abbrev pub comparison_type : ℕ → Typed → Typed → Typed
comparison_type offset a b = and_then (both a b) (λ p. truth_if_common offset (common p.0 p.1))

-- one of several values
abbrev pub membership_type : ℕ → Typed → List Datum → Typed
membership_type offset a values = and_then a (λ t. truth_if_common offset (common_of_all (t ∷ map type_of values)))

abbrev pub null_check_type : Typed → Typed
null_check_type a = and_then a (λ t. Ok (Some Boolean))

abbrev pub not_type : ℕ → Typed → Typed
not_type offset a = and_then a (λ t. type_if offset (fits Boolean t) (Some Boolean))

abbrev pub cast_type : ℕ → ColType → Typed → Typed
cast_type offset to a = and_then a (λ t. type_if offset (can_cast to t) (Some to))

abbrev pub call_type : ℕ → Aggregate → Typed → Typed
call_type offset aggregate a = and_then a (aggregate_type offset aggregate)

abbrev pub common_type : Typed → Typed → Result (Option TypeOf) ℕ
common_type a b = and_then (both a b) (λ p. Ok (common p.0 p.1))

abbrev pub between_type : ℕ → Typed → Typed → Typed → Typed
between_type offset a b c = and_then (both (common_type a b) c) (λ p. truth_if_common offset (common_of p.0 (Some p.1)))

-- true where it is a condition
abbrev pub is_condition : Typed → Result Bool ℕ
is_condition t = and_then t (λ t. Ok (fits Boolean t))

abbrev pub both_hold : Result Bool ℕ → Result Bool ℕ → Result Bool ℕ
both_hold a b = and_then (both a b) (λ p. Ok (p.0 && p.1))

abbrev pub conditions_type : ℕ → Result Bool ℕ → Typed
conditions_type offset known = and_then known (λ holds. type_if offset holds (Some Boolean))

-- of arms: true where each WHEN is a condition, and the one type of the results
abbrev pub ArmsTyped : Type 0
ArmsTyped = Result (Bool × Option TypeOf) ℕ

abbrev pub arm_type : Typed → Typed → ArmsTyped
arm_type when result = and_then (both when result) (λ p. Ok (fits Boolean p.0, Some p.1))

abbrev pub both_arms : ArmsTyped → ArmsTyped → ArmsTyped
both_arms a b = and_then (both a b) (λ p. Ok (p.0.0 && p.1.0, common_of p.0.1 p.1.1))

abbrev pub case_type : ℕ → ArmsTyped → Typed → Typed
case_type offset arms otherwise = and_then (both arms otherwise) (λ p. result_type offset p.0.0 p.0.1 p.1)

-- ---- expressions

module _ (entries : List Entry) (scope : Scope) where
  abbrev mutual
    pub typed : ast.Expr → Typed
    typed (ast.Column c) = Ok (found_type entries (find_column entries scope c))
    typed (ast.Literal d) = Ok (type_of d)
    typed ast.CurrentUser = Ok (Some Text)
    typed (ast.Negate offset e) = negation_type offset (typed e)
    typed (ast.Arithmetic op offset e f) = arithmetic_type offset (typed e) (typed f)
    typed (ast.Comparison op offset e f) = comparison_type offset (typed e) (typed f)
    typed (ast.Between negated offset e low high) = between_type offset (typed e) (typed low) (typed high)
    typed (ast.In negated offset values e) = membership_type offset (typed e) values
    typed (ast.IsNull negated offset e) = null_check_type (typed e)
    typed (ast.Not offset e) = not_type offset (typed e)
    typed (ast.And offset es) = conditions_type offset (typed_members es)
    typed (ast.Or offset es) = conditions_type offset (typed_members es)
    typed (ast.Cast offset to e) = cast_type offset to (typed e)
    typed (ast.Case offset as_ o) = case_type offset (typed_arms as_) (typed_otherwise o)
    typed (ast.CountStar offset) = Ok (Some Bigint)
    typed (ast.Call aggregate offset e) = call_type offset aggregate (typed e)

    -- true where each member is a condition
    pub typed_members : ast.Exprs → Result Bool ℕ
    typed_members ast.no_expr = Ok true
    typed_members (ast.one_expr e es) = both_hold (is_condition (typed e)) (typed_members es)

    pub typed_arms : ast.Arms → ArmsTyped
    typed_arms ast.no_arm = Ok (true, Some None)
    typed_arms (ast.one_arm when result as_) = both_arms (arm_type (typed when) (typed result)) (typed_arms as_)

    -- without ELSE it is NULL
    pub typed_otherwise : ast.Otherwise → Typed
    typed_otherwise ast.Nothing = Ok None
    typed_otherwise (ast.Value e) = typed e

  -- an expression that is to be a condition, and its offset
  abbrev pub typed_condition : ℕ → ast.Expr → Typed
  typed_condition offset e = and_then (typed e) (λ t. type_if offset (fits Boolean t) t)
