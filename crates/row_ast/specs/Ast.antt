-- Expressions, queries and parts of schema statements as spec data. An offset counts bytes of the text, from 0.
use Rattle.std.specs.Prelude.{ℕ, Bool, true, false, List, [], ◌∷◌, Option, Some, None}
use Rattle.value.specs.Datum.{Datum}
use Rattle.value.specs.declared.types.ColType.{ColType}
use Rattle.value.specs.declared.operators.Arithmetic as value
use Rattle.value.specs.declared.operators.Comparison as value'
use Rattle.value.specs.declared.operators.Aggregate.{Aggregate}
use Rattle.value.specs.Names.{Name}

-- a column as a text names it, and the offset of its first word
pub record ColumnRef : Type 0 where
  pub table : Option Name
  pub name : Name
  pub offset : ℕ

-- ---- expressions; the offset of an operation is that of its word or sign

mutual
  pub data Expr : Type 0 where
    Column : ColumnRef → Expr
    Literal : Datum → Expr
    CurrentUser : Expr
    -- - operand
    Negate : (offset : ℕ) → (operand : Expr) → Expr
    Arithmetic : (operator : value.Arithmetic) → (offset : ℕ) → (left right : Expr) → Expr
    Comparison : (operator : value'.Comparison) → (offset : ℕ) → (left right : Expr) → Expr
    -- operand [NOT] BETWEEN low AND high
    Between : (negated : Bool) → (offset : ℕ) → (operand low high : Expr) → Expr
    -- operand [NOT] IN (value, ..)
    In : (negated : Bool) → (offset : ℕ) → (values : List Datum) → (operand : Expr) → Expr
    -- operand IS [NOT] NULL
    IsNull : (negated : Bool) → (offset : ℕ) → (operand : Expr) → Expr
    Not : (offset : ℕ) → (operand : Expr) → Expr
    -- member AND member AND .., with the offset of the first AND
    And : (offset : ℕ) → (members : Exprs) → Expr
    Or : (offset : ℕ) → (members : Exprs) → Expr
    Cast : (offset : ℕ) → (to : ColType) → (operand : Expr) → Expr
    -- CASE WHEN when THEN result .. ELSE otherwise END
    Case : (offset : ℕ) → (arms : Arms) → (otherwise : Otherwise) → Expr
    -- count(*)
    CountStar : (offset : ℕ) → Expr
    Call : (aggregate : Aggregate) → (offset : ℕ) → (argument : Expr) → Expr

  pub data Exprs : Type 0 where
    no_expr : Exprs
    one_expr : Expr → Exprs → Exprs

  -- WHEN when THEN result
  pub data Arms : Type 0 where
    no_arm : Arms
    one_arm : (when result : Expr) → Arms → Arms

  -- ELSE, if it is written
  pub data Otherwise : Type 0 where
    Nothing : Otherwise
    Value : Expr → Otherwise

abbrev pub exprs_of : List Expr → Exprs
exprs_of [] = no_expr
exprs_of (e ∷ es) = one_expr e (exprs_of es)

abbrev pub list_of : Exprs → List Expr
list_of no_expr = []
list_of (one_expr e es) = e ∷ list_of es

abbrev pub arms_of : List (Expr × Expr) → Arms
arms_of [] = no_arm
arms_of (a ∷ as_) = one_arm a.0 a.1 (arms_of as_)

-- the members of an expression as an operand of AND: its own where it is one
abbrev pub and_members : Expr → List Expr
and_members (And offset es) = list_of es
and_members e = e ∷ []

abbrev pub or_members : Expr → List Expr
or_members (Or offset es) = list_of es
or_members e = e ∷ []

-- ---- queries

-- a condition, and its offset
pub record Condition : Type 0 where
  pub predicate : Expr
  pub offset : ℕ

-- value [AS alias]
pub record SelectItem : Type 0 where
  pub value : Expr
  pub alias : Option Name

-- * or the items
pub data SelectList : Type 0 where
  All : (offset : ℕ) → SelectList
  Items : List SelectItem → SelectList

-- table [[AS] alias], and the offset of the name
pub record TableRef : Type 0 where
  pub table : Name
  pub alias : Option Name
  pub offset : ℕ

-- [INNER] JOIN table ON on, or CROSS JOIN table
pub data Join : Type 0 where
  Inner : (table : TableRef) → (on_ : Condition) → Join
  Cross : (table : TableRef) → Join

-- a table of FROM and its joins
pub record FromItem : Type 0 where
  pub first : TableRef
  pub joins : List Join

-- LEFT JOIN table ON on
pub record LeftJoin : Type 0 where
  pub table : TableRef
  pub on_ : Condition

-- an output column by its heading, or by its position from 1
pub data SortTarget : Type 0 where
  Heading : Name → SortTarget
  Position : ℕ → SortTarget

-- a key of ORDER BY
pub record SortKey : Type 0 where
  pub target : SortTarget
  pub descending : Bool
  pub offset : ℕ

pub record Query : Type 0 where
  pub select : SelectList
  pub from : List FromItem
  pub lefts : List LeftJoin
  pub filter : Option Condition
  pub group_by : List ColumnRef
  pub having : Option Condition
  pub order_by : List SortKey
  pub limit : Option ℕ

-- ---- parts of schema statements

-- SELECT on a table or on some of its columns, and the roles
pub record Grant : Type 0 where
  pub columns : Option (List Name)
  pub table : Name
  pub roles : List Name

-- a policy, and the condition of its USING
pub record CreatePolicy : Type 0 where
  pub name : Name
  pub table : Name
  pub restrictive : Bool
  pub roles : List Name
  pub predicate : Expr

-- ---- parts of queries

-- the column, where an expression is one
abbrev pub column_in : Expr → Option ColumnRef
column_in (Column c) = Some c
column_in _ = None

-- nothing is listed
abbrev pub is_empty : {X : Type 0} → List X → Bool
is_empty [] = true
is_empty (x ∷ xs) = false
