-- Laws of every expression.
use Rattle.std.specs.Prelude.{◌≡◌, ℕ, true, List, Contains, IsOk}
use Rattle.expr.specs.declared.bound.ColumnId.{ColumnId}
use Rattle.expr.specs.Bound.{BoundExpr}
use Rattle.expr.specs.Columns.{columns}
use Rattle.expr.specs.Aggregates.{AggregateCall, aggregates}
use Rattle.expr.specs.Movable.{movable}
use Rattle.eval.specs.Meaning.{Cells, meaning}

-- a movable expression never faults
abbrev pub MovableNeverFaults : Type 0
MovableNeverFaults = (cells : Cells) (role : List ℕ) (e : BoundExpr) → movable e ≡ true → IsOk (meaning cells role e)

-- the same cells in the columns, and the same aggregates
pub record AgreeOn (ids : List ColumnId) (one other : Cells) : Type 0 where
  pub columns : (id : ColumnId) → Contains ids id → one.column id ≡ other.column id
  pub aggregates : (offset : ℕ) → one.aggregate offset ≡ other.aggregate offset

-- an expression has the same outcome where the columns that it names, and the aggregates, are the same
abbrev pub ReadsItsColumns : Type 0
ReadsItsColumns = (one other : Cells) (role : List ℕ) (e : BoundExpr) → AgreeOn (columns e) one other → meaning one role e ≡ meaning other role e

-- the same cells in all columns, and the same values of these aggregates
pub record AgreeOnCalls (calls : List AggregateCall) (one other : Cells) : Type 0 where
  pub columns : (id : ColumnId) → one.column id ≡ other.column id
  pub aggregates : (call : AggregateCall) → Contains calls call → one.aggregate call.offset ≡ other.aggregate call.offset

-- an expression has the same outcome where the columns, and the aggregates that it names, are the same
abbrev pub ReadsItsAggregates : Type 0
ReadsItsAggregates = (one other : Cells) (role : List ℕ) (e : BoundExpr) → AgreeOnCalls (aggregates e) one other → meaning one role e ≡ meaning other role e
