-- Plans as spec data. Entries, columns and conjuncts count from 1.
use Rattle.std.specs.Prelude.{ℕ, List, Option}
use Rattle.value.specs.Names.{Name}
use Rattle.row_ast.specs.Ast.{Expr}
use Rattle.algebra.specs.Steps.{Step}
use Rattle.plan_texts.specs.declared.plan.PlanStep.{PlanStep}
use Rattle.plan_texts.specs.declared.plan.SortColumn.{SortColumn}

-- an entry of FROM: its alias, and the columns of its table
pub record PlanEntry : Type 0 where
  pub alias : Name
  pub columns : List Name

-- the ON of an entry that is joined by a left join
pub record OnCondition : Type 0 where
  pub entry : ℕ
  pub condition : Expr

-- no step, or a step for each entry, each with whether it is a left join
pub data PlanCode : Type 0 where
  Empty : PlanCode
  Steps : List PlanStep → PlanCode

-- a plan: its cost, the planning list, the ONs of its left joins, the code, the column of a last sort, and the trail
pub record Plan : Type 0 where
  pub cost : ℕ
  pub filters : List Expr
  pub ons : List OnCondition
  pub code : PlanCode
  pub sort : Option SortColumn
  pub trail : List Step
