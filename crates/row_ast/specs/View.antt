-- The views of the Rust types of trees as spec data.
use Rattle.std.specs.Prelude.{List, option_map, map}
use Rattle.value.specs.Columns.{column_of}
use Rattle.value.specs.Datum.{datum}
use Rattle.row_ast.specs.Ast as ast
use Rattle.row_ast.specs.Statements as statements
use Rattle.row_ast.specs.declared.expr.ColumnRef.{ColumnRef}
use Rattle.row_ast.specs.declared.expr.Expr.{Expr, Column, Literal, CurrentUser, Negate', Arithmetic', Comparison', Between', In', IsNull', Not', And', Or', Cast', Case', CountStar, Call', Row_of-Expr, end_of-Expr, more_of-Expr, Row_of-Arm, end_of-Arm, more_of-Arm, Held-Expr-Case-2, None', Some'}
use Rattle.row_ast.specs.declared.expr.Arm.{Arm}
use Rattle.row_ast.specs.declared.query.Condition.{Condition}
use Rattle.row_ast.specs.declared.query.SelectItem.{SelectItem}
use Rattle.row_ast.specs.declared.query.SelectList.{SelectList}
use Rattle.row_ast.specs.declared.query.SelectList.TheVariants as select_list
use Rattle.row_ast.specs.declared.query.TableRef.{TableRef}
use Rattle.row_ast.specs.declared.query.Join.{Join}
use Rattle.row_ast.specs.declared.query.Join.TheVariants as join
use Rattle.row_ast.specs.declared.query.FromItem.{FromItem}
use Rattle.row_ast.specs.declared.query.LeftJoin.{LeftJoin}
use Rattle.row_ast.specs.declared.query.SortTarget.{SortTarget}
use Rattle.row_ast.specs.declared.query.SortTarget.TheVariants as sort_target
use Rattle.row_ast.specs.declared.query.SortKey.{SortKey}
use Rattle.row_ast.specs.declared.query.Query.{Query}
use Rattle.row_ast.specs.declared.statement.Grant.{Grant}
use Rattle.row_ast.specs.declared.statement.CreatePolicy.{CreatePolicy}
use Rattle.row_ast.specs.declared.statement.Statement.{Statement}
use Rattle.row_ast.specs.declared.statement.Statement.TheVariants as statement

abbrev pub column_ref_of : {A : Type 0} → ColumnRef A → ast.ColumnRef
column_ref_of c = record { table = c.table; name = c.name; offset = c.offset }

-- ---- expressions

abbrev mutual
  pub expr_of : {A : Type 0} → Expr A → ast.Expr
  expr_of (Column c) = ast.Column (column_ref_of c)
  expr_of (Literal v) = ast.Literal (datum v)
  expr_of CurrentUser = ast.CurrentUser
  expr_of (Negate' offset p a) = ast.Negate offset (expr_of a)
  expr_of (Arithmetic' op offset p a q b) = ast.Arithmetic op offset (expr_of a) (expr_of b)
  expr_of (Comparison' op offset p a q b) = ast.Comparison op offset (expr_of a) (expr_of b)
  expr_of (Between' negated offset p a q b r c) = ast.Between negated offset (expr_of a) (expr_of b) (expr_of c)
  expr_of (In' negated offset vs p a) = ast.In negated offset (map datum vs) (expr_of a)
  expr_of (IsNull' negated offset p a) = ast.IsNull negated offset (expr_of a)
  expr_of (Not' offset p a) = ast.Not offset (expr_of a)
  expr_of (And' offset shape row) = ast.And offset (row_exprs row)
  expr_of (Or' offset shape row) = ast.Or offset (row_exprs row)
  expr_of (Cast' offset to p a) = ast.Cast offset to (expr_of a)
  expr_of (Case' offset shape row o) = ast.Case offset (row_arms row) (held o)
  expr_of (CountStar offset) = ast.CountStar offset
  expr_of (Call' f offset p a) = ast.Call f offset (expr_of a)

  pub row_exprs : {A : Type 0} {n : _} → Row_of-Expr A n → ast.Exprs
  row_exprs end_of-Expr = ast.no_expr
  row_exprs (more_of-Expr e rest) = ast.one_expr (expr_of e) (row_exprs rest)

  pub row_arms : {A : Type 0} {n : _} → Row_of-Arm A n → ast.Arms
  row_arms end_of-Arm = ast.no_arm
  row_arms (more_of-Arm when result rest) = ast.one_arm (expr_of when) (expr_of result) (row_arms rest)

  pub held : {A : Type 0} → Held-Expr-Case-2 A → ast.Otherwise
  held None' = ast.Nothing
  held (Some' p e) = ast.Value (expr_of e)

abbrev pub exprs : {A : Type 0} → List (Expr A) → ast.Exprs
exprs es = ast.exprs_of (map expr_of es)

abbrev pub arm_pair : {A : Type 0} → Arm A → ast.Expr × ast.Expr
arm_pair a = (expr_of a.when, expr_of a.result)

abbrev pub arms : {A : Type 0} → List (Arm A) → ast.Arms
arms as_ = ast.arms_of (map arm_pair as_)

-- ---- queries

abbrev pub condition_of : {A : Type 0} → Condition A → ast.Condition
condition_of c = record { predicate = expr_of c.predicate.value; offset = c.offset }

abbrev pub select_item_of : {A : Type 0} → SelectItem A → ast.SelectItem
select_item_of i = record { value = expr_of i.value.value; alias = i.alias }

abbrev pub select_list_of : {A : Type 0} → SelectList A → ast.SelectList
select_list_of (select_list.All offset) = ast.All offset
select_list_of (select_list.Items items) = ast.Items (map select_item_of items)

abbrev pub table_ref_of : {A : Type 0} → TableRef A → ast.TableRef
table_ref_of t = record { table = t.table; alias = t.alias; offset = t.offset }

abbrev pub join_of : {A : Type 0} → Join A → ast.Join
join_of (join.Inner table on_) = ast.Inner (table_ref_of table) (condition_of on_)
join_of (join.Cross table) = ast.Cross (table_ref_of table)

abbrev pub from_item_of : {A : Type 0} → FromItem A → ast.FromItem
from_item_of f = record { first = table_ref_of f.first; joins = map join_of f.joins }

abbrev pub left_join_of : {A : Type 0} → LeftJoin A → ast.LeftJoin
left_join_of l = record { table = table_ref_of l.table; on_ = condition_of l.on }

abbrev pub sort_target_of : {A : Type 0} → SortTarget A → ast.SortTarget
sort_target_of (sort_target.Heading name) = ast.Heading name
sort_target_of (sort_target.Position n) = ast.Position n

abbrev pub sort_key_of : {A : Type 0} → SortKey A → ast.SortKey
sort_key_of k = record { target = sort_target_of k.target; descending = k.descending; offset = k.offset }

abbrev pub query_of : {A : Type 0} → Query A → ast.Query
query_of q = record {
  select = select_list_of q.select;
  from = map from_item_of q.from;
  lefts = map left_join_of q.lefts;
  filter = option_map condition_of q.filter;
  group_by = map column_ref_of q.group_by;
  having = option_map condition_of q.having;
  order_by = map sort_key_of q.order_by;
  limit = q.limit;
}

-- ---- schema statements

abbrev pub grant_of : {A : Type 0} → Grant A → ast.Grant
grant_of g = record { columns = g.columns; table = g.table; roles = g.roles }

abbrev pub create_policy_of : {A : Type 0} → CreatePolicy A → ast.CreatePolicy
create_policy_of p = record { name = p.name; table = p.table; restrictive = p.restrictive; roles = p.roles; predicate = expr_of p.predicate.value }

abbrev pub statement_of : {A : Type 0} → Statement A → statements.Statement
statement_of (statement.CreateRole name superuser bypass_rls) = statements.CreateRole name superuser bypass_rls
statement_of (statement.GrantRole group member) = statements.GrantRole group member
statement_of (statement.RevokeRole group member) = statements.RevokeRole group member
statement_of (statement.CreateTable name columns) = statements.CreateTable name (map column_of columns)
statement_of (statement.SetOwner table owner) = statements.SetOwner table owner
statement_of (statement.SetRowSecurity table setting) = statements.SetRowSecurity table setting
statement_of (statement.CreateIndex name table column) = statements.CreateIndex name table column
statement_of (statement.GrantSelect grant) = statements.GrantSelect (grant_of grant)
statement_of (statement.RevokeSelect grant) = statements.RevokeSelect (grant_of grant)
statement_of (statement.CreatePolicy policy) = statements.CreatePolicy (create_policy_of policy)
statement_of (statement.DropPolicy name table) = statements.DropPolicy name table
