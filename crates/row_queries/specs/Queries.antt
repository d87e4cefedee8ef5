-- The grammar of queries: a definition for each rule.
use Rattle.std.specs.Prelude.{ℕ, Bool, true, false, List, [], Option}
use Rattle.row_grammar.specs.Grammar.{word, nothing, both, either, made}
use Rattle.row_tokens.specs.declared.token.TokenKind.TheVariants as k
use Rattle.row_ast.specs.Ast as ast
use Rattle.value.specs.Names.{Name}
use Rattle.row_ast.specs.Ast.{ColumnRef, Condition, SelectItem, SelectList, FromItem, LeftJoin, SortTarget, SortKey, Query}
use Rattle.row_reader.specs.Language.{Rule, is, of, maybe, after, comma_list, name_of}
use Rattle.row_reader.specs.Expressions.{name, columns, expression}
use Rattle.row_reader.specs.declared.reader.Class.TheVariants as c
use Rattle.row_queries.specs.From.{condition, from, left_joins}

-- ---- trees

-- the clauses after FROM
pub record Clauses : Type 0 where
  pub filter : Option Condition
  pub group_by : List ColumnRef
  pub having : Option Condition
  pub order_by : List SortKey
  pub limit : Option ℕ

abbrev pub query_with : SelectList → List FromItem → List LeftJoin → Clauses → Query
query_with s items lefts rest = record { select = s; from = items; lefts = lefts; filter = rest.filter; group_by = rest.group_by; having = rest.having; order_by = rest.order_by; limit = rest.limit }

-- ---- items

-- [AS name]
unfoldable pub select_alias : Rule (Option Name)
select_alias = maybe (after (is k.As) name)

-- select_item := expr [AS name]
unfoldable pub select_item : Rule SelectItem
select_item = made (λ p. record { value = p.0.1; alias = p.1 }) (both expression select_alias)

unfoldable pub select_items : Rule (List SelectItem)
select_items = comma_list select_item

-- items := * | select_item {, select_item}
unfoldable pub select_list : Rule SelectList
select_list = either (made (λ w. ast.All w.at) (word (is k.Star))) (made ast.Items select_items)

-- ---- the clauses after it

unfoldable pub filter : Rule (Option Condition)
filter = maybe (after (is k.Where) condition)

-- [GROUP BY col {, col}]
unfoldable pub group_by : Rule (List ColumnRef)
group_by = either (after (is k.Group) (after (is k.By) columns)) (nothing [])

unfoldable pub having : Rule (Option Condition)
having = maybe (after (is k.Having) condition)

-- name | number
unfoldable pub sort_target : Rule (ℕ × SortTarget)
sort_target = either (made (λ w. (w.at, ast.Position w.number)) (word (is k.Number))) (made (λ w. (w.at, ast.Heading (name_of w))) (word (of c.Name)))

-- [ASC | DESC]
unfoldable pub direction : Rule Bool
direction = either (made (λ w. true) (word (is k.Desc))) (either (made (λ w. false) (word (is k.Asc))) (nothing false))

-- sort_key := (name | number) [ASC | DESC]
unfoldable pub sort_key : Rule SortKey
sort_key = made (λ p. record { target = p.0.1; descending = p.1; offset = p.0.0 }) (both sort_target direction)

unfoldable pub sort_keys : Rule (List SortKey)
sort_keys = comma_list sort_key

-- [ORDER BY sort_key {, sort_key}]
unfoldable pub order_by : Rule (List SortKey)
order_by = either (after (is k.Order) (after (is k.By) sort_keys)) (nothing [])

-- [LIMIT number]
unfoldable pub limit : Rule (Option ℕ)
limit = maybe (made (λ w. w.number) (after (is k.Limit) (word (is k.Number))))

-- [WHERE expr] [GROUP BY col {, col}] [HAVING expr] [ORDER BY sort_key {, sort_key}] [LIMIT number]
unfoldable pub clauses : Rule Clauses
clauses = made (λ p. record { filter = p.0; group_by = p.1.0; having = p.1.1.0; order_by = p.1.1.1.0; limit = p.1.1.1.1 })
    (both filter (both group_by (both having (both order_by limit))))

-- query := SELECT items FROM from {LEFT [OUTER] JOIN table_ref ON expr} clauses
unfoldable pub query : Rule Query
query = made (λ p. query_with p.0 p.1.0 p.1.1.0 p.1.1.1) (after (is k.Select) (both select_list (after (is k.From) (both from (both left_joins clauses)))))
