-- The grammar of FROM: a definition for each rule.
use Rattle.std.specs.Prelude.{false, List, Option, Some}
use Rattle.row_grammar.specs.Grammar.{word, both, either, made, many}
use Rattle.row_tokens.specs.declared.token.TokenKind.TheVariants as k
use Rattle.row_tokens.specs.Tokens.{Token}
use Rattle.row_ast.specs.Ast as ast
use Rattle.value.specs.Names.{Name}
use Rattle.row_ast.specs.Ast.{Condition, TableRef, Join, FromItem, LeftJoin}
use Rattle.row_reader.specs.Language.{Rule, is, of, maybe, after, comma_list, name_of}
use Rattle.row_reader.specs.Expressions.{name, expression}
use Rattle.row_reader.specs.declared.reader.Class.TheVariants as c

abbrev pub table_ref_at : Token → Option Name → TableRef
table_ref_at w alias = record { table = name_of w; alias = alias; offset = w.at }

unfoldable pub condition : Rule Condition
condition = made (λ p. record { predicate = p.1; offset = p.0 }) expression

-- [[AS] name]
unfoldable pub table_alias : Rule (Option Name)
table_alias = either (made Some (after (is k.As) name)) (maybe name)

-- table_ref := name [[AS] name]
unfoldable pub table_ref : Rule TableRef
table_ref = made (λ p. table_ref_at p.0 p.1) (both (word (of c.Name)) table_alias)

-- ON expr
unfoldable pub on_condition : Rule Condition
on_condition = after (is k.On) condition

-- JOIN table_ref ON expr
unfoldable pub plain_join : Rule Join
plain_join = made (λ p. ast.Inner p.0 p.1) (after (is k.Join) (both table_ref on_condition))

-- CROSS JOIN table_ref | [INNER] JOIN table_ref ON expr
unfoldable pub join : Rule Join
join = either (made ast.Cross (after (is k.Cross) (after (is k.Join) table_ref))) (either (after (is k.Inner) plain_join) plain_join)

unfoldable pub join_list : Rule (List Join)
join_list = many false join

-- from_item := table_ref { [INNER] JOIN table_ref ON expr | CROSS JOIN table_ref }
unfoldable pub from_item : Rule FromItem
from_item = made (λ p. record { first = p.0; joins = p.1 }) (both table_ref join_list)

-- from := from_item {, from_item}
unfoldable pub from : Rule (List FromItem)
from = comma_list from_item

-- ---- left joins

-- JOIN table_ref ON expr
unfoldable pub joined_left : Rule LeftJoin
joined_left = made (λ p. record { table = p.0; on_ = p.1 }) (after (is k.Join) (both table_ref on_condition))

-- LEFT [OUTER] JOIN table_ref ON expr
unfoldable pub left_join : Rule LeftJoin
left_join = after (is k.Left) (either (after (is k.Outer) joined_left) joined_left)

unfoldable pub left_joins : Rule (List LeftJoin)
left_joins = many false left_join
