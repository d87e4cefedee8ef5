-- The conditions, the tables and their aliases of a query that the grammar makes of a text.
use Rattle.std.proofs.Common.{◌≤◌, ℕ, List, [], ◌∷◌}
use Rattle.std.specs.Prelude.{All}
use Rattle.std.specs.Str.{IsUtf8}
use Rattle.std.proofs.lemmas.List.Elements.{All-head, All-tail}
use Rattle.row_tokens.specs.Slices.{HasQuotes, StandsIn}
use Rattle.row_tokens.specs.Tokens.{Token, words}
use Rattle.row_tokens.proofs.NoNulls.{IsNoNull, no_nulls}
use Rattle.row_tokens.proofs.Offsets.{are_slices}
use Rattle.row_tokens.proofs.Shapes.{are_in_quotes}
use Rattle.row_ast.specs.Ast as ast
use Rattle.row_ast.specs.Ast.{Condition, FromItem, Join, LeftJoin, Query, TableRef}
use Rattle.row_reader.specs.Language.{Rule, name_of, of}
use Rattle.row_reader.specs.Expressions.{depth_limit, grammar, run_limit}
use Rattle.row_grammar.specs.Limits.{Derives}
use Rattle.row_queries.specs.From.{condition, from, from_item, join, join_list, joined_left, left_join, left_joins, on_condition, plain_join, table_alias, table_ref}
use Rattle.row_queries.specs.Queries.{clauses, filter, query}
use Rattle.expr_texts.specs.Filters.{IsName, filter_levels, levels}
use Rattle.expr_texts.proofs.Origin.{queries_fit}
use Rattle.plan_laws.proofs.Grown.{IsGrown}
use Rattle.plan_laws.proofs.Rules.{Each, If, Makes, SomeEach, of_after, of_any, of_both, of_either, of_listed, of_made, of_many, of_maybe, of_second, of_word}
use Rattle.plan_laws.proofs.Derived.{IsGoodToken, expressions_grown, name_yields}
use Rattle.plan_laws.proofs.WordTokens.{IsWellNamed, well_named}
use Rattle.plan_laws.proofs.QuotedTokens.{literal_utf8}

-- ---- what holds of the parts

-- an expression as the grammar makes it, within the levels of a filter
pub record IsGrownCondition (c : Condition) : Type 0 where
  pub grown : IsGrown c.predicate
  pub shallow : levels c.predicate ≤ filter_levels

-- the table and its alias have names of the grammar
pub record IsGrownTable (t : TableRef) : Type 0 where
  pub alias : If IsName t.alias
  pub table : IsName t.table

abbrev pub IsGrownJoin : Join → Type 0
IsGrownJoin (ast.Inner t on_) = IsGrownTable t × IsGrownCondition on_
IsGrownJoin (ast.Cross t) = IsGrownTable t

pub record IsGrownItem (f : FromItem) : Type 0 where
  pub first : IsGrownTable f.first
  pub joins : Each IsGrownJoin f.joins

pub record IsGrownLeft (l : LeftJoin) : Type 0 where
  pub table : IsGrownTable l.table
  pub on : IsGrownCondition l.on_

pub record IsGrownQuery (q : Query) : Type 0 where
  pub from : Each IsGrownItem q.from
  pub lefts : Each IsGrownLeft q.lefts
  pub filter : If IsGrownCondition q.filter

-- ---- the rules

abbrev Yields : {A : Type 0} → Rule A → (A → Type 0) → Type 0
Yields f P = Makes IsGoodToken run_limit depth_limit f P

condition_yields : Yields condition IsGrownCondition
unfolding condition
condition_yields =
    of_made IsGoodToken run_limit depth_limit {P = λ x. IsGrown x.1 × (levels x.1 ≤ filter_levels)}
    (record { holds = λ ts t us s g. ((expressions_grown run_limit depth_limit).holds ts t us s g, queries_fit ts us t.0 t.1 s) })
    (λ p h. record { grown = h.0; shallow = h.1 })

alias_yields : Yields table_alias (If IsName)
unfolding table_alias
alias_yields =
    of_either IsGoodToken run_limit depth_limit
    (of_made IsGoodToken run_limit depth_limit (of_after IsGoodToken run_limit depth_limit (name_yields run_limit depth_limit)) (λ n h. h))
    (of_maybe IsGoodToken run_limit depth_limit (name_yields run_limit depth_limit))

table_yields : Yields table_ref IsGrownTable
unfolding table_ref of
table_yields =
    of_made IsGoodToken run_limit depth_limit
    (of_both IsGoodToken run_limit depth_limit {P = λ t. IsName (name_of t)} (of_word IsGoodToken run_limit depth_limit (λ t g h. g.named h)) alias_yields)
    (λ p h. record { alias = h.1; table = h.0 })

on_yields : Yields on_condition IsGrownCondition
unfolding on_condition
on_yields = of_after IsGoodToken run_limit depth_limit condition_yields

plain_yields : Yields plain_join IsGrownJoin
unfolding plain_join
plain_yields = of_made IsGoodToken run_limit depth_limit (of_after IsGoodToken run_limit depth_limit (of_both IsGoodToken run_limit depth_limit table_yields on_yields)) (λ p h. h)

join_yields : Yields join IsGrownJoin
unfolding join
join_yields =
    of_either IsGoodToken run_limit depth_limit
    (of_made IsGoodToken run_limit depth_limit (of_after IsGoodToken run_limit depth_limit (of_after IsGoodToken run_limit depth_limit table_yields)) (λ t h. h))
    (of_either IsGoodToken run_limit depth_limit (of_after IsGoodToken run_limit depth_limit plain_yields) plain_yields)

item_yields : Yields from_item IsGrownItem
unfolding from_item join_list
item_yields =
    of_made IsGoodToken run_limit depth_limit (of_both IsGoodToken run_limit depth_limit table_yields (of_many IsGoodToken run_limit depth_limit join_yields))
    (λ p h. record { first = h.0; joins = h.1 })

from_yields : Yields from (SomeEach IsGrownItem)
unfolding from
from_yields = of_listed IsGoodToken run_limit depth_limit item_yields (of_after IsGoodToken run_limit depth_limit item_yields)

joined_left_yields : Yields joined_left IsGrownLeft
unfolding joined_left
joined_left_yields =
    of_made IsGoodToken run_limit depth_limit (of_after IsGoodToken run_limit depth_limit (of_both IsGoodToken run_limit depth_limit table_yields on_yields))
    (λ p h. record { table = h.0; on = h.1 })

lefts_yield : Yields left_joins (Each IsGrownLeft)
unfolding left_join left_joins
lefts_yield =
    of_many IsGoodToken run_limit depth_limit
    (of_after IsGoodToken run_limit depth_limit (of_either IsGoodToken run_limit depth_limit (of_after IsGoodToken run_limit depth_limit joined_left_yields) joined_left_yields))

filter_yields : Yields filter (If IsGrownCondition)
unfolding filter
filter_yields = of_maybe IsGoodToken run_limit depth_limit (of_after IsGoodToken run_limit depth_limit condition_yields)

clauses_yields : Yields clauses (λ c. If IsGrownCondition c.filter)
unfolding clauses
clauses_yields = of_made IsGoodToken run_limit depth_limit (of_both IsGoodToken run_limit depth_limit filter_yields (of_any IsGoodToken run_limit depth_limit)) (λ p h. h.0)

each_of_some : (items : List FromItem) → SomeEach IsGrownItem items → Each IsGrownItem items
each_of_some [] h = tt
each_of_some (f ∷ items) h = h

query_yields : Yields query IsGrownQuery
unfolding query
query_yields =
    of_made IsGoodToken run_limit depth_limit
    (of_after IsGoodToken run_limit depth_limit
    (of_second IsGoodToken run_limit depth_limit
    (of_after IsGoodToken run_limit depth_limit (of_both IsGoodToken run_limit depth_limit from_yields (of_both IsGoodToken run_limit depth_limit lefts_yield clauses_yields)))))
    (λ p h. record { from = each_of_some p.1.0 h.0; lefts = h.1.0; filter = h.1.1 })

-- ---- a text

-- its tokens are good
good_token : (source : List ℕ) (w : Token) → IsUtf8 source → IsWellNamed w → IsNoNull w → StandsIn source w → HasQuotes w → IsGoodToken w
good_token source w u named no_null stands quotes = record { named = named; quoted = λ is. (no_null is, literal_utf8 source w.bytes w.at u stands (quotes is)) }

good_tokens : (source : List ℕ) (ws : List Token) → IsUtf8 source → All IsWellNamed ws → All IsNoNull ws → All (StandsIn source) ws → All HasQuotes ws → Each IsGoodToken ws
good_tokens source [] u a b c d = tt
good_tokens source (w ∷ ws) u a b c d = (
  good_token source w u (All-head IsWellNamed w ws a) (All-head IsNoNull w ws b) (All-head (StandsIn source) w ws c) (All-head HasQuotes w ws d),
  good_tokens source ws u (All-tail IsWellNamed w ws a) (All-tail IsNoNull w ws b) (All-tail (StandsIn source) w ws c) (All-tail HasQuotes w ws d),
)

-- so is its query
pub queries_grown : (source : List ℕ) (q : Query) → IsUtf8 source → Derives grammar run_limit depth_limit query (words source) q [] → IsGrownQuery q
queries_grown source q u s =
    query_yields.holds (words source) q [] s (good_tokens source (words source) u (well_named source) (no_nulls source) (are_slices source) (are_in_quotes source))
