-- The grammar of names, literals and expressions: a definition for each rule.
use Rattle.std.specs.Prelude.{ℕ, ℤ, pos, neg_ℤ, Bool, true, false, ◌||◌, List, [], ◌∷◌, map, Option, Some, None, is_some, unwrap_or, if◌then◌else◌}
use Rattle.std.specs.List.{flat_map}
use Rattle.row_grammar.specs.Grammar.{word, nothing, both, either, made, many, nest, inner, Grammar}
use Rattle.row_tokens.specs.declared.token.TokenKind.{TokenKind}
use Rattle.row_tokens.specs.declared.token.TokenKind.TheVariants as k
use Rattle.row_tokens.specs.Tokens.{Token, quoted_value}
use Rattle.value.specs.Datum.{Datum, null, int, text, bool}
use Rattle.value.specs.Exact.{is_bigint}
use Rattle.value.specs.declared.types.ColType.{ColType}
use Rattle.value.specs.declared.types.ColType.TheVariants as types
use Rattle.value.specs.declared.operators.Arithmetic.{Arithmetic}
use Rattle.value.specs.declared.operators.Arithmetic.TheVariants as sign
use Rattle.value.specs.declared.operators.Comparison.{Comparison}
use Rattle.value.specs.declared.operators.Comparison.TheVariants as sign'
use Rattle.value.specs.declared.operators.Aggregate.{Aggregate}
use Rattle.value.specs.declared.operators.Aggregate.TheVariants as function
use Rattle.row_ast.specs.Ast as ast
use Rattle.value.specs.Names.{Name}
use Rattle.row_ast.specs.Ast.{ColumnRef, Expr, exprs_of, arms_of, and_members, or_members, Otherwise}
use Rattle.row_reader.specs.Language.{Nested, an_expression, a_negation, a_unary, Located, Tree, language, Rule, is, of, is_name, maybe, after, inside, listed, comma_list, name_of}
use Rattle.row_reader.specs.declared.reader.Class.TheVariants as c

-- ---- trees

abbrev pub column_ref : Token → Option Name → ColumnRef
column_ref w None = record { table = None; name = name_of w; offset = w.at }
column_ref w (Some n) = record { table = Some (name_of w); name = n; offset = w.at }

abbrev pub column_expr : Token → Option Name → Expr
column_expr w n = ast.Column (column_ref w n)

-- a number of 64 bits; no token is a greater one
abbrev pub number_of : ℤ → Datum
number_of z = int (if is_bigint z then z else pos 0)

-- operators bind from the left
abbrev pub folded_left : Located → List ((ℕ × Arithmetic) × Located) → Located
folded_left x [] = x
folded_left x (y ∷ ys) = folded_left (x.0, ast.Arithmetic y.0.1 y.0.0 x.1 y.1.1) ys

-- AND of several; a member that is itself an AND is merged
abbrev pub and_of : Located → List (Token × Located) → Located
and_of x [] = x
and_of x (y ∷ ys) = (x.0, ast.And y.0.at (exprs_of (flat_map and_members (x.1 ∷ map (λ z. z.1.1) (y ∷ ys)))))

abbrev pub or_of : Located → List (Token × Located) → Located
or_of x [] = x
or_of x (y ∷ ys) = (x.0, ast.Or y.0.at (exprs_of (flat_map or_members (x.1 ∷ map (λ z. z.1.1) (y ∷ ys)))))

abbrev pub compared : Located → Option ((ℕ × Comparison) × Located) → Located
compared x None = x
compared x (Some p) = (x.0, ast.Comparison p.0.1 p.0.0 x.1 p.1.1)

-- the rest of a BETWEEN or IN, with the offset of that word
pub data Range : Type 0 where
  Bounds : (offset : ℕ) → (low high : Expr) → Range
  Values : (offset : ℕ) → (values : List Datum) → Range

-- a range, and the offset of a NOT before it
abbrev pub ranged : Located → Option (Option ℕ × Range) → Located
ranged x None = x
ranged x (Some (n, Bounds offset a b)) = (x.0, ast.Between (is_some n) (unwrap_or n offset) x.1 a b)
ranged x (Some (n, Values offset vs)) = (x.0, ast.In (is_some n) (unwrap_or n offset) vs x.1)

-- the offset of IS, and true where NOT follows
abbrev pub null_tested : Located → Option (ℕ × Bool) → Located
null_tested x None = x
null_tested x (Some p) = (x.0, ast.IsNull p.1 p.0 x.1)

-- the tokens that may follow a word that is a function's name or a column's
pub data CallSuffix : Type 0 where
  -- ( * )
  Star : CallSuffix
  -- ( argument )
  Argument : Expr → CallSuffix
  -- . name, or nothing
  Dotted : Option Name → CallSuffix

abbrev pub counted : Token → CallSuffix → Expr
counted w Star = ast.CountStar w.at
counted w (Argument a) = ast.Call function.Count w.at a
counted w (Dotted n) = column_expr w n

abbrev pub called : Token × Aggregate → CallSuffix → Expr
called p Star = ast.CountStar p.0.at
called p (Argument a) = ast.Call p.1 p.0.at a
called p (Dotted n) = column_expr p.0 n

-- ---- names

unfoldable pub name : Rule Name
name = made name_of (word (of c.Name))

-- name {, name}
unfoldable pub names : Rule (List Name)
names = comma_list name

-- [. name]
unfoldable pub dot_name : Rule (Option Name)
dot_name = maybe (after (is k.Dot) name)

-- col := name [. name]
unfoldable pub column : Rule ColumnRef
column = made (λ p. column_ref p.0 p.1) (both (word (of c.Name)) dot_name)

-- col {, col}
unfoldable pub columns : Rule (List ColumnRef)
columns = comma_list column

-- type := bigint | text
unfoldable pub type_name : Rule ColType
type_name = either (made (λ w. types.Bigint) (word (is k.Bigint))) (made (λ w. types.Text) (word (is k.Text)))

-- ---- literals, each with its offset

-- TRUE | FALSE | NULL
unfoldable pub word_literal : Rule (ℕ × Datum)
word_literal =
    either (made (λ w. (w.at, bool true)) (word (is k.True)))
    (either (made (λ w. (w.at, bool false)) (word (is k.False)))
    (made (λ w. (w.at, null)) (word (is k.Null))))

-- number | text | TRUE | FALSE | NULL
unfoldable pub unsigned_literal : Rule (ℕ × Datum)
unsigned_literal =
    either (made (λ w. (w.at, number_of (pos w.number))) (word (is k.Number)))
    (either (made (λ w. (w.at, text (quoted_value w.bytes))) (word (is k.Quoted)))
    word_literal)

-- lit := - number | unsigned_literal; in an expression another minus is an operator
unfoldable pub literal : Rule (ℕ × Datum)
literal =
    either (made (λ p. (p.0.at, number_of (neg_ℤ (pos p.1.number)))) (both (word (is k.SignedMinus)) (word (of c.Magnitude))))
    unsigned_literal

-- lit in a list of literals, where each minus is a sign
unfoldable pub value : Rule Datum
value =
    either (made (λ p. number_of (neg_ℤ (pos p.1.number))) (both (word (of c.Sign)) (word (of c.Magnitude))))
    (made (λ p. p.1) unsigned_literal)

-- lit {, lit}
unfoldable pub value_list : Rule (List Datum)
value_list = comma_list value

-- ---- operators, each with its offset

-- * | / | %
unfoldable pub multiplication : Rule (ℕ × Arithmetic)
multiplication =
    either (made (λ w. (w.at, sign.Multiply)) (word (is k.Star)))
    (either (made (λ w. (w.at, sign.Divide)) (word (is k.Slash)))
    (made (λ w. (w.at, sign.Remainder)) (word (is k.Percent))))

-- + | -, the minus before a number or not
unfoldable pub addition : Rule (ℕ × Arithmetic)
addition =
    either (made (λ w. (w.at, sign.Add)) (word (is k.Plus)))
    (made (λ w. (w.at, sign.Subtract)) (word (of c.Sign)))

-- = | <> | < | <= | > | >=
unfoldable pub comparison_sign : Rule (ℕ × Comparison)
comparison_sign =
    either (made (λ w. (w.at, sign'.Equal)) (word (is k.Equal)))
    (either (made (λ w. (w.at, sign'.NotEqual)) (word (is k.NotEqual)))
    (either (made (λ w. (w.at, sign'.Less)) (word (is k.Less)))
    (either (made (λ w. (w.at, sign'.LessOrEqual)) (word (is k.LessEqual)))
    (either (made (λ w. (w.at, sign'.Greater)) (word (is k.Greater)))
    (made (λ w. (w.at, sign'.GreaterOrEqual)) (word (is k.GreaterEqual)))))))

-- sum | min | max, with its word
unfoldable pub aggregate_name : Rule (Token × Aggregate)
aggregate_name =
    either (made (λ w. (w, function.Sum)) (word (is k.Sum)))
    (either (made (λ w. (w, function.Min)) (word (is k.Min)))
    (made (λ w. (w, function.Max)) (word (is k.Max))))

-- ---- expressions

-- ( expr )
unfoldable pub parenthesized : Rule Located
parenthesized = made (λ p. (p.0.at, p.1.0.1)) (nest (is k.Open) (both (inner an_expression) (word (is k.Close))))

-- CAST ( expr AS type )
unfoldable pub cast : Rule Located
cast = made (λ p. (p.0.at, ast.Cast p.0.at p.1.1 p.1.0.1)) (both (word (is k.Cast)) (inside (both (inner an_expression) (after (is k.As) type_name))))

-- WHEN expr THEN expr
unfoldable pub arm : Rule (Expr × Expr)
arm = made (λ p. (p.0.1, p.1.1)) (both (after (is k.When) (inner an_expression)) (after (is k.Then) (inner an_expression)))

unfoldable pub arms : Rule (List (Expr × Expr))
arms = listed arm arm

-- [ELSE expr]
unfoldable pub otherwise : Rule Otherwise
otherwise = either (made (λ e. ast.Value e.1) (after (is k.Else) (inner an_expression))) (nothing ast.Nothing)

-- CASE arms [ELSE expr] END
unfoldable pub case : Rule Located
case = made (λ p. (p.0.at, ast.Case p.0.at (arms_of p.1.0) p.1.1.0)) (nest (is k.Case) (both arms (both otherwise (word (is k.End)))))

-- * | expr
unfoldable pub counted_rows : Rule CallSuffix
counted_rows = either (made (λ w. Star) (word (is k.Star))) (made (λ e. Argument e.1) (inner an_expression))

-- count ( * ) | count ( expr ) | count [. name]
unfoldable pub count_tail : Rule CallSuffix
count_tail = either (inside counted_rows) (made Dotted dot_name)

unfoldable pub count : Rule Located
count = made (λ p. (p.0.at, counted p.0 p.1)) (both (word (is k.Count)) count_tail)

-- f ( expr ) | f [. name]
unfoldable pub aggregate_tail : Rule CallSuffix
aggregate_tail = either (made (λ e. Argument e.1) (inside (inner an_expression))) (made Dotted dot_name)

unfoldable pub aggregate : Rule Located
aggregate = made (λ p. (p.0.0.at, called p.0 p.1)) (both aggregate_name aggregate_tail)

-- CURRENT_USER | lit
unfoldable pub constant : Rule Located
constant = either (made (λ w. (w.at, ast.CurrentUser)) (word (is k.CurrentUser))) (made (λ p. (p.0, ast.Literal p.1)) literal)

-- col, its first word being no function's name
unfoldable pub plain_column : Rule Located
plain_column = made (λ p. (p.0.at, column_expr p.0 p.1)) (both (word (of c.PlainName)) dot_name)

-- prim := ( expr ) | CAST .. | CASE .. | col | name ( * ) | name ( expr ) | CURRENT_USER | lit
unfoldable pub primary : Rule Located
primary = either parenthesized (either cast (either case (either plain_column (either count (either aggregate constant)))))

-- un := - un | prim
unfoldable pub unary : Rule Located
unary = either (made (λ p. (p.0.at, ast.Negate p.0.at p.1.1)) (nest (is k.Minus) (inner a_unary))) primary

unfoldable pub factor : Rule ((ℕ × Arithmetic) × Located)
factor = both multiplication unary

-- prod := un {(* | / | %) un}
unfoldable pub product : Rule Located
product = made (λ p. folded_left p.0 p.1) (both unary (many true factor))

unfoldable pub addend : Rule ((ℕ × Arithmetic) × Located)
addend = both addition product

-- sum := prod {(+ | -) prod}
unfoldable pub sum : Rule Located
sum = made (λ p. folded_left p.0 p.1) (both product (many true addend))

-- BETWEEN sum AND sum
unfoldable pub between : Rule Range
between = made (λ p. Bounds p.0.at p.1.0.1 p.1.1.1) (both (word (is k.Between)) (both sum (after (is k.And) sum)))

-- IN ( lit {, lit} )
unfoldable pub in_list : Rule Range
in_list = made (λ p. Values p.0.at p.1) (both (word (is k.In)) (inside value_list))

unfoldable pub range : Rule Range
range = either between in_list

-- NOT range
unfoldable pub negated_range : Rule (ℕ × Range)
negated_range = made (λ p. (p.0.at, p.1)) (both (word (is k.Not)) range)

-- [[NOT] BETWEEN sum AND sum | [NOT] IN ( lit {, lit} )]
unfoldable pub range_tail : Rule (Option (Option ℕ × Range))
range_tail =
    either (made (λ p. Some (Some p.0, p.1)) negated_range)
    (either (made (λ r. Some (None, r)) between)
    (either (made (λ r. Some (None, r)) in_list)
    (nothing None)))

-- rng := sum range_tail
unfoldable pub ranged_sum : Rule Located
ranged_sum = made (λ p. ranged p.0 p.1) (both sum range_tail)

-- (= | <> | < | <= | > | >=) rng
unfoldable pub compared_with : Rule ((ℕ × Comparison) × Located)
compared_with = both comparison_sign ranged_sum

-- cmp := rng [compared_with]
unfoldable pub comparison : Rule Located
comparison = made (λ p. compared p.0 p.1) (both ranged_sum (maybe compared_with))

-- [NOT] NULL
unfoldable pub null_word : Rule Bool
null_word = either (made (λ w. true) (after (is k.Not) (word (is k.Null)))) (made (λ w. false) (word (is k.Null)))

-- IS [NOT] NULL
unfoldable pub is_null : Rule (ℕ × Bool)
is_null = made (λ p. (p.0.at, p.1)) (both (word (is k.Is)) null_word)

-- is := cmp [IS [NOT] NULL]
unfoldable pub null_test : Rule Located
null_test = made (λ p. null_tested p.0 p.1) (both comparison (maybe is_null))

-- not := NOT not | is
unfoldable pub negation : Rule Located
negation = either (made (λ p. (p.0.at, ast.Not p.0.at p.1.1)) (nest (is k.Not) (inner a_negation))) null_test

unfoldable pub and_operand : Rule (Token × Located)
and_operand = both (word (is k.And)) negation

-- and := not {AND not}
unfoldable pub conjunction : Rule Located
conjunction = made (λ p. and_of p.0 p.1) (both negation (many true and_operand))

unfoldable pub or_operand : Rule (Token × Located)
or_operand = both (word (is k.Or)) conjunction

-- expr := and {OR and}
unfoldable pub expression : Rule Located
expression = made (λ p. or_of p.0 p.1) (both conjunction (many true or_operand))

-- ---- the rules that are a level deeper

abbrev pub rule : (r : Nested) → Rule (Tree r)
rule an_expression = expression
rule a_negation = negation
rule a_unary = unary

-- the kinds that start an expression after its minus signs
abbrev pub begins_primary : TokenKind → Bool
begins_primary k.Number = true
begins_primary k.SignedMinus = true
begins_primary k.Quoted = true
begins_primary k.True = true
begins_primary k.False = true
begins_primary k.Null = true
begins_primary k.CurrentUser = true
begins_primary k.Open = true
begins_primary k.Cast = true
begins_primary k.Case = true
begins_primary kind = is_name kind

abbrev pub nested_first : Nested → TokenKind → Bool
nested_first a_unary kind = is k.Minus kind || begins_primary kind
nested_first an_expression kind = is k.Not kind || (is k.Minus kind || begins_primary kind)
nested_first a_negation kind = is k.Not kind || (is k.Minus kind || begins_primary kind)

abbrev pub grammar : Grammar language
grammar = record { rule = rule; inner_first = nested_first }

-- the number of operands that may follow the first of a run
unfoldable pub run_limit : ℕ
run_limit = 63

-- the most levels of a text
unfoldable pub depth_limit : ℕ
depth_limit = 64
