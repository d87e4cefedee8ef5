-- The rules of the operators that bind alike, and of AND and OR.
use Rattle.std.specs.Prelude.{ℕ}
use Rattle.value.specs.declared.operators.Arithmetic.{Arithmetic}
use Rattle.row_grammar.specs.Grammar.{word, both}
use Rattle.row_tokens.specs.Tokens.{Token}
use Rattle.row_reader.specs.Expressions.{unary, factor, product, addend, sum, negation, conjunction, expression}
use Rattle.row_reader.specs.Language.{Located, Rule, is}
use Rattle.row_reader.specs.declared.reader.Class.{Class}
use Rattle.row_reader.specs.declared.reader.Class.TheVariants as class
use Rattle.row_expressions.specs.declared.build.Connective.{Connective}
use Rattle.row_expressions.specs.declared.build.Connective.TheVariants as connective
use Rattle.row_expressions.specs.Connectives.{connective_word}
use Rattle.row_expressions.specs.declared.expressions.Level.{Level}
use Rattle.row_expressions.specs.declared.expressions.Level.TheVariants as level

-- ---- operators of numbers

-- the signs of the operators
abbrev pub sign_class : Level → Class
sign_class level.Product = class.Multiplication
sign_class level.Sum = class.Addition

-- an operand
abbrev pub operand_rule : Level → Rule Located
operand_rule level.Product = unary
operand_rule level.Sum = product

-- a sign and a further operand
abbrev pub next_rule : Level → Rule ((ℕ × Arithmetic) × Located)
next_rule level.Product = factor
next_rule level.Sum = addend

-- an operand and further ones
abbrev pub run_rule : Level → Rule Located
run_rule level.Product = product
run_rule level.Sum = sum

-- ---- AND and OR

-- an operand
abbrev pub member_rule : Connective → Rule Located
member_rule connective.And = negation
member_rule connective.Or = conjunction

-- the word and a further operand
abbrev pub next_member_rule : Connective → Rule (Token × Located)
next_member_rule c = both (word (is (connective_word c))) (member_rule c)

-- an operand and further ones
abbrev pub connected_rule : Connective → Rule Located
connected_rule connective.And = conjunction
connected_rule connective.Or = expression
