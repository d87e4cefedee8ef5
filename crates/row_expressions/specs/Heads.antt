-- The heads of operands, up to the first expression in them, and the rest of each.
use Rattle.std.specs.Prelude.{◌≡◌, ◌<◌, ⊤, ℕ, List, Option, Some, Result, Ok, Err, option_map}
use denote.Ref.{Bor}
use Rattle.memory.specs.Gives.{IsFailure}
use Rattle.memory.specs.declared.failure.Failure.{Failure}
use Rattle.row_ast.specs.Ast as ast
use Rattle.row_grammar.specs.Grammar.{inner, made, nest}
use Rattle.row_grammar.specs.Decoder.{◌>>=◌, Outcome, word_at}
use Rattle.row_grammar.specs.Limits.{deep_at, reads}
use Rattle.row_grammar.specs.declared.error.ReadError.{ReadError}
use Rattle.row_tokens.specs.declared.token.Token.{Token as Lexed}
use Rattle.row_tokens.specs.declared.token.TokenKind.TheVariants as k
use Rattle.row_tokens.specs.View.{words_of}
use Rattle.row_tokens.specs.Tokens.{Token}
use Rattle.row_reader.specs.Expressions.{Bounds, Range, arms, grammar, negated_range, otherwise, sum}
use Rattle.row_reader.specs.Language.{Located, Rule, an_expression, a_unary, is, kind_of}
use Rattle.row_expressions.specs.GoesOn.{case_step, cast_step}
use Rattle.row_expressions.specs.View.{located, signed_of}
use Rattle.row_expressions.specs.declared.heads.Head.{Head}
use Rattle.row_expressions.specs.declared.heads.Head.TheVariants as head
use Rattle.row_expressions.specs.declared.heads.Opened.{Opened}
use Rattle.row_expressions.specs.declared.heads.Opened.TheVariants as opened
use Rattle.row_expressions.specs.declared.ranges.RangeHead.{RangeHead}
use Rattle.row_expressions.specs.declared.ranges.RangeHead.TheVariants as range

-- ---- reading a part, and then the rest

-- the due result is that of the rest over the part that was read and the words after it; or it is the error of reading,
-- unless memory ran out
abbrev pub LeadsTo : {R Y : Type 0} → (R → List Token → Outcome Token Y) → Result (R × Bor (List Lexed)) (Failure ReadError) → Outcome Token Y → Type 0
LeadsTo rest (Ok x) due = due ≡ rest x.0 (words_of x.1.now)
LeadsTo rest (Err e) due = IsFailure e due

-- ---- an operand

-- the rest of ( expr ), CAST ( expr AS type ) or f ( expr ), after the expression
abbrev pub opened_step : ℕ → ℕ → Opened → Located → List Token → Outcome Token Located
opened_step w d (opened.Parenthesis at) x us = word_at kind_of (is k.Close) us >>= λ z. Ok ((at, x.1), z.1)
opened_step w d (opened.Cast at) x us = cast_step w d at x us
opened_step w d (opened.Call word f) x us = word_at kind_of (is k.Close) us >>= λ z. Ok ((word.offset, ast.Call f word.offset x.1), z.1)

-- the rest of a CASE, after the word
abbrev pub case_rest : ℕ → ℕ → ℕ → List Token → Outcome Token Located
case_rest w d at us = reads grammar w d arms us >>= λ a. reads grammar w d otherwise a.1 >>= λ o. case_step at a.0 o.0 o.1

-- - un
abbrev pub minus_rule : Rule Located
minus_rule = made (λ p. (p.0.at, ast.Negate p.0.at p.1.1)) (nest (is k.Minus) (inner a_unary))

-- the rest of an operand, after its head
abbrev pub operand_rest : {A : Type 0} → ℕ → ℕ → Head A → List Token → Outcome Token Located
operand_rest w d (head.Whole x) us = Ok (located x, us)
operand_rest w d (head.Minus at) us = deep_at grammar w d a_unary us >>= λ x. Ok ((at, ast.Negate at x.0.1), x.1)
operand_rest w d (head.Case at) us = case_rest w d at us
operand_rest w d (head.Opened o) us = deep_at grammar w d an_expression us >>= λ x. opened_step w d o x.0 x.1

-- a level may be opened where an expression follows the head
abbrev pub HasLevel : {A : Type 0} → ℕ → Result (Head A × Bor (List Lexed)) (Failure ReadError) → Type 0
HasLevel d (Ok (head.Whole x, rest)) = ⊤
HasLevel d (Ok (head.Minus at, rest)) = 0 < d
HasLevel d (Ok (head.Case at, rest)) = 0 < d
HasLevel d (Ok (head.Opened o, rest)) = 0 < d
HasLevel d (Err e) = ⊤

-- ---- a range after an operand

-- AND after the low bound of a BETWEEN
abbrev pub low_step : Located → List Token → Outcome Token Located
low_step x us = word_at kind_of (is k.And) us >>= λ z. Ok (x, z.1)

-- the rest of a BETWEEN, after the word
abbrev pub bounds_rest : ℕ → ℕ → ℕ → List Token → Outcome Token Range
bounds_rest w d at us = (reads grammar w d sum us >>= λ x. low_step x.0 x.1) >>= λ x. reads grammar w d sum x.1 >>= λ y. Ok (Bounds at x.0.1 y.0.1, y.1)

-- a range after a NOT
abbrev pub negated_rule : Rule (Option (Option ℕ × Range))
negated_rule = made (λ p. Some (Some p.0, p.1)) negated_range

-- the rest of a range, after its head
abbrev pub range_rest : {A : Type 0} → ℕ → ℕ → RangeHead A → List Token → Outcome Token (Option (Option ℕ × Range))
range_rest w d (range.Whole r) us = Ok (option_map (λ r. signed_of r) r, us)
range_rest w d (range.Between not at) us = bounds_rest w d at us >>= λ r. Ok (Some (not, r.0), r.1)
