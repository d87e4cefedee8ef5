use Rattle.std.proofs.Common.{◌≡◌, ℕ, ◌+◌, ◌-◌, ◌*◌, map}
use Rattle.row_grammar.specs.Limits.{reads}
use Rattle.row_tokens.specs.declared.token.TokenKind.TheVariants as k
use Rattle.row_tokens.specs.View.{word_of}
use Rattle.row_reader.specs.Language.{is, of}
use Rattle.row_reader.specs.Expressions as rules
use Rattle.row_reader.specs.Expressions.{grammar, folded_left}
use Rattle.row_ast.specs.View.{expr_of, arm_pair}
use Rattle.row_expressions.specs.Connectives.{connective_word, joined_expr, members_of}
use Rattle.row_expressions.specs.Levels.{connected_rule, next_member_rule, next_rule, run_rule, sign_class}
use Rattle.row_expressions.specs.View.{located}
use Rattle.row_expressions.specs.declared.build.Connective.{Connective}
use Rattle.row_expressions.specs.declared.build.Connective.TheVariants as word
use Rattle.row_expressions.specs.declared.expressions.Level.{Level}
use Rattle.row_expressions.specs.declared.expressions.Level.TheVariants as level
use Rattle.row_reader.proofs.Lists.{listed}
use Rattle.row_expressions.proofs.Runs.{run_on, joined}
use Rattle.row_expressions.proofs.expressions.+expression.Given as goal

abbrev pub decreases-inner_expression : goal.decreases-inner_expression
decreases-inner_expression g l = 30 * l.reader.depth_limit + 0

abbrev pub decreases-keyed : goal.decreases-keyed
decreases-keyed g l = 30 * l.reader.depth_limit + 1

abbrev pub decreases-arm : goal.decreases-arm
decreases-arm g l = 30 * l.reader.depth_limit + 2

abbrev pub decreases-otherwise : goal.decreases-otherwise
decreases-otherwise g l = 30 * l.reader.depth_limit + 2

abbrev pub decreases-arms : goal.decreases-arms
decreases-arms g l = 30 * l.reader.depth_limit + 3

abbrev pub decreases-case : goal.decreases-case
decreases-case g l = 30 * l.reader.depth_limit + 4

abbrev pub decreases-unary : goal.decreases-unary
decreases-unary g l = 30 * l.reader.depth_limit + 6

-- the operators of sums bind less than those of products
abbrev rank : Level → ℕ
rank level.Product = 0
rank level.Sum = 4

abbrev pub decreases-first_operand : goal.decreases-first_operand
decreases-first_operand g l = 30 * l.reader.depth_limit + (7 + rank l.level)

abbrev pub decreases-next_operand : goal.decreases-next_operand
decreases-next_operand g l = 30 * l.reader.depth_limit + (8 + rank l.level)

abbrev pub decreases-operations : goal.decreases-operations
decreases-operations g l = 30 * l.reader.depth_limit + (9 + rank l.level)

abbrev pub decreases-between : goal.decreases-between
decreases-between g l = 30 * l.reader.depth_limit + 15

abbrev pub decreases-range_tail : goal.decreases-range_tail
decreases-range_tail g l = 30 * l.reader.depth_limit + 17

abbrev pub decreases-ranged_sum : goal.decreases-ranged_sum
decreases-ranged_sum g l = 30 * l.reader.depth_limit + 18

abbrev pub decreases-comparison : goal.decreases-comparison
decreases-comparison g l = 30 * l.reader.depth_limit + 20

abbrev pub decreases-negation : goal.decreases-negation
decreases-negation g l = 30 * l.reader.depth_limit + 22

-- OR binds less than AND
abbrev word_rank : Connective → ℕ
word_rank word.And = 0
word_rank word.Or = 3

abbrev pub decreases-first_member : goal.decreases-first_member
decreases-first_member g l = 30 * l.reader.depth_limit + (23 + word_rank l.connective)

abbrev pub decreases-next_member : goal.decreases-next_member
decreases-next_member g l = 30 * l.reader.depth_limit + (24 + word_rank l.connective)

abbrev pub decreases-connected : goal.decreases-connected
decreases-connected g l = 30 * l.reader.depth_limit + (25 + word_rank l.connective)

abbrev pub invariant-operations-loop : goal.invariant-operations-loop
invariant-operations-loop g l = run_on l.reader.run_limit l.reader.depth_limit (next_rule l.level) (of (sign_class l.level)) (folded_left (located l.left)) (l.reader.run_limit - l.counter) (map word_of l.rest) ≡ reads grammar l.reader.run_limit l.reader.depth_limit (run_rule l.level) (map word_of l.tokens)

abbrev pub invariant-connected-loop : goal.invariant-connected-loop
invariant-connected-loop g l = run_on l.reader.run_limit l.reader.depth_limit (next_member_rule l.connective) (is (connective_word l.connective)) (joined (λ ms. joined_expr l.connective l.offset ms) (λ e. members_of l.connective e) l.start (map (λ e. expr_of e) l.members.items)) (l.reader.run_limit - l.counter) (map word_of l.rest) ≡ reads grammar l.reader.run_limit l.reader.depth_limit (connected_rule l.connective) (map word_of l.tokens)

abbrev pub invariant-arms-loop : goal.invariant-arms-loop
invariant-arms-loop g l = listed l.reader.run_limit l.reader.depth_limit (λ a. arm_pair a) rules.arm (is k.When) l.all (l.most - l.counter) (map word_of l.rest) ≡ reads grammar l.reader.run_limit l.reader.depth_limit rules.arms (map word_of l.tokens)
