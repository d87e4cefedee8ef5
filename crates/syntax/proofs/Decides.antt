-- One token decides in the rules of whole texts.
use Rattle.std.proofs.Common.{◌≡◌, true, false, refl}
use Rattle.row_grammar.proofs.Check.{good}
use Rattle.row_reader.specs.Language.{language, is, of}
use Rattle.row_reader.specs.Expressions.{nested_first, name, names, dot_name, column, columns, type_name, word_literal, unsigned_literal, literal, value, value_list, parenthesized, cast, arm, arms, otherwise, case, counted_rows, count_tail, count, aggregate_tail, aggregate, constant, plain_column, multiplication, addition, comparison_sign, aggregate_name, primary, unary, factor, product, addend, sum, between, in_list, range, negated_range, range_tail, ranged_sum, compared_with, comparison, null_word, is_null, null_test, negation, and_operand, conjunction, or_operand, expression}
use Rattle.row_reader.proofs.Decides.{kinds, nested_ext}
use Rattle.row_queries.specs.From.{condition, table_alias, table_ref, on_condition, plain_join, join, join_list, from_item, from, joined_left, left_join, left_joins}
use Rattle.row_queries.specs.Queries.{select_alias, select_item, select_items, select_list, filter, group_by, having, sort_target, direction, sort_key, sort_keys, order_by, limit, clauses, query}
use Rattle.row_statements.specs.Creates.{superuser, bypass_rls, new_role, column_type, not_null, column_def, column_defs, new_table, new_index, strength, command, policy_roles, using, new_policy, create}
use Rattle.row_statements.specs.Schemas.{owner, security_setting, security, alteration, alter, grant_columns, granted, granting, grant, revoke, drop, statement, ended_statement, schema}

pub query_good : good language nested_first nested_ext kinds false query ≡ true
unfolding is of condition select_alias select_item select_items select_list table_alias table_ref on_condition plain_join join join_list from_item from joined_left left_join left_joins filter group_by having sort_target direction sort_key sort_keys order_by limit clauses query name names dot_name column columns type_name word_literal unsigned_literal literal value value_list parenthesized cast arm arms otherwise case counted_rows count_tail count aggregate_tail aggregate constant plain_column multiplication addition comparison_sign aggregate_name primary unary factor product addend sum between in_list range negated_range range_tail ranged_sum compared_with comparison null_word is_null null_test negation and_operand conjunction or_operand expression
query_good = refl

pub schema_good : good language nested_first nested_ext kinds false schema ≡ true
unfolding is of superuser bypass_rls new_role column_type not_null column_def column_defs new_table new_index strength command policy_roles using new_policy create owner security_setting security alteration alter grant_columns granted granting grant revoke drop statement ended_statement schema name names dot_name column columns type_name word_literal unsigned_literal literal value value_list parenthesized cast arm arms otherwise case counted_rows count_tail count aggregate_tail aggregate constant plain_column multiplication addition comparison_sign aggregate_name primary unary factor product addend sum between in_list range negated_range range_tail ranged_sum compared_with comparison null_word is_null null_test negation and_operand conjunction or_operand expression
schema_good = refl

pub statement_good : good language nested_first nested_ext kinds false statement ≡ true
unfolding is of superuser bypass_rls new_role column_type not_null column_def column_defs new_table new_index strength command policy_roles using new_policy create owner security_setting security alteration alter grant_columns granted granting grant revoke drop statement ended_statement schema name names dot_name column columns type_name word_literal unsigned_literal literal value value_list parenthesized cast arm arms otherwise case counted_rows count_tail count aggregate_tail aggregate constant plain_column multiplication addition comparison_sign aggregate_name primary unary factor product addend sum between in_list range negated_range range_tail ranged_sum compared_with comparison null_word is_null null_test negation and_operand conjunction or_operand expression
statement_good = refl
