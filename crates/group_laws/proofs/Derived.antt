-- The offsets of the aggregates of a query are, in order, those of tokens that it is derived from.
use Rattle.std.proofs.Common.{◌≡◌, ℕ, zero, suc, ◌⊎◌, inl, inr, List, [], ◌∷◌, ◌++◌, map, Option, Some, None, refl, sym, ap, ◌∙◌, append_assoc, Bool}
use Rattle.std.specs.List.{flat_map}
use Rattle.std.proofs.lemmas.List.{append-nil}
use Rattle.value.specs.declared.operators.Aggregate.{Aggregate}
use Rattle.value.specs.declared.operators.Arithmetic as arithmetic
use Rattle.value.specs.declared.operators.Comparison as compare
use Rattle.row_grammar.specs.Grammar.{inner}
use Rattle.row_grammar.specs.Limits.{Deep}
use Rattle.row_tokens.specs.Tokens.{Token}
use Rattle.row_ast.specs.Ast as ast
use Rattle.row_ast.specs.Ast.{Expr, Exprs, And, Or, Query, and_members, arms_of, exprs_of, list_of, no_expr, one_expr, or_members}
use Rattle.row_reader.specs.Language.{Located, Nested, Rule, a_negation, a_unary, an_expression}
use Rattle.row_reader.specs.Expressions.{Argument, Bounds, CallSuffix, Dotted, Range, Star, Values, addend, aggregate, aggregate_name, and_of, and_operand, arm, arms, between, called, case, cast, compared, compared_with, comparison, conjunction, constant, count, counted, expression, factor, folded_left, in_list, negated_range, negation, null_test, null_tested, or_of, or_operand, otherwise, parenthesized, plain_column, primary, product, range, range_tail, ranged, ranged_sum, rule, sum, unary}
use Rattle.row_queries.specs.From.{condition}
use Rattle.row_queries.specs.Queries.{clauses, having, query, select_item, select_items, select_list}
use Rattle.group_laws.specs.Calls.{all_call_offsets, arms_call_offsets, call_offsets, condition_call_offsets, item_call_offsets, otherwise_call_offsets, query_call_offsets, select_call_offsets}
use Rattle.group_laws.proofs.Rules.{HasOffsets, of_after, of_both, of_either, of_first, of_inside, of_listed, of_made, of_many, of_maybe, of_nest, of_none, of_nothing, of_word}

-- ---- the offsets of the parts that rules make

abbrev offsets_in : Located → List ℕ
offsets_in x = call_offsets x.1

-- of an operand after its operator
abbrev after_operator : {X : Type 0} → X × Located → List ℕ
after_operator p = offsets_in p.1

abbrev range_offsets : Range → List ℕ
range_offsets (Bounds n low high) = call_offsets low ++ call_offsets high
range_offsets (Values n values) = []

abbrev tail_offsets : Option (Option ℕ × Range) → List ℕ
tail_offsets None = []
tail_offsets (Some p) = range_offsets p.1

abbrev further_offsets : Option ((ℕ × compare.Comparison) × Located) → List ℕ
further_offsets None = []
further_offsets (Some p) = offsets_in p.1

abbrev arm_offsets : Expr × Expr → List ℕ
arm_offsets a = call_offsets a.0 ++ call_offsets a.1

folded : (x : Located) (ys : List ((ℕ × arithmetic.Arithmetic) × Located)) → offsets_in x ++ flat_map after_operator ys ≡ offsets_in (folded_left x ys)
folded x [] = append-nil (offsets_in x)
folded x (y ∷ ys) = sym (append_assoc (offsets_in x) (offsets_in y.1) (flat_map after_operator ys)) ∙ folded (x.0, ast.Arithmetic y.0.1 y.0.0 x.1 y.1.1) ys

in_range : (x : Located) (r : Option (Option ℕ × Range)) → offsets_in x ++ tail_offsets r ≡ offsets_in (ranged x r)
in_range x None = append-nil (offsets_in x)
in_range x (Some (n, Bounds m low high)) = refl
in_range x (Some (n, Values m values)) = append-nil (offsets_in x)

in_comparison : (x : Located) (p : Option ((ℕ × compare.Comparison) × Located)) → offsets_in x ++ further_offsets p ≡ offsets_in (compared x p)
in_comparison x None = append-nil (offsets_in x)
in_comparison x (Some p) = refl

in_null_test : (x : Located) (p : Option (ℕ × Bool)) → offsets_in x ++ [] ≡ offsets_in (null_tested x p)
in_null_test x None = append-nil (offsets_in x)
in_null_test x (Some p) = append-nil (offsets_in x)

in_arms : (as_ : List (Expr × Expr)) → flat_map arm_offsets as_ ≡ arms_call_offsets (arms_of as_)
in_arms [] = refl
in_arms (a ∷ as_) = append_assoc (call_offsets a.0) (call_offsets a.1) (flat_map arm_offsets as_) ∙ ap (λ l. call_offsets a.0 ++ (call_offsets a.1 ++ l)) (in_arms as_)

-- ---- AND and OR, with members merged

joined : (xs ys : List Expr) → all_call_offsets (exprs_of (xs ++ ys)) ≡ all_call_offsets (exprs_of xs) ++ all_call_offsets (exprs_of ys)
joined [] ys = refl
joined (x ∷ xs) ys = ap (λ l. call_offsets x ++ l) (joined xs ys) ∙ sym (append_assoc (call_offsets x) (all_call_offsets (exprs_of xs)) (all_call_offsets (exprs_of ys)))

listed_again : (es : Exprs) → exprs_of (list_of es) ≡ es
listed_again no_expr = refl
listed_again (one_expr e es) = ap (one_expr e) (listed_again es)

and_merged : (e : Expr) → call_offsets e ≡ all_call_offsets (exprs_of (and_members e))
and_merged (And n es) = sym (ap all_call_offsets (listed_again es))
and_merged e = sym (append-nil (call_offsets e))

or_merged : (e : Expr) → call_offsets e ≡ all_call_offsets (exprs_of (or_members e))
or_merged (Or n es) = sym (ap all_call_offsets (listed_again es))
or_merged e = sym (append-nil (call_offsets e))

module _ (members : Expr → List Expr) (merged : (e : Expr) → call_offsets e ≡ all_call_offsets (exprs_of (members e))) where
  one_more : (e : Expr) (more : List ℕ) (es : List Expr) → more ≡ all_call_offsets (exprs_of es) → call_offsets e ++ more ≡ all_call_offsets (exprs_of (members e ++ es))
  one_more e more es is = ap (λ l. l ++ more) (merged e) ∙ ap (λ l. all_call_offsets (exprs_of (members e)) ++ l) is ∙ sym (joined (members e) es)

  later_members : (ys : List (Token × Located)) → flat_map after_operator ys ≡ all_call_offsets (exprs_of (flat_map members (map (λ (z : Token × Located). z.1.1) ys)))
  later_members [] = refl
  later_members (y ∷ ys) = one_more y.1.1 (flat_map after_operator ys) (flat_map members (map (λ (z : Token × Located). z.1.1) ys)) (later_members ys)

  all_members : (x : Located) (ys : List (Token × Located)) → offsets_in x ++ flat_map after_operator ys ≡ all_call_offsets (exprs_of (flat_map members (x.1 ∷ map (λ (z : Token × Located). z.1.1) ys)))
  all_members x ys = one_more x.1 (flat_map after_operator ys) (flat_map members (map (λ (z : Token × Located). z.1.1) ys)) (later_members ys)

in_and : (x : Located) (ys : List (Token × Located)) → offsets_in x ++ flat_map after_operator ys ≡ offsets_in (and_of x ys)
in_and x [] = append-nil (offsets_in x)
in_and x (y ∷ ys) = all_members and_members and_merged x (y ∷ ys)

in_or : (x : Located) (ys : List (Token × Located)) → offsets_in x ++ flat_map after_operator ys ≡ offsets_in (or_of x ys)
in_or x [] = append-nil (offsets_in x)
in_or x (y ∷ ys) = all_members or_members or_merged x (y ∷ ys)

-- ---- aggregates

count_offsets : (p : Token × CallSuffix) → (call_offsets (counted p.0 p.1) ≡ []) ⊎ (call_offsets (counted p.0 p.1) ≡ p.0.at ∷ [])
count_offsets (t, Star) = inr refl
count_offsets (t, Argument e) = inr refl
count_offsets (t, Dotted n) = inl refl

called_offsets : (p : (Token × Aggregate) × CallSuffix) → (call_offsets (called p.0 p.1) ≡ []) ⊎ (call_offsets (called p.0 p.1) ≡ p.0.0.at ∷ [])
called_offsets (t, Star) = inr refl
called_offsets (t, Argument e) = inr refl
called_offsets (t, Dotted n) = inl refl

-- ---- the rules, where those that are a level deeper are so

module _ (w d : ℕ) where
  abbrev Has : {A : Type 0} → Rule A → (A → List ℕ) → Type 0
  Has f offsets = HasOffsets w d f offsets

  module _ (deeper : (r : Nested) → Has (inner r) offsets_in) where
    parenthesized_has : Has parenthesized offsets_in
    unfolding parenthesized
    parenthesized_has = of_made w d (of_nest w d (of_both w d (deeper an_expression) (of_none w d))) (λ p. append-nil (offsets_in p.1.0))

    cast_has : Has cast offsets_in
    unfolding cast
    cast_has = of_made w d (of_both w d (of_none w d) (of_inside w d (of_both w d (deeper an_expression) (of_none w d)))) (λ p. append-nil (offsets_in p.1.0))

    arm_has : Has arm arm_offsets
    unfolding arm
    arm_has = of_made w d (of_both w d (of_after w d (deeper an_expression)) (of_after w d (deeper an_expression))) (λ p. refl)

    otherwise_has : Has otherwise otherwise_call_offsets
    unfolding otherwise
    otherwise_has = of_either w d (of_made w d (of_after w d (deeper an_expression)) (λ e. refl)) (of_nothing w d refl)

    case_has : Has case offsets_in
    unfolding case arms
    case_has =
        of_made w d (of_nest w d (of_both w d (of_listed w d arm_has arm_has) (of_both w d otherwise_has (of_none w d))))
        (λ p. ap (λ l. flat_map arm_offsets p.1.0 ++ l) (append-nil (otherwise_call_offsets p.1.1.0)) ∙ ap (λ l. l ++ otherwise_call_offsets p.1.1.0) (in_arms p.1.0))

    count_has : Has count offsets_in
    unfolding count
    count_has = of_made w d (of_first w d (of_word w d) count_offsets) (λ p. refl)

    name_has : Has aggregate_name (λ p. p.0.at ∷ [])
    unfolding aggregate_name
    name_has = of_either w d (of_made w d (of_word w d) (λ t. refl)) (of_either w d (of_made w d (of_word w d) (λ t. refl)) (of_made w d (of_word w d) (λ t. refl)))

    aggregate_has : Has aggregate offsets_in
    unfolding aggregate
    aggregate_has = of_made w d (of_first w d name_has called_offsets) (λ p. refl)

    column_has : Has plain_column offsets_in
    unfolding plain_column
    column_has = of_made w d (of_none w d) (λ p. refl)

    constant_has : Has constant offsets_in
    unfolding constant
    constant_has = of_either w d (of_made w d (of_none w d) (λ t. refl)) (of_made w d (of_none w d) (λ p. refl))

    primary_has : Has primary offsets_in
    unfolding primary
    primary_has =
        of_either w d parenthesized_has (of_either w d cast_has (of_either w d case_has (of_either w d column_has
        (of_either w d count_has (of_either w d aggregate_has constant_has)))))

    unary_has : Has unary offsets_in
    unfolding unary
    unary_has = of_either w d (of_made w d (of_nest w d (deeper a_unary)) (λ p. refl)) primary_has

    factor_has : Has factor after_operator
    unfolding factor
    factor_has = of_both w d (of_none w d) unary_has

    product_has : Has product offsets_in
    unfolding product
    product_has = of_made w d (of_both w d unary_has (of_many w d factor_has)) (λ p. folded p.0 p.1)

    addend_has : Has addend after_operator
    unfolding addend
    addend_has = of_both w d (of_none w d) product_has

    sum_has : Has sum offsets_in
    unfolding sum
    sum_has = of_made w d (of_both w d product_has (of_many w d addend_has)) (λ p. folded p.0 p.1)

    between_has : Has between range_offsets
    unfolding between
    between_has = of_made w d (of_both w d (of_none w d) (of_both w d sum_has (of_after w d sum_has))) (λ p. refl)

    in_has : Has in_list range_offsets
    unfolding in_list
    in_has = of_made w d (of_none w d) (λ p. refl)

    range_has : Has range range_offsets
    unfolding range
    range_has = of_either w d between_has in_has

    negated_has : Has negated_range (λ p. range_offsets p.1)
    unfolding negated_range
    negated_has = of_made w d (of_both w d (of_none w d) range_has) (λ p. refl)

    tail_has : Has range_tail tail_offsets
    unfolding range_tail
    tail_has =
        of_either w d (of_made w d negated_has (λ p. refl)) (of_either w d (of_made w d between_has (λ r. refl))
        (of_either w d (of_made w d in_has (λ r. refl)) (of_nothing w d refl)))

    ranged_has : Has ranged_sum offsets_in
    unfolding ranged_sum
    ranged_has = of_made w d (of_both w d sum_has tail_has) (λ p. in_range p.0 p.1)

    compared_has : Has compared_with after_operator
    unfolding compared_with
    compared_has = of_both w d (of_none w d) ranged_has

    comparison_has : Has comparison offsets_in
    unfolding comparison
    comparison_has = of_made w d (of_both w d ranged_has (of_maybe w d compared_has (λ p. refl) refl)) (λ p. in_comparison p.0 p.1)

    null_test_has : Has null_test offsets_in
    unfolding null_test
    null_test_has = of_made w d (of_both w d comparison_has (of_none w d)) (λ p. in_null_test p.0 p.1)

    negation_has : Has negation offsets_in
    unfolding negation
    negation_has = of_either w d (of_made w d (of_nest w d (deeper a_negation)) (λ p. refl)) null_test_has

    and_operand_has : Has and_operand after_operator
    unfolding and_operand
    and_operand_has = of_both w d (of_none w d) negation_has

    conjunction_has : Has conjunction offsets_in
    unfolding conjunction
    conjunction_has = of_made w d (of_both w d negation_has (of_many w d and_operand_has)) (λ p. in_and p.0 p.1)

    or_operand_has : Has or_operand after_operator
    unfolding or_operand
    or_operand_has = of_both w d (of_none w d) conjunction_has

    expression_has : Has expression offsets_in
    unfolding expression
    expression_has = of_made w d (of_both w d conjunction_has (of_many w d or_operand_has)) (λ p. in_or p.0 p.1)

    nested_has : (r : Nested) → Has (rule r) offsets_in
    nested_has an_expression = expression_has
    nested_has a_negation = negation_has
    nested_has a_unary = unary_has

    -- ---- queries

    item_has : Has select_item item_call_offsets
    unfolding select_item
    item_has = of_made w d (of_both w d expression_has (of_none w d)) (λ p. append-nil (offsets_in p.0))

    select_has : Has select_list select_call_offsets
    unfolding select_list select_items
    select_has = of_either w d (of_made w d (of_none w d) (λ t. refl)) (of_made w d (of_listed w d item_has (of_after w d item_has)) (λ is. refl))

    condition_has : Has condition (λ c. call_offsets c.predicate)
    unfolding condition
    condition_has = of_made w d expression_has (λ p. refl)

    having_has : Has having condition_call_offsets
    unfolding having
    having_has = of_maybe w d (of_after w d condition_has) (λ c. refl) refl

    clauses_has : Has clauses (λ c. condition_call_offsets c.having)
    unfolding clauses
    clauses_has =
        of_made w d (of_both w d (of_none w d) (of_both w d (of_none w d) (of_both w d having_has (of_none w d))))
        (λ p. append-nil (condition_call_offsets p.1.1.0))

    query_has : Has query query_call_offsets
    unfolding query
    query_has = of_made w d (of_after w d (of_both w d select_has (of_after w d (of_both w d (of_none w d) (of_both w d (of_none w d) clauses_has))))) (λ p. refl)

-- ---- level by level

deeper_has : (w d : ℕ) (r : Nested) → HasOffsets w d (inner r) offsets_in
unfolding Deep
deeper_has w zero r = record { passes = λ ts t us s. absurd s }
deeper_has w (suc d) r = record { passes = (nested_has w d (deeper_has w d) r).passes }

pub query_passes : (w d : ℕ) → HasOffsets w d query query_call_offsets
query_passes w d = query_has w d (deeper_has w d)
