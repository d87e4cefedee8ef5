-- The expressions that the grammar makes of good tokens.
use Rattle.std.proofs.Common.{◌≡◌, ℕ, zero, suc, ℤ, pos, neg_ℤ, Bool, true, false, if◌then◌else◌, List, [], ◌∷◌, ◌++◌, map, Option, Some, None, refl}
use Rattle.std.specs.List.{flat_map}
use denote.Enum.Bare.{same_true}
use Rattle.value.specs.Datum.{Datum, text}
use Rattle.value.specs.Exact.{is_bigint}
use Rattle.value.specs.declared.operators.Aggregate.{Aggregate}
use Rattle.value.specs.declared.operators.Arithmetic as arithmetic
use Rattle.value.specs.declared.operators.Comparison as compare
use Rattle.row_grammar.specs.Grammar.{inner}
use Rattle.row_grammar.specs.Limits.{Deep}
use Rattle.row_tokens.specs.contracts.token.TokenKind.{the_type}
use Rattle.row_tokens.specs.declared.token.TokenKind.TheVariants.{Quoted}
use Rattle.row_tokens.specs.Tokens.{Token, quoted_value}
use Rattle.row_ast.specs.Ast as ast
use Rattle.row_ast.specs.Ast.{Expr, Exprs, And, Or, Otherwise, and_members, arms_of, exprs_of, list_of, no_expr, one_expr, or_members}
use Rattle.row_reader.specs.Language.{Located, Nested, Rule, a_negation, a_unary, an_expression, is, is_name, name_of, of}
use Rattle.row_reader.specs.Expressions.{Argument, Bounds, CallSuffix, Dotted, Range, Star, Values, aggregate, and_of, and_operand, arm, arms, between, called, case, cast, compared, compared_with, comparison, conjunction, constant, count, counted, expression, folded_left, in_list, literal, name, negated_range, negation, null_test, null_tested, number_of, or_of, or_operand, otherwise, parenthesized, plain_column, primary, product, range, range_tail, ranged, ranged_sum, rule, sum, unary, unsigned_literal, value, value_list, word_literal}
use Rattle.expr_texts.specs.Filters.{AreArms, AreTwo, IsName, IsSome, is_and, is_or}
use Rattle.plan_laws.proofs.Grown.{AreGrown, AreReadable, ArmsGrown, ElseGrown, IsGrown, IsReadable}
use Rattle.plan_laws.proofs.Rules.{Each, If, Makes, SomeEach, of_after, of_any, of_both, of_either, of_inside, of_listed, of_made, of_many, of_maybe, of_nest, of_nothing, of_second, of_word}

-- a name has the form of names, and a string literal is one that a text can have
pub record IsGoodToken (w : Token) : Type 0 where
  pub named : is_name w.kind ≡ true → IsName (name_of w)
  pub quoted : w.kind ≡ Quoted → IsReadable (text (quoted_value w.bytes))

-- ---- literals

readable_number : (z : ℤ) → IsReadable (number_of z)
readable_number z = (go (is_bigint z) refl, tt)
  where
    go : (b : Bool) → is_bigint z ≡ b → is_bigint (if b then z else pos 0) ≡ true
    go true e = e
    go false e = refl

readable_values : (ds : List Datum) → Each IsReadable ds → AreReadable ds
readable_values [] h = tt
readable_values (d ∷ ds) h = (h.0, readable_values ds h.1)

-- one at least
some_values : (ds : List Datum) → SomeEach IsReadable ds → IsSome ds × AreReadable ds
some_values [] h = absurd h
some_values (d ∷ ds) h = (tt, (h.0, readable_values ds h.1))

-- ---- what holds of the parts that rules make

abbrev Grown : Located → Type 0
Grown x = IsGrown x.1

-- of an operand after its operator
abbrev GrownAfter : {X : Type 0} → X × Located → Type 0
GrownAfter p = IsGrown p.1.1

abbrev RangeGrown : Range → Type 0
RangeGrown (Bounds n low high) = IsGrown low × IsGrown high
RangeGrown (Values n values) = IsSome values × AreReadable values

-- of a range after a NOT
abbrev RangeAfter : {X : Type 0} → X × Range → Type 0
RangeAfter p = RangeGrown p.1

abbrev ArmGrown : Expr × Expr → Type 0
ArmGrown a = IsGrown a.0 × IsGrown a.1

folded_grown : (x : Located) (ys : List ((ℕ × arithmetic.Arithmetic) × Located)) → Grown x → Grown (folded_left x ys)
folded_grown x [] h = h
folded_grown x (y ∷ ys) h = folded_grown (x.0, ast.Arithmetic y.0.1 y.0.0 x.1 y.1.1) ys tt

ranged_grown : (x : Located) (r : Option (Option ℕ × Range)) → Grown x → If RangeAfter r → Grown (ranged x r)
ranged_grown x None h k = h
ranged_grown x (Some (n, Bounds m low high)) h k = (h, k.0, k.1)
ranged_grown x (Some (n, Values m values)) h k = (k.0, k.1, h)

compared_grown : (x : Located) (p : Option ((ℕ × compare.Comparison) × Located)) → Grown x → If GrownAfter p → Grown (compared x p)
compared_grown x None h k = h
compared_grown x (Some p) h k = (h, k)

tested_grown : (x : Located) (p : Option (ℕ × Bool)) → Grown x → Grown (null_tested x p)
tested_grown x None h = h
tested_grown x (Some p) h = h

further_arms : (as_ : List (Expr × Expr)) → Each ArmGrown as_ → ArmsGrown (arms_of as_)
further_arms [] h = tt
further_arms (a ∷ as_) h = (h.0.0, h.0.1, further_arms as_ h.1)

some_arms : (as_ : List (Expr × Expr)) → SomeEach ArmGrown as_ → AreArms (arms_of as_) × ArmsGrown (arms_of as_)
some_arms [] h = absurd h
some_arms (a ∷ as_) h = (tt, (h.0.0, h.0.1, further_arms as_ h.1))

counted_grown : (w : Token) (c : CallSuffix) → IsGrown (counted w c)
counted_grown w Star = tt
counted_grown w (Argument a) = tt
counted_grown w (Dotted n) = tt

called_grown : (p : Token × Aggregate) (c : CallSuffix) → IsGrown (called p c)
called_grown p Star = tt
called_grown p (Argument a) = tt
called_grown p (Dotted n) = tt

-- ---- AND and OR, with members merged

-- one expression at least
abbrev AreSome : List Expr → Type 0
AreSome [] = ⊥
AreSome (e ∷ es) = Unit {0}

two : (es fs : List Expr) → AreSome es → AreSome fs → AreTwo (exprs_of (es ++ fs))
two [] fs h k = absurd h
two (e ∷ []) [] h k = absurd k
two (e ∷ []) (f ∷ fs) h k = tt
two (e ∷ d ∷ es) fs h k = tt

first_of_some : (es fs : List Expr) → AreSome es → AreSome (es ++ fs)
first_of_some [] fs h = absurd h
first_of_some (e ∷ es) fs h = tt

some_of_two : (es : Exprs) → AreTwo es → AreSome (list_of es)
some_of_two no_expr h = absurd h
some_of_two (one_expr e es) h = tt

listed_grown : (merged : Expr → Bool) (es : Exprs) → AreGrown merged es → AreGrown merged (exprs_of (list_of es))
listed_grown merged no_expr h = tt
listed_grown merged (one_expr e es) h = (h.0, h.1, listed_grown merged es h.2)

joined_grown : (merged : Expr → Bool) (es fs : List Expr) → AreGrown merged (exprs_of es) → AreGrown merged (exprs_of fs) → AreGrown merged (exprs_of (es ++ fs))
joined_grown merged [] fs h k = k
joined_grown merged (e ∷ es) fs h k = (h.0, h.1, joined_grown merged es fs h.2 k)

-- the members of an operand: some, and none that is merged
abbrev AreMembers : (Expr → Bool) → List Expr → Type 0
AreMembers merged es = AreSome es × AreGrown merged (exprs_of es)

and_members_grown : (e : Expr) → IsGrown e → AreMembers is_and (and_members e)
and_members_grown (And at es) h = (some_of_two es h.0, listed_grown is_and es h.1)
and_members_grown e h = (tt, (refl, h, tt))

or_members_grown : (e : Expr) → IsGrown e → AreMembers is_or (or_members e)
or_members_grown (Or at es) h = (some_of_two es h.0, listed_grown is_or es h.1)
or_members_grown e h = (tt, (refl, h, tt))

module _ (merged : Expr → Bool) (members : Expr → List Expr) (are : (e : Expr) → IsGrown e → AreMembers merged (members e)) where
  abbrev operands : List (Token × Located) → List Expr
  operands ys = map (λ (z : Token × Located). z.1.1) ys

  later_grown : (ys : List (Token × Located)) → Each GrownAfter ys → AreGrown merged (exprs_of (flat_map members (operands ys)))
  later_grown [] h = tt
  later_grown (y ∷ ys) h = joined_grown merged (members y.1.1) (flat_map members (operands ys)) (are y.1.1 h.0).1 (later_grown ys h.1)

  run_grown : (x : Located) (y : Token × Located) (ys : List (Token × Located)) → Grown x → Each GrownAfter (y ∷ ys)
      → AreTwo (exprs_of (flat_map members (x.1 ∷ operands (y ∷ ys)))) × AreGrown merged (exprs_of (flat_map members (x.1 ∷ operands (y ∷ ys))))
  run_grown x y ys h k =
      let first = are x.1 h in
      let next = first_of_some (members y.1.1) (flat_map members (operands ys)) (are y.1.1 k.0).0 in
      (two (members x.1) (flat_map members (operands (y ∷ ys))) first.0 next, joined_grown merged (members x.1) (flat_map members (operands (y ∷ ys))) first.1 (later_grown (y ∷ ys) k))

and_grown : (x : Located) (ys : List (Token × Located)) → Grown x → Each GrownAfter ys → Grown (and_of x ys)
and_grown x [] h k = h
and_grown x (y ∷ ys) h k = run_grown is_and and_members and_members_grown x y ys h k

or_grown : (x : Located) (ys : List (Token × Located)) → Grown x → Each GrownAfter ys → Grown (or_of x ys)
or_grown x [] h k = h
or_grown x (y ∷ ys) h k = run_grown is_or or_members or_members_grown x y ys h k

-- ---- the rules, where those that are a level deeper are so

module _ (w d : ℕ) where
  abbrev pub Yields : {A : Type 0} → Rule A → (A → Type 0) → Type 0
  Yields f P = Makes IsGoodToken w d f P

  pub name_yields : Yields name IsName
  unfolding name of
  name_yields = of_made IsGoodToken w d {P = λ t. IsName (name_of t)} (of_word IsGoodToken w d (λ t g h. g.named h)) (λ t h. h)

  abbrev ReadableAfter : ℕ × Datum → Type 0
  ReadableAfter p = IsReadable p.1

  word_yields : Yields word_literal ReadableAfter
  unfolding word_literal
  word_yields =
      of_either IsGoodToken w d (of_made IsGoodToken w d (of_any IsGoodToken w d) (λ t h. (tt, tt)))
      (of_either IsGoodToken w d (of_made IsGoodToken w d (of_any IsGoodToken w d) (λ t h. (tt, tt))) (of_made IsGoodToken w d (of_any IsGoodToken w d) (λ t h. (tt, tt))))

  unsigned_yields : Yields unsigned_literal ReadableAfter
  unfolding unsigned_literal is
  unsigned_yields =
      of_either IsGoodToken w d (of_made IsGoodToken w d (of_any IsGoodToken w d) (λ t h. readable_number (pos t.number)))
      (of_either IsGoodToken w d (of_made IsGoodToken w d {P = λ t. IsReadable (text (quoted_value t.bytes))} (of_word IsGoodToken w d (λ t g h. g.quoted (same_true the_type tt t.kind Quoted h))) (λ t h. h)) word_yields)

  literal_yields : Yields literal ReadableAfter
  unfolding literal
  literal_yields = of_either IsGoodToken w d (of_made IsGoodToken w d (of_any IsGoodToken w d) (λ p h. readable_number (neg_ℤ (pos p.1.number)))) unsigned_yields

  value_yields : Yields value IsReadable
  unfolding value
  value_yields = of_either IsGoodToken w d (of_made IsGoodToken w d (of_any IsGoodToken w d) (λ p h. readable_number (neg_ℤ (pos p.1.number)))) (of_made IsGoodToken w d unsigned_yields (λ p h. h))

  values_yield : Yields value_list (SomeEach IsReadable)
  unfolding value_list
  values_yield = of_listed IsGoodToken w d value_yields (of_after IsGoodToken w d value_yields)

  module _ (deeper : (r : Nested) → Yields (inner r) Grown) where
    parenthesized_yields : Yields parenthesized Grown
    unfolding parenthesized
    parenthesized_yields = of_made IsGoodToken w d (of_nest IsGoodToken w d (of_both IsGoodToken w d (deeper an_expression) (of_any IsGoodToken w d))) (λ p h. h.0)

    cast_yields : Yields cast Grown
    unfolding cast
    cast_yields = of_made IsGoodToken w d (of_any IsGoodToken w d) (λ p h. tt)

    arm_yields : Yields arm ArmGrown
    unfolding arm
    arm_yields = of_made IsGoodToken w d (of_both IsGoodToken w d (of_after IsGoodToken w d (deeper an_expression)) (of_after IsGoodToken w d (deeper an_expression))) (λ p h. h)

    else_yields : Yields otherwise ElseGrown
    unfolding otherwise
    else_yields = of_either IsGoodToken w d (of_made IsGoodToken w d (of_after IsGoodToken w d (deeper an_expression)) (λ e h. h)) (of_nothing IsGoodToken w d tt)

    case_yields : Yields case Grown
    unfolding case arms
    case_yields =
        of_made IsGoodToken w d (of_nest IsGoodToken w d (of_both IsGoodToken w d (of_listed IsGoodToken w d arm_yields arm_yields) (of_both IsGoodToken w d else_yields (of_any IsGoodToken w d))))
        (λ p h. let arms_are = some_arms p.1.0 h.0 in (arms_are.0, arms_are.1, h.1.0))

    count_yields : Yields count Grown
    unfolding count
    count_yields = of_made IsGoodToken w d (of_any IsGoodToken w d) (λ p h. counted_grown p.0 p.1)

    aggregate_yields : Yields aggregate Grown
    unfolding aggregate
    aggregate_yields = of_made IsGoodToken w d (of_any IsGoodToken w d) (λ p h. called_grown p.0 p.1)

    column_yields : Yields plain_column Grown
    unfolding plain_column
    column_yields = of_made IsGoodToken w d (of_any IsGoodToken w d) (λ p h. tt)

    constant_yields : Yields constant Grown
    unfolding constant
    constant_yields = of_either IsGoodToken w d (of_made IsGoodToken w d (of_any IsGoodToken w d) (λ t h. tt)) (of_made IsGoodToken w d literal_yields (λ p h. h))

    primary_yields : Yields primary Grown
    unfolding primary
    primary_yields =
        of_either IsGoodToken w d parenthesized_yields (of_either IsGoodToken w d cast_yields (of_either IsGoodToken w d case_yields (of_either IsGoodToken w d column_yields
        (of_either IsGoodToken w d count_yields (of_either IsGoodToken w d aggregate_yields constant_yields)))))

    unary_yields : Yields unary Grown
    unfolding unary
    unary_yields = of_either IsGoodToken w d (of_made IsGoodToken w d (of_any IsGoodToken w d) (λ p h. tt)) primary_yields

    product_yields : Yields product Grown
    unfolding product
    product_yields = of_made IsGoodToken w d (of_both IsGoodToken w d unary_yields (of_any IsGoodToken w d)) (λ p h. folded_grown p.0 p.1 h.0)

    sum_yields : Yields sum Grown
    unfolding sum
    sum_yields = of_made IsGoodToken w d (of_both IsGoodToken w d product_yields (of_any IsGoodToken w d)) (λ p h. folded_grown p.0 p.1 h.0)

    between_yields : Yields between RangeGrown
    unfolding between
    between_yields = of_made IsGoodToken w d (of_second IsGoodToken w d (of_both IsGoodToken w d sum_yields (of_after IsGoodToken w d sum_yields))) (λ p h. h)

    in_yields : Yields in_list RangeGrown
    unfolding in_list
    in_yields = of_made IsGoodToken w d (of_second IsGoodToken w d (of_inside IsGoodToken w d values_yield)) (λ p h. some_values p.1 h)

    range_yields : Yields range RangeGrown
    unfolding range
    range_yields = of_either IsGoodToken w d between_yields in_yields

    negated_yields : Yields negated_range RangeAfter
    unfolding negated_range
    negated_yields = of_made IsGoodToken w d (of_second IsGoodToken w d range_yields) (λ p h. h)

    tail_yields : Yields range_tail (If RangeAfter)
    unfolding range_tail
    tail_yields =
        of_either IsGoodToken w d (of_made IsGoodToken w d negated_yields (λ p h. h))
        (of_either IsGoodToken w d (of_made IsGoodToken w d between_yields (λ r h. h))
        (of_either IsGoodToken w d (of_made IsGoodToken w d in_yields (λ r h. h)) (of_nothing IsGoodToken w d tt)))

    ranged_yields : Yields ranged_sum Grown
    unfolding ranged_sum
    ranged_yields = of_made IsGoodToken w d (of_both IsGoodToken w d sum_yields tail_yields) (λ p h. ranged_grown p.0 p.1 h.0 h.1)

    compared_yields : Yields compared_with GrownAfter
    unfolding compared_with
    compared_yields = of_second IsGoodToken w d ranged_yields

    comparison_yields : Yields comparison Grown
    unfolding comparison
    comparison_yields = of_made IsGoodToken w d (of_both IsGoodToken w d ranged_yields (of_maybe IsGoodToken w d compared_yields)) (λ p h. compared_grown p.0 p.1 h.0 h.1)

    null_test_yields : Yields null_test Grown
    unfolding null_test
    null_test_yields = of_made IsGoodToken w d (of_both IsGoodToken w d comparison_yields (of_any IsGoodToken w d)) (λ p h. tested_grown p.0 p.1 h.0)

    negation_yields : Yields negation Grown
    unfolding negation
    negation_yields = of_either IsGoodToken w d (of_made IsGoodToken w d (of_nest IsGoodToken w d (deeper a_negation)) (λ p h. h)) null_test_yields

    and_operand_yields : Yields and_operand GrownAfter
    unfolding and_operand
    and_operand_yields = of_second IsGoodToken w d negation_yields

    conjunction_yields : Yields conjunction Grown
    unfolding conjunction
    conjunction_yields = of_made IsGoodToken w d (of_both IsGoodToken w d negation_yields (of_many IsGoodToken w d and_operand_yields)) (λ p h. and_grown p.0 p.1 h.0 h.1)

    or_operand_yields : Yields or_operand GrownAfter
    unfolding or_operand
    or_operand_yields = of_second IsGoodToken w d conjunction_yields

    expression_yields : Yields expression Grown
    unfolding expression
    expression_yields = of_made IsGoodToken w d (of_both IsGoodToken w d conjunction_yields (of_many IsGoodToken w d or_operand_yields)) (λ p h. or_grown p.0 p.1 h.0 h.1)

    nested_yields : (r : Nested) → Yields (rule r) Grown
    nested_yields an_expression = expression_yields
    nested_yields a_negation = negation_yields
    nested_yields a_unary = unary_yields

-- ---- level by level

deeper_yields : (w d : ℕ) (r : Nested) → Yields w d (inner r) Grown
unfolding Deep
deeper_yields w zero r = record { holds = λ ts t us s g. absurd s }
deeper_yields w (suc d) r = record { holds = (nested_yields w d (deeper_yields w d) r).holds }

pub expressions_grown : (w d : ℕ) → Yields w d expression (λ x. IsGrown x.1)
expressions_grown w d = expression_yields w d (deeper_yields w d)
