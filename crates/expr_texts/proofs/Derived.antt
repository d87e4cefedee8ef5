-- The grammar derives the tokens expected of the text of an expression with the expression, as one operand.
use Rattle.std.proofs.Common.{◌≡◌, ℕ, ℤ, pos, negsuc, suc, ◌^◌, nat_lt, ◌⊎◌, inl, inr, Bool, true, false, if◌then◌else◌, List, [], ◌∷◌, ◌++◌, codes, Option, Some, None, refl, sym, ap, ◌∙◌, arith}
use Rattle.std.specs.Prelude.{map}
use Rattle.std.specs.List.{flat_map}
use Rattle.row_grammar.specs.Grammar.{many}
use Rattle.row_grammar.specs.Meaning.{Many, at_most}
use Rattle.row_grammar.specs.Limits.{Deep, Derives}
use Rattle.value.specs.Datum.{Datum, null, int, text, bool}
use Rattle.value.specs.Exact.{is_bigint}
use Rattle.value.specs.declared.operators.Comparison as value
use Rattle.value.specs.declared.operators.Comparison.TheVariants as sign
use Rattle.row_tokens.specs.declared.token.TokenKind.{TokenKind}
use Rattle.row_tokens.specs.declared.token.TokenKind.TheVariants as k
use Rattle.row_tokens.specs.Tokens.{Token, quoted, folded, kind_of_word}
use Rattle.row_ast.specs.Ast.{Expr, Exprs, exprs_of, arms_of, and_members, or_members, Arms, Otherwise, Column, Literal, CurrentUser, Comparison, Between, In, IsNull, Not, And, Or, Case, no_expr, one_expr, no_arm, one_arm, Nothing, Value}
use Rattle.row_reader.specs.Language.{Located, Rule, is, of, is_magnitude, is_name, is_plain, after}
use Rattle.row_reader.specs.declared.reader.Class.TheVariants as c
use Rattle.value.specs.declared.operators.Aggregate.TheVariants as function
use Rattle.std.proofs.lemmas.Bool.Decides.{nat_tests}
use Rattle.row_reader.specs.Expressions.{grammar, number_of, column_expr, Dotted, name, dot_name, word_literal, unsigned_literal, literal, parenthesized, constant, plain_column, count_tail, count, aggregate_name, aggregate_tail, aggregate, primary, unary, product, sum, range_tail, ranged_sum, compared_with, comparison_sign, comparison, between, Bounds, Values, in_list, range, negated_range, value_list, value, case, arm, arms, otherwise, is_null, null_word, null_test, negation, and_operand, conjunction, or_operand, expression}
use Rattle.expr_texts.specs.Trees.{without_offsets, all_without_offsets, arms_without_offsets}
use Rattle.expr_texts.specs.Filters.{IsName, IsLiteral, AreLiterals, IsSome, AreTwo, AreArms, is_and, is_or, AreWritten}
use Rattle.row_tokens.proofs.Starts.{plain}
use Rattle.row_tokens.proofs.Lexing.{quoted_is}
use Rattle.expr_texts.proofs.Expected.{named, number, literal_tokens, literals_tokens, further_literal_tokens, sign_token, open_, close, not_, and_, or_, null_, not_tokens}

module _ (w : ℕ) where
  abbrev pub S : {A : Type 0} → ℕ → Rule A → List Token → A → List Token → Type 0
  S d f ts t us = Derives grammar w d f ts t us

  -- ---- an operand alone is each of the looser rules

  as_product : (d : ℕ) (ts : List Token) (t : Located) (us : List Token) → S d primary ts t us → S d product ts t us
  unfolding unary product
  as_product d ts t us s = ((t, []), (us, inr s, refl), refl)

  as_sum : (d : ℕ) (ts : List Token) (t : Located) (us : List Token) → S d primary ts t us → S d sum ts t us
  unfolding sum
  as_sum d ts t us s = ((t, []), (us, as_product d ts t us s, refl), refl)

  as_ranged : (d : ℕ) (ts : List Token) (t : Located) (us : List Token) → S d primary ts t us → S d ranged_sum ts t us
  unfolding ranged_sum range_tail
  as_ranged d ts t us s = ((t, None), (us, as_sum d ts t us s, inr (inr (inr (refl, refl)))), refl)

  from_ranged : (d : ℕ) (ts : List Token) (t : Located) (us : List Token) → S d ranged_sum ts t us → S d comparison ts t us
  unfolding comparison
  from_ranged d ts t us s = ((t, None), (us, s, inr (refl, refl)), refl)

  from_comparison : (d : ℕ) (ts : List Token) (t : Located) (us : List Token) → S d comparison ts t us → S d negation ts t us
  unfolding null_test negation
  from_comparison d ts t us s = inr ((t, None), (us, s, inr (refl, refl)), refl)

  from_negation : (d : ℕ) (ts : List Token) (t : Located) (us : List Token) → S d negation ts t us → S d expression ts t us
  unfolding conjunction expression
  from_negation d ts t us s = ((t, []), (us, ((t, []), (us, s, refl), refl), refl), refl)

  as_negation : (d : ℕ) (ts : List Token) (t : Located) (us : List Token) → S d primary ts t us → S d negation ts t us
  as_negation d ts t us s = from_comparison d ts t us (from_ranged d ts t us (as_ranged d ts t us s))

  pub as_expression : (d : ℕ) (ts : List Token) (t : Located) (us : List Token) → S d primary ts t us → S d expression ts t us
  as_expression d ts t us s = from_negation d ts t us (as_negation d ts t us s)

  -- an expression in parentheses is an operand
  pub in_parens : (d : ℕ) (ts : List Token) (e : Expr) (us : List Token) → S d expression ts (0, e) (close ∷ us) → S (suc d) primary (open_ ∷ ts) (0, e) us
  unfolding primary parenthesized Deep is
  in_parens d ts e us s = inl ((open_, ((0, e), close)), (refl, (ts, refl, refl, (close ∷ us, s, (refl, refl)))), refl)

  -- ---- comparisons

  signs : (op : value.Comparison) (d : ℕ) (ms : List Token) → S d comparison_sign (sign_token op ∷ ms) (0, op) ms
  unfolding comparison_sign is
  signs sign.Equal d ms = inl (sign_token sign.Equal, (refl, refl), refl)
  signs sign.NotEqual d ms = inr (inl (sign_token sign.NotEqual, (refl, refl), refl))
  signs sign.Less d ms = inr (inr (inl (sign_token sign.Less, (refl, refl), refl)))
  signs sign.LessOrEqual d ms = inr (inr (inr (inl (sign_token sign.LessOrEqual, (refl, refl), refl))))
  signs sign.Greater d ms = inr (inr (inr (inr (inl (sign_token sign.Greater, (refl, refl), refl)))))
  signs sign.GreaterOrEqual d ms = inr (inr (inr (inr (inr (sign_token sign.GreaterOrEqual, (refl, refl), refl)))))

  pub compares : (op : value.Comparison) (d : ℕ) (ts ms us : List Token) (e f : Expr) → S d primary ts (0, e) (sign_token op ∷ ms) → S d primary ms (0, f) us → S d expression ts (0, Comparison op 0 e f) us
  unfolding comparison compared_with
  compares op d ts ms us e f s t =
      from_negation d ts (0, Comparison op 0 e f) us (from_comparison d ts (0, Comparison op 0 e f) us
      (((0, e), Some ((0, op), (0, f))), (sign_token op ∷ ms, as_ranged d ts (0, e) (sign_token op ∷ ms) s, inl (((0, op), (0, f)), (ms, signs op d ms, as_ranged d ms (0, f) us t), refl)), refl))

  -- ---- ranges

  from_range : (d : ℕ) (ts : List Token) (t : Located) (us : List Token) → S d ranged_sum ts t us → S d expression ts t us
  from_range d ts t us s = from_negation d ts t us (from_comparison d ts t us (from_ranged d ts t us s))

  -- a range with or without NOT before it
  abbrev marked : Bool → Option ℕ
  marked true = Some 0
  marked false = None

  pub is_between : (d : ℕ) (ls hs us : List Token) (low high : Expr) → S d primary ls (0, low) (and_ ∷ hs) → S d primary hs (0, high) us → S d between (plain k.Between (codes "BETWEEN") ∷ ls) (Bounds 0 low high) us
  unfolding between is
  is_between d ls hs us low high s t = (
    (plain k.Between (codes "BETWEEN"), ((0, low), (0, high))),
    (ls, (refl, refl), (and_ ∷ hs, as_sum d ls (0, low) (and_ ∷ hs) s, ((and_, (0, high)), (hs, (refl, refl), as_sum d hs (0, high) us t), refl))),
    refl,
  )

  between_tail : (negated : Bool) (d : ℕ) (ms us : List Token) (low high : Expr) → S d between ms (Bounds 0 low high) us → S d range_tail (not_tokens negated ms) (Some (marked negated, Bounds 0 low high)) us
  unfolding range_tail negated_range range is
  between_tail true d ms us low high s = inl ((0, Bounds 0 low high), ((not_, Bounds 0 low high), (ms, (refl, refl), inl s), refl), refl)
  between_tail false d ms us low high s = inr (inl (Bounds 0 low high, s, refl))

  pub is_between_of : (negated : Bool) (d : ℕ) (ts ms us : List Token) (e low high : Expr) → S d primary ts (0, e) (not_tokens negated ms) → S d between ms (Bounds 0 low high) us → S d expression ts (0, Between negated 0 e low high) us
  unfolding ranged_sum
  is_between_of true d ts ms us e low high s t =
      from_range d ts (0, Between true 0 e low high) us (((0, e), Some (Some 0, Bounds 0 low high)), (not_ ∷ ms, as_sum d ts (0, e) (not_ ∷ ms) s, between_tail true d ms us low high t), refl)
  is_between_of false d ts ms us e low high s t =
      from_range d ts (0, Between false 0 e low high) us (((0, e), Some (None, Bounds 0 low high)), (ms, as_sum d ts (0, e) ms s, between_tail false d ms us low high t), refl)

  -- ---- IS NULL

  pub tests_null : (negated : Bool) (d : ℕ) (ts us : List Token) (e : Expr) → S d primary ts (0, e) (plain k.Is (codes "IS") ∷ not_tokens negated (null_ ∷ us)) → S d expression ts (0, IsNull negated 0 e) us
  unfolding negation null_test is_null null_word comparison is
  tests_null negated d ts us e s =
      from_negation d ts (0, IsNull negated 0 e) us
      (inr (((0, e), Some (0, negated)), (is_ ∷ not_tokens negated (null_ ∷ us), from_ranged d ts (0, e) _ (as_ranged d ts (0, e) _ s), inl ((0, negated), ((is_, negated), (not_tokens negated (null_ ∷ us), (refl, refl), nulls negated), refl), refl)), refl))
    where
      is_ : Token
      is_ = plain k.Is (codes "IS")

      nulls : (n : Bool) → S d null_word (not_tokens n (null_ ∷ us)) n us
      nulls true = inl (null_, ((not_, null_), (null_ ∷ us, (refl, refl), (refl, refl)), refl), refl)
      nulls false = inr (null_, (refl, refl), refl)

  -- ---- NOT

  pub negates : (d : ℕ) (ts us : List Token) (e : Expr) → S d primary ts (0, e) us → S (suc d) expression (not_ ∷ ts) (0, Not 0 e) us
  unfolding negation Deep is
  negates d ts us e s = from_negation (suc d) (not_ ∷ ts) (0, Not 0 e) us (inl ((not_, (0, e)), (refl, (ts, refl, refl, as_negation d ts (0, e) us s)), refl))

  -- ---- literals

  bigint_is : (z : ℤ) → is_bigint z ≡ true → number_of z ≡ int z
  bigint_is z e = rw e refl

  below : (n : ℕ) → is_bigint (pos n) ≡ true → nat_lt n (2 ^ 63) ≡ true
  below n e = grind (arith, nat_tests)

  a_number : (n : ℕ) → is_bigint (pos n) ≡ true → is k.Number (number n).kind ≡ true
  unfolding is
  a_number n e = rw (below n e) refl

  a_magnitude : (n : ℕ) → of c.Magnitude (number n).kind ≡ true
  unfolding of
  a_magnitude n = go (nat_lt n (2 ^ 63)) where
    go : (q : Bool) → is_magnitude (if q then k.Number else k.MinMagnitude) ≡ true
    go true = refl
    go false = refl

  is_word : (d : ℕ) (x : Datum) (us : List Token) → IsLiteral x → S d literal (literal_tokens x us) (0, x) us
  unfolding literal unsigned_literal word_literal is
  is_word d null us l = inr (inr (inr (inr (inr (null_, (refl, refl), refl)))))
  is_word d (bool true) us l = inr (inr (inr (inl (plain k.True (codes "TRUE"), (refl, refl), refl))))
  is_word d (bool false) us l = inr (inr (inr (inr (inl (plain k.False (codes "FALSE"), (refl, refl), refl)))))
  is_word d (text t) us l = inr (inr (inl (plain k.Quoted (quoted t), (refl, refl), ap (λ v. let p : ℕ × Datum = (0, text v) in p) (sym (quoted_is t)))))
  is_word d (int (pos n)) us l = inr (inl (number n, (refl, a_number n l), ap (λ v. let p : ℕ × Datum = (0, v) in p) (sym (bigint_is (pos n) l))))
  is_word d (int (negsuc n)) us l =
      inl ((plain k.SignedMinus (codes "-"), number (suc n)), (number (suc n) ∷ us, (refl, refl), (refl, a_magnitude (suc n))), ap (λ v. let p : ℕ × Datum = (0, v) in p) (sym (bigint_is (negsuc n) l)))

  is_value : (d : ℕ) (x : Datum) (us : List Token) → IsLiteral x → S d value (literal_tokens x us) x us
  unfolding value unsigned_literal word_literal is of
  is_value d null us l = inr ((0, null), inr (inr (inr (inr (null_, (refl, refl), refl)))), refl)
  is_value d (bool true) us l = inr ((0, bool true), inr (inr (inl (plain k.True (codes "TRUE"), (refl, refl), refl))), refl)
  is_value d (bool false) us l = inr ((0, bool false), inr (inr (inr (inl (plain k.False (codes "FALSE"), (refl, refl), refl)))), refl)
  is_value d (text t) us l = inr ((0, text t), inr (inl (plain k.Quoted (quoted t), (refl, refl), ap (λ v. let p : ℕ × Datum = (0, text v) in p) (sym (quoted_is t)))), refl)
  is_value d (int (pos n)) us l = inr ((0, int (pos n)), inl (number n, (refl, a_number n l), ap (λ v. let p : ℕ × Datum = (0, v) in p) (sym (bigint_is (pos n) l))), refl)
  is_value d (int (negsuc n)) us l =
      inl ((plain k.SignedMinus (codes "-"), number (suc n)), (number (suc n) ∷ us, (refl, refl), (refl, a_magnitude (suc n))), sym (bigint_is (negsuc n) l))

  pub is_constant : (d : ℕ) (x : Datum) (us : List Token) → IsLiteral x → S d primary (literal_tokens x us) (0, Literal x) us
  unfolding primary constant
  is_constant d x us l = inr (inr (inr (inr (inr (inr (inr ((0, x), is_word d x us l, refl)))))))

  pub is_user : (d : ℕ) (us : List Token) → S d primary (plain k.CurrentUser (codes "CURRENT_USER") ∷ us) (0, CurrentUser) us
  unfolding primary constant is
  is_user d us = inr (inr (inr (inr (inr (inr (inl (plain k.CurrentUser (codes "CURRENT_USER"), (refl, refl), refl)))))))

  -- ---- columns

  -- a name is a plain one, or a function's
  name_kinds : (kind : TokenKind) → is_name kind ≡ true → (is_plain kind ≡ true) ⊎ ((kind ≡ k.Count) ⊎ ((kind ≡ k.Sum) ⊎ ((kind ≡ k.Min) ⊎ (kind ≡ k.Max))))
  name_kinds k.Count e = inr (inl refl)
  name_kinds k.Sum e = inr (inr (inl refl))
  name_kinds k.Min e = inr (inr (inr (inl refl)))
  name_kinds k.Max e = inr (inr (inr (inr refl)))
  name_kinds kind e = inl e

  dotted : (d : ℕ) (name : List ℕ) (us : List Token) → IsName name → S d dot_name (plain k.Dot (codes ".") ∷ named name ∷ us) (Some name) us
  unfolding dot_name name is of
  dotted d name us n = inl (name, ((plain k.Dot (codes "."), name), (named name ∷ us, (refl, refl), (named name, (refl, n.not_reserved), sym n.in_lower_case)), refl), refl)

  column_is : (alias name : List ℕ) → folded alias ≡ alias → column_expr (named alias) (Some name) ≡ Column (record { table = Some alias; name = name; offset = 0 })
  column_is alias name e = ap (λ a. Column (record { table = Some a; name = name; offset = 0 })) e

  pub is_column : (d : ℕ) (alias name : List ℕ) (us : List Token) → IsName alias → IsName name
      → S d primary (named alias ∷ plain k.Dot (codes ".") ∷ named name ∷ us) (0, Column (record { table = Some alias; name = name; offset = 0 })) us
  unfolding primary plain_column count count_tail aggregate aggregate_name aggregate_tail is of
  is_column d alias name us a n =
      elim (name_kinds (kind_of_word alias) a.not_reserved) [
        | inl p ↦ inr (inr (inr (inl ((named alias, Some name), (ms, (refl, p), dot), tree))))
        | inr (inl e) ↦ inr (inr (inr (inr (inl ((named alias, Dotted (Some name)), (ms, (refl, ap (is k.Count) e), inr (Some name, dot, refl)), tree)))))
        | inr (inr (inl e)) ↦ inr (inr (inr (inr (inr (inl (((named alias, function.Sum), Dotted (Some name)), (ms, inl (named alias, (refl, ap (is k.Sum) e), refl), inr (Some name, dot, refl)), tree))))))
        | inr (inr (inr (inl e))) ↦ inr (inr (inr (inr (inr (inl (((named alias, function.Min), Dotted (Some name)), (ms, inr (inl (named alias, (refl, ap (is k.Min) e), refl)), inr (Some name, dot, refl)), tree))))))
        | inr (inr (inr (inr e))) ↦ inr (inr (inr (inr (inr (inl (((named alias, function.Max), Dotted (Some name)), (ms, inr (inr (named alias, (refl, ap (is k.Max) e), refl)), inr (Some name, dot, refl)), tree))))))
      ]
    where
      ms : List Token
      ms = plain k.Dot (codes ".") ∷ named name ∷ us

      dot : S d dot_name ms (Some name) us
      dot = dotted d name us n

      tree : ◌≡◌ {A = Located} (0, Column (record { table = Some alias; name = name; offset = 0 })) (0, column_expr (named alias) (Some name))
      tree = ap (λ e. let p : Located = (0, e) in p) (sym (column_is alias name a.in_lower_case))

  -- ---- IN

  abbrev Commas : ℕ → List Token → List Datum → List Token → Type 0
  Commas d ts vs us = S d (many false (after (is k.Comma) value)) ts vs us

  further_values : (d : ℕ) (ds : List Datum) (us : List Token) → AreLiterals ds → Commas d (further_literal_tokens ds us) ds us
  unfolding is
  further_values d [] us l = refl
  further_values d (x ∷ ds) us l =
      (tt, (further_literal_tokens ds us, ((plain k.Comma (codes ","), x), (literal_tokens x (further_literal_tokens ds us), (refl, refl), is_value d x (further_literal_tokens ds us) l.0), refl), further_values d ds us l.1))

  are_values : (d : ℕ) (ds : List Datum) (us : List Token) → IsSome ds → AreLiterals ds → S d value_list (literals_tokens ds us) ds us
  unfolding value_list
  are_values d [] us some l = absurd some
  are_values d (x ∷ ds) us some l = ((x, ds), (further_literal_tokens ds us, is_value d x (further_literal_tokens ds us) l.0, further_values d ds us l.1), refl)

  pub is_in : (d : ℕ) (ds : List Datum) (us : List Token) → IsSome ds → AreLiterals ds → S (suc d) in_list (plain k.In (codes "IN") ∷ open_ ∷ literals_tokens ds (close ∷ us)) (Values 0 ds) us
  unfolding in_list is
  is_in d ds us some l = (
    (plain k.In (codes "IN"), ds),
    (
      open_ ∷ literals_tokens ds (close ∷ us),
      (refl, refl),
      ((open_, (ds, close)), (refl, (literals_tokens ds (close ∷ us), refl, refl, (close ∷ us, are_values (suc d) ds (close ∷ us) some l, (refl, refl)))), refl),
    ),
    refl,
  )

  in_tail : (negated : Bool) (d : ℕ) (ms us : List Token) (ds : List Datum) → S d in_list ms (Values 0 ds) us → S d range_tail (not_tokens negated ms) (Some (marked negated, Values 0 ds)) us
  unfolding range_tail negated_range range is
  in_tail true d ms us ds s = inl ((0, Values 0 ds), ((not_, Values 0 ds), (ms, (refl, refl), inr s), refl), refl)
  in_tail false d ms us ds s = inr (inr (inl (Values 0 ds, s, refl)))

  pub is_in_of : (negated : Bool) (d : ℕ) (ts ms us : List Token) (e : Expr) (ds : List Datum) → S d primary ts (0, e) (not_tokens negated ms) → S d in_list ms (Values 0 ds) us → S d expression ts (0, In negated 0 ds e) us
  unfolding ranged_sum
  is_in_of true d ts ms us e ds s t = from_range d ts (0, In true 0 ds e) us (((0, e), Some (Some 0, Values 0 ds)), (not_ ∷ ms, as_sum d ts (0, e) (not_ ∷ ms) s, in_tail true d ms us ds t), refl)
  is_in_of false d ts ms us e ds s t = from_range d ts (0, In false 0 ds e) us (((0, e), Some (None, Values 0 ds)), (ms, as_sum d ts (0, e) ms s, in_tail false d ms us ds t), refl)

-- ---- AND and OR

-- the further members, each with the word before it
abbrev pub pairs : Token → Exprs → List (Token × Located)
pairs token no_expr = []
pairs token (one_expr e es) = (token, (0, without_offsets e)) ∷ pairs token es

abbrev pub tree_of : Token × Located → Expr
tree_of z = z.1.1

abbrev pub count_of : Exprs → ℕ
count_of no_expr = 0
count_of (one_expr e es) = suc (count_of es)

alone_and : (e : Expr) → is_and e ≡ false → and_members (without_offsets e) ≡ without_offsets e ∷ []
alone_and (And at es) h = cc
alone_and e h = refl

alone_or : (e : Expr) → is_or e ≡ false → or_members (without_offsets e) ≡ without_offsets e ∷ []
alone_or (Or at es) h = cc
alone_or e h = refl

-- members that are not merged stay
stay : (merged : Expr → Bool) (members : Expr → List Expr) → ((e : Expr) → merged e ≡ false → members (without_offsets e) ≡ without_offsets e ∷ [])
    → (token : Token) (es : Exprs) → AreWritten merged es → exprs_of (flat_map members (map tree_of (pairs token es))) ≡ all_without_offsets es
stay merged members alone token no_expr is = refl
stay merged members alone token (one_expr e es) is =
    ap (λ xs. exprs_of (xs ++ flat_map members (map tree_of (pairs token es)))) (alone e is.0) ∙ ap (one_expr (without_offsets e)) (stay merged members alone token es is.2)

module _ (w : ℕ) where
  -- each further member is derived
  abbrev pub Further : ℕ → Rule (Token × Located) → ℕ → List Token → List (Token × Located) → List Token → Type 0
  Further d f n ts ys us = Many (S w d f) (at_most n) ts ys us

  pub joins_and : (d : ℕ) (e : Expr) (es : Exprs) (ts ms us : List Token) → AreTwo (one_expr e es) → AreWritten is_and (one_expr e es) → S w d primary ts (0, without_offsets e) ms → Further d and_operand w ms (pairs and_ es) us
      → S w d expression ts (0, And 0 (all_without_offsets (one_expr e es))) us
  unfolding conjunction expression
  joins_and d e no_expr ts ms us two is s t = absurd two
  joins_and d e (one_expr f es) ts ms us two is s t =
      ((whole, []), (us, (((0, without_offsets e), pairs and_ (one_expr f es)), (ms, as_negation w d ts (0, without_offsets e) ms s, t), ap (λ xs. let p : Located = (0, And 0 xs) in p) (sym tree)), refl), refl)
    where
      whole : Located
      whole = (0, And 0 (all_without_offsets (one_expr e (one_expr f es))))

      tree : exprs_of (flat_map and_members (without_offsets e ∷ map tree_of (pairs and_ (one_expr f es)))) ≡ all_without_offsets (one_expr e (one_expr f es))
      tree = stay is_and and_members alone_and and_ (one_expr e (one_expr f es)) is

  pub joins_or : (d : ℕ) (e : Expr) (es : Exprs) (ts ms us : List Token) → AreTwo (one_expr e es) → AreWritten is_or (one_expr e es) → S w d primary ts (0, without_offsets e) ms → Further d or_operand w ms (pairs or_ es) us
      → S w d expression ts (0, Or 0 (all_without_offsets (one_expr e es))) us
  unfolding conjunction expression
  joins_or d e no_expr ts ms us two is s t = absurd two
  joins_or d e (one_expr f es) ts ms us two is s t =
      (((0, without_offsets e), pairs or_ (one_expr f es)), (ms, (((0, without_offsets e), []), (ms, as_negation w d ts (0, without_offsets e) ms s, refl), refl), t), ap (λ xs. let p : Located = (0, Or 0 xs) in p) (sym tree))
    where
      tree : exprs_of (flat_map or_members (without_offsets e ∷ map tree_of (pairs or_ (one_expr f es)))) ≡ all_without_offsets (one_expr e (one_expr f es))
      tree = stay is_or or_members alone_or or_ (one_expr e (one_expr f es)) is

  -- one further member
  pub next_and : (d : ℕ) (ts us : List Token) (e : Expr) → S w d primary ts (0, e) us → S w d and_operand (and_ ∷ ts) (and_, (0, e)) us
  unfolding and_operand is
  next_and d ts us e s = (ts, (refl, refl), as_negation w d ts (0, e) us s)

  pub next_or : (d : ℕ) (ts us : List Token) (e : Expr) → S w d primary ts (0, e) us → S w d or_operand (or_ ∷ ts) (or_, (0, e)) us
  unfolding or_operand conjunction is
  next_or d ts us e s = (ts, (refl, refl), (((0, e), []), (us, as_negation w d ts (0, e) us s, refl), refl))

  -- ---- CASE

  abbrev pub pairs_of : Arms → List (Expr × Expr)
  pairs_of no_arm = []
  pairs_of (one_arm when result as_) = (without_offsets when, without_offsets result) ∷ pairs_of as_

  pairs_are : (as_ : Arms) → arms_of (pairs_of as_) ≡ arms_without_offsets as_
  pairs_are no_arm = refl
  pairs_are (one_arm when result as_) = ap (one_arm (without_offsets when) (without_offsets result)) (pairs_are as_)

  pub is_arm : (d : ℕ) (ts ms us : List Token) (e f : Expr) → S w d primary ts (0, e) (plain k.Then (codes "THEN") ∷ ms) → S w d primary ms (0, f) us → S w (suc d) arm (plain k.When (codes "WHEN") ∷ ts) (e, f) us
  unfolding arm Deep is
  is_arm d ts ms us e f s t = (
    ((0, e), (0, f)),
    (
      plain k.Then (codes "THEN") ∷ ms,
      ((plain k.When (codes "WHEN"), (0, e)), (ts, (refl, refl), as_expression w d ts (0, e) (plain k.Then (codes "THEN") ∷ ms) s), refl),
      ((plain k.Then (codes "THEN"), (0, f)), (ms, (refl, refl), as_expression w d ms (0, f) us t), refl),
    ),
    refl,
  )

  abbrev pub Arms_ : ℕ → List Token → Arms → List Token → Type 0
  Arms_ d ts as_ us = S w (suc d) (many false arm) ts (pairs_of as_) us

  pub is_else : (d : ℕ) (ts us : List Token) (e : Expr) → S w d primary ts (0, e) us → S w (suc d) otherwise (plain k.Else (codes "ELSE") ∷ ts) (Value e) us
  unfolding otherwise Deep is
  is_else d ts us e s = inl ((0, e), ((plain k.Else (codes "ELSE"), (0, e)), (ts, (refl, refl), as_expression w d ts (0, e) us s), refl), refl)

  pub no_else : (d : ℕ) (us : List Token) → S w d otherwise us Nothing us
  unfolding otherwise
  no_else d us = inr (refl, refl)

  pub is_case : (d : ℕ) (ts ms us : List Token) (as_ : Arms) (o : Otherwise) → AreArms as_ → Arms_ d ts as_ ms → S w (suc d) otherwise ms o (plain k.End (codes "END") ∷ us)
      → S w (suc d) primary (plain k.Case (codes "CASE") ∷ ts) (0, Case 0 (arms_without_offsets as_) o) us
  unfolding primary case arms is
  is_case d ts ms us no_arm o some s t = absurd some
  is_case d ts ms us (one_arm when result as_) o some s t =
      inr (inr (inl (
        (plain k.Case (codes "CASE"), (pairs_of (one_arm when result as_), (o, plain k.End (codes "END")))),
        (refl, (ts, refl, refl, (ms, (((without_offsets when, without_offsets result), pairs_of as_), (s.1.0, s.1.1, s.1.2), refl), (plain k.End (codes "END") ∷ us, t, (refl, refl))))),
        ap (λ xs. let p : Located = (0, Case 0 xs o) in p) (sym (pairs_are (one_arm when result as_))),
      )))
