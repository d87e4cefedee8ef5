-- The text of an expression is read as the expression.
use Rattle.std.proofs.Common.{◌≡◌, ℕ, zero, suc, ◌+◌, ◌≤◌, List, [], ◌∷◌, ◌++◌, length, codes, Option, Some, None, Result, Ok, Err, refl, sym, ap, ◌∙◌, subst, arith}
use Rattle.std.specs.Prelude.{max}
use Rattle.std.proofs.lemmas.List.{length-append, append-nil}
use Rattle.row_grammar.specs.declared.error.ReadError.{ReadError}
use Rattle.row_grammar.specs.Limits.{Derives, whole_at}
use Rattle.row_grammar.proofs.Answer.{found, only}
use Rattle.row_reader.specs.Language.{Located}
use Rattle.row_reader.proofs.Decides.{kinds, nested_ext, decided, expression_good}
use Rattle.row_tokens.specs.declared.token.TokenKind.TheVariants as k
use Rattle.row_tokens.specs.Tokens.{Token, words_from}
use Rattle.row_reader.specs.Expressions.{grammar, primary, expression, and_operand, or_operand, otherwise}
use Rattle.row_ast.specs.Ast.{Expr, Exprs, Arms, Otherwise, Column, Literal, CurrentUser, Negate, Arithmetic, Comparison, Between, In, IsNull, Not, And, Or, Cast, Case, CountStar, Call, no_expr, one_expr, no_arm, one_arm, Nothing, Value}
use Rattle.row_tokens.specs.WithoutOffsets.{words_without_offsets}
use Rattle.expr_texts.specs.Trees.{without_offsets, else_without_offsets}
use Rattle.expr_texts.specs.ExprTexts.{expr_text, members_text, further_text, arms_text, else_text}
use Rattle.expr_texts.specs.Filters.{filter_levels, DerivesFilter, tree_in, IsDetermined, TextsReadBack, IsNamed, is_and, is_or, IsWritten, AreWritten, ArmsWritten, ElseWritten, levels, most_levels, arms_levels, else_levels}
use Rattle.row_tokens.proofs.Starts.{plain}
use Rattle.expr_texts.proofs.Expected.{column_tokens, sign_token, close, and_, or_, not_tokens, literals_tokens, open_, expr_tokens, further_tokens, arms_tokens, else_tokens}
use Rattle.expr_texts.proofs.Lexed.{lexed}
use Rattle.expr_texts.proofs.Derived.{S, as_expression, in_parens, compares, is_between, is_between_of, tests_null, negates, is_constant, is_user, is_column, is_in, is_in_of, pairs, count_of, Further, joins_and, joins_or, next_and, next_or, is_arm, Arms_, is_else, no_else, is_case}

-- ---- the lengths of runs

abbrev mutual
  longest : Expr → ℕ
  longest (Comparison op at e f) = max (longest e) (longest f)
  longest (Between negated at e low high) = max (longest e) (max (longest low) (longest high))
  longest (In negated at values e) = longest e
  longest (IsNull negated at e) = longest e
  longest (Not at e) = longest e
  longest (And at es) = longest_run es
  longest (Or at es) = longest_run es
  longest (Case at as_ o) = max (arms_longest as_) (else_longest o)
  longest _ = 0

  longest_run : Exprs → ℕ
  longest_run no_expr = 0
  longest_run (one_expr e es) = max (longest e) (max (count_of es) (most_longest es))

  most_longest : Exprs → ℕ
  most_longest no_expr = 0
  most_longest (one_expr e es) = max (longest e) (most_longest es)

  arms_longest : Arms → ℕ
  arms_longest no_arm = 0
  arms_longest (one_arm when result as_) = max (longest when) (max (longest result) (arms_longest as_))

  else_longest : Otherwise → ℕ
  else_longest Nothing = 0
  else_longest (Value e) = longest e

-- ---- each expression is an operand

column_derived : (w : ℕ) (table : Option (List ℕ)) (name : List ℕ) → IsNamed table name → (d : ℕ) (us : List Token) → S w d primary (column_tokens table name us) (0, Column (record { table = table; name = name; offset = 0 })) us
column_derived w (Some alias) name is d us = is_column w d alias name us is.0 is.1
column_derived w None name is d us = absurd is

module _ (w : ℕ) where
  mutual
    pub derived : (e : Expr) → IsWritten e → (d : ℕ) → levels e ≤ d → longest e ≤ w → (us : List Token) → S w d primary (expr_tokens e us) (0, without_offsets e) us
    derived (Column c) is d l r us = column_derived w c.table c.name is d us
    derived (Literal x) is d l r us = is_constant w d x us is
    derived CurrentUser is d l r us = is_user w d us
    derived (Comparison op at e f) is zero l r us = absurd (omega arith)
    derived (Comparison op at e f) is (suc d) l r us =
        in_parens w d _ (without_offsets (Comparison op at e f)) us
        (compares w op d _ (expr_tokens f (close ∷ us)) (close ∷ us) (without_offsets e) (without_offsets f)
        (derived e is.0 d (omega arith) (omega arith) (sign_token op ∷ expr_tokens f (close ∷ us))) (derived f is.1 d (omega arith) (omega arith) (close ∷ us)))
    derived (Between negated at e low high) is zero l r us = absurd (omega arith)
    derived (Between negated at e low high) is (suc d) l r us =
        let hs = expr_tokens high (close ∷ us) in
        let ls = expr_tokens low (and_ ∷ hs) in
        in_parens w d _ (without_offsets (Between negated at e low high)) us
        (is_between_of w negated d _ (plain k.Between (codes "BETWEEN") ∷ ls) (close ∷ us) (without_offsets e) (without_offsets low) (without_offsets high)
        (derived e is.0 d (omega arith) (omega arith) (not_tokens negated (plain k.Between (codes "BETWEEN") ∷ ls)))
        (is_between w d ls hs (close ∷ us) (without_offsets low) (without_offsets high) (derived low is.1 d (omega arith) (omega arith) (and_ ∷ hs)) (derived high is.2 d (omega arith) (omega arith) (close ∷ us))))
    derived (In negated at values e) is zero l r us = absurd (omega arith)
    derived (In negated at values e) is (suc zero) l r us = absurd (omega arith)
    derived (In negated at values e) is (suc (suc d)) l r us =
        let ms = plain k.In (codes "IN") ∷ open_ ∷ literals_tokens values (close ∷ close ∷ us) in
        in_parens w (suc d) _ (without_offsets (In negated at values e)) us
        (is_in_of w negated (suc d) _ ms (close ∷ us) (without_offsets e) values (derived e is.2 (suc d) (omega arith) (omega arith) (not_tokens negated ms)) (is_in w d values (close ∷ us) is.0 is.1))
    derived (IsNull negated at e) is zero l r us = absurd (omega arith)
    derived (IsNull negated at e) is (suc d) l r us =
        in_parens w d _ (without_offsets (IsNull negated at e)) us (tests_null w negated d _ (close ∷ us) (without_offsets e) (derived e is d (omega arith) (omega arith) _))
    derived (Not at e) is zero l r us = absurd (omega arith)
    derived (Not at e) is (suc zero) l r us = absurd (omega arith)
    derived (Not at e) is (suc (suc d)) l r us =
        in_parens w (suc d) _ (without_offsets (Not at e)) us (negates w d _ (close ∷ us) (without_offsets e) (derived e is d (omega arith) (omega arith) (close ∷ us)))
    derived (And at es) is zero l r us = absurd (omega arith)
    derived (And at no_expr) is (suc d) l r us = absurd is.0
    derived (And at (one_expr e es)) is (suc d) l r us =
        in_parens w d _ (without_offsets (And at (one_expr e es))) us
        (joins_and w d e es _ _ (close ∷ us) is.0 is.1 (derived e is.1.1 d (omega arith) (omega arith) _) (further_and es is.1.2 d (omega arith) (omega arith) w (omega arith) (close ∷ us)))
    derived (Or at es) is zero l r us = absurd (omega arith)
    derived (Or at no_expr) is (suc d) l r us = absurd is.0
    derived (Or at (one_expr e es)) is (suc d) l r us =
        in_parens w d _ (without_offsets (Or at (one_expr e es))) us
        (joins_or w d e es _ _ (close ∷ us) is.0 is.1 (derived e is.1.1 d (omega arith) (omega arith) _) (further_or es is.1.2 d (omega arith) (omega arith) w (omega arith) (close ∷ us)))
    derived (Case at as_ o) is zero l r us = absurd (omega arith)
    derived (Case at as_ o) is (suc zero) l r us = absurd (omega arith)
    derived (Case at as_ o) is (suc (suc d)) l r us =
        in_parens w (suc d) _ (without_offsets (Case at as_ o)) us
        (as_expression w (suc d) _ (0, without_offsets (Case at as_ o)) (close ∷ us)
        (is_case w d _ _ (close ∷ us) as_ (else_without_offsets o) is.0
        (arms_derived as_ is.1 d (omega arith) (omega arith) (else_tokens o (plain k.End (codes "END") ∷ close ∷ us)))
        (else_derived o is.2 d (omega arith) (omega arith) (plain k.End (codes "END") ∷ close ∷ us))))
    derived (Negate at e) is d l r us = absurd is
    derived (Arithmetic op at e f) is d l r us = absurd is
    derived (Cast at to e) is d l r us = absurd is
    derived (CountStar at) is d l r us = absurd is
    derived (Call f at e) is d l r us = absurd is

    further_and : (es : Exprs) → AreWritten is_and es → (d : ℕ) → most_levels es ≤ d → most_longest es ≤ w → (n : ℕ) → count_of es ≤ n → (us : List Token) → Further w d and_operand n (further_tokens and_ es us) (pairs and_ es) us
    further_and no_expr is d l r n c us = refl
    further_and (one_expr e es) is d l r zero c us = absurd (omega arith)
    further_and (one_expr e es) is d l r (suc n) c us =
        (tt, (further_tokens and_ es us, next_and w d _ (further_tokens and_ es us) (without_offsets e) (derived e is.1 d (omega arith) (omega arith) (further_tokens and_ es us)), further_and es is.2 d (omega arith) (omega arith) n (omega arith) us))

    further_or : (es : Exprs) → AreWritten is_or es → (d : ℕ) → most_levels es ≤ d → most_longest es ≤ w → (n : ℕ) → count_of es ≤ n → (us : List Token) → Further w d or_operand n (further_tokens or_ es us) (pairs or_ es) us
    further_or no_expr is d l r n c us = refl
    further_or (one_expr e es) is d l r zero c us = absurd (omega arith)
    further_or (one_expr e es) is d l r (suc n) c us =
        (tt, (further_tokens or_ es us, next_or w d _ (further_tokens or_ es us) (without_offsets e) (derived e is.1 d (omega arith) (omega arith) (further_tokens or_ es us)), further_or es is.2 d (omega arith) (omega arith) n (omega arith) us))

    arms_derived : (as_ : Arms) → ArmsWritten as_ → (d : ℕ) → arms_levels as_ ≤ d → arms_longest as_ ≤ w → (us : List Token) → Arms_ w d (arms_tokens as_ us) as_ us
    arms_derived no_arm is d l r us = refl
    arms_derived (one_arm when result as_) is d l r us = (
      tt,
      (
        arms_tokens as_ us,
        is_arm w d _ (expr_tokens result (arms_tokens as_ us)) (arms_tokens as_ us) (without_offsets when) (without_offsets result)
            (derived when is.0 d (omega arith) (omega arith) (plain k.Then (codes "THEN") ∷ expr_tokens result (arms_tokens as_ us))) (derived result is.1 d (omega arith) (omega arith) (arms_tokens as_ us)),
        arms_derived as_ is.2 d (omega arith) (omega arith) us,
      ),
    )

    else_derived : (o : Otherwise) → ElseWritten o → (d : ℕ) → else_levels o ≤ d → else_longest o ≤ w → (us : List Token) → S w (suc d) otherwise (else_tokens o us) (else_without_offsets o) us
    else_derived Nothing is d l r us = no_else w (suc d) us
    else_derived (Value e) is d l r us = is_else w d _ us (without_offsets e) (derived e is d (omega arith) (omega arith) us)

-- ---- no run is longer than the text

size : (s t : List ℕ) → length (s ++ t) ≡ length s + length t
size s t = length-append s t

mutual
  fits : (e : Expr) → longest e ≤ length (expr_text e)
  fits (Column c) = omega arith
  fits (Literal x) = omega arith
  fits CurrentUser = omega arith
  fits (Comparison op at e f) = let a = fits e in let b = fits f in simp size (omega arith)
  fits (Between negated at e low high) = let a = fits e in let b = fits low in let c = fits high in simp size (omega arith)
  fits (In negated at values e) = let a = fits e in simp size (omega arith)
  fits (IsNull negated at e) = let a = fits e in simp size (omega arith)
  fits (Not at e) = let a = fits e in simp size (omega arith)
  fits (And at es) = let a = run_fits (codes " AND ") (omega arith) es in simp size (omega arith)
  fits (Or at es) = let a = run_fits (codes " OR ") (omega arith) es in simp size (omega arith)
  fits (Case at as_ o) = let a = arms_fit as_ in let b = else_fits o in simp size (omega arith)
  fits _ = omega arith

  run_fits : (separator : List ℕ) → 1 ≤ length separator → (es : Exprs) → longest_run es ≤ length (members_text separator es)
  run_fits separator s no_expr = omega arith
  run_fits separator s (one_expr e es) = let a = fits e in let b = further_fit separator s es in simp size (omega arith)

  further_fit : (separator : List ℕ) → 1 ≤ length separator → (es : Exprs) → (count_of es ≤ length (further_text separator es)) × (most_longest es ≤ length (further_text separator es))
  further_fit separator s no_expr = (omega arith, omega arith)
  further_fit separator s (one_expr e es) = let a = fits e in let b = further_fit separator s es in (simp size (omega arith), simp size (omega arith))

  arms_fit : (as_ : Arms) → arms_longest as_ ≤ length (arms_text as_)
  arms_fit no_arm = omega arith
  arms_fit (one_arm when result as_) = let a = fits when in let b = fits result in let c = arms_fit as_ in simp size (omega arith)

  else_fits : (o : Otherwise) → else_longest o ≤ length (else_text o)
  else_fits Nothing = omega arith
  else_fits (Value e) = let a = fits e in simp size (omega arith)

-- ---- the law

nothing_left : words_without_offsets [] ≡ []
unfolding words_from
nothing_left = refl

tokens_are : (e : Expr) → IsWritten e → words_without_offsets (expr_text e) ≡ expr_tokens e []
tokens_are e is = ap words_without_offsets (sym (append-nil (expr_text e))) ∙ lexed e is [] refl ∙ ap (expr_tokens e) nothing_left

derived_by : (e : Expr) → IsWritten e → levels e ≤ filter_levels → DerivesFilter (expr_text e) (without_offsets e)
derived_by e is l =
    let w = length (expr_text e) in (
      0,
      subst (λ ts. S w filter_levels expression ts (0, without_offsets e) []) (sym (tokens_are e is))
          (as_expression w filter_levels (expr_tokens e []) (0, without_offsets e) [] (derived w e is filter_levels l (fits e) [])),
    )

-- an expression that is read is derived
pub is_determined : IsDetermined
is_determined source e = (go (whole_at grammar (length source) filter_levels expression (words_without_offsets source)) refl, λ s. ap tree_in (only grammar kinds nested_ext decided expression expression_good (length source) filter_levels (words_without_offsets source) (s.0, e) s.1))
  where
    go : (r : Result Located ReadError) → whole_at grammar (length source) filter_levels expression (words_without_offsets source) ≡ r → tree_in r ≡ Some e → DerivesFilter source e
    go (Ok t) q h = let same : t.1 ≡ e = cc in (t.0, subst (λ x. Derives grammar (length source) filter_levels expression (words_without_offsets source) (t.0, x) []) same (found grammar kinds nested_ext decided expression expression_good (length source) filter_levels (words_without_offsets source) t q))
    go (Err f) q h = cc

pub texts_read_back : TextsReadBack
texts_read_back e is l = (is_determined (expr_text e) (without_offsets e)).1 (derived_by e is l)
