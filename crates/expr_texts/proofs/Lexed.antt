-- The tokens of the text of an expression before further text: those expected, before the tokens of the further text.
use Rattle.std.proofs.Common.{◌≡◌, ℕ, pos, negsuc, suc, ◌^◌, ◌<◌, ◌≤◌, ◌==◌, ◌||◌, nat_lt, Bool, true, false, if◌then◌else◌, List, [], ◌∷◌, ◌++◌, length, codes, Option, Some, None, refl, ap, ◌∙◌, arith}
use Rattle.std.specs.Char.{is_ascii_digit}
use Rattle.std.specs.Fmt.{decimal}
use Rattle.std.specs.List.{list_all}
use Rattle.std.specs.Str.Parse.{digits_value}
use Rattle.std.proofs.lemmas.Bool.Decides.{nat_tests}
use Rattle.std.proofs.lemmas.Fmt.{digits_decimal, digits_value-decimal, decimal_is_IsNumeral}
use Rattle.std.proofs.lemmas.List.{append_assoc}
use Rattle.value.specs.Datum.{Datum, null, int, text, bool}
use Rattle.value.proofs.Spelling.{own, same_test}
use Rattle.value.specs.declared.operators.Comparison as value
use Rattle.value.specs.declared.operators.Comparison.TheVariants as sign
use Rattle.row_tokens.specs.declared.token.TokenKind.TheVariants as k
use Rattle.row_tokens.specs.Tokens.{Token, goes_on, is_number, kind_of_word, lexeme, number_of, starts}
use Rattle.row_ast.specs.Ast.{Expr, Exprs, Arms, Otherwise, Column, Literal, CurrentUser, Negate, Arithmetic, Comparison, Between, In, IsNull, Not, And, Or, Cast, Case, CountStar, Call, no_expr, one_expr, no_arm, one_arm, Nothing, Value}
use Rattle.row_tokens.specs.WithoutOffsets.{words_without_offsets}
use Rattle.expr_texts.specs.ExprTexts.{column_text, literal_text, literals_text, further_literals, sign_text, expr_text, members_text, further_text, arms_text, else_text}
use Rattle.expr_texts.specs.Filters.{IsName, IsNamed, IsLiteral, AreLiterals, is_and, is_or, IsWritten, AreWritten, ArmsWritten, ElseWritten}
use Rattle.row_tokens.proofs.Starts.{plain, space, seam}
use Rattle.row_tokens.proofs.Lexing.{word_first, open_first, close_first, comma_first, dot_first, digits_first, minus_first, quoted_first}
use Rattle.expr_texts.proofs.Expected.{named, column_tokens, number, literal_tokens, literals_tokens, further_literal_tokens, sign_token, open_, close, and_, or_, expr_tokens, members_tokens, further_tokens, arms_tokens, else_tokens}

-- a byte that would go on with a word, a number or a text
abbrev pub sticks : ℕ → Bool
sticks b = goes_on b || (b == 39)

abbrev pub Ends : List ℕ → Type 0
Ends rest = starts sticks rest ≡ false

abbrev T : List ℕ → List Token
T bs = words_without_offsets bs

no_word : (rest : List ℕ) → Ends rest → starts goes_on rest ≡ false
no_word [] e = refl
no_word (b ∷ bs) e = go (goes_on b) e where
  go : (q : Bool) → (q || (b == 39)) ≡ false → q ≡ false
  go true e = cc
  go false e = refl

no_quote : (rest : List ℕ) → Ends rest → starts (λ b. b == 39) rest ≡ false
no_quote [] e = refl
no_quote (b ∷ bs) e = go (goes_on b) e where
  go : (q : Bool) → (q || (b == 39)) ≡ false → (b == 39) ≡ false
  go true e = cc
  go false e = e

-- ---- names

name_lexed : (name rest : List ℕ) → IsName name → starts goes_on rest ≡ false → T (name ++ rest) ≡ named name ∷ T rest
name_lexed name rest is ends = word_first name rest is.starts_well is.goes_well is.short ends

column_lexed : (table : Option (List ℕ)) (name rest : List ℕ) → IsNamed table name → Ends rest → T (column_text table name ++ rest) ≡ column_tokens table name (T rest)
column_lexed None name rest is ends = absurd is
column_lexed (Some alias) name rest is ends =
    ap words_without_offsets (append_assoc (alias ++ 46 ∷ []) name rest ∙ append_assoc alias (46 ∷ []) (name ++ rest))
    ∙ name_lexed alias (46 ∷ (name ++ rest)) is.0 refl
    ∙ ap (λ us. named alias ∷ us) (dot_first (name ++ rest) ∙ ap (λ us. plain k.Dot (codes ".") ∷ us) (name_lexed name rest is.1 (no_word rest ends)))

-- ---- words in capitals

not_lexed : (rest : List ℕ) → Ends rest → T (codes "NOT" ++ rest) ≡ plain k.Not (codes "NOT") ∷ T rest
unfolding kind_of_word
not_lexed rest ends = word_first (codes "NOT") rest refl refl (omega arith) (no_word rest ends)

and_lexed : (rest : List ℕ) → Ends rest → T (codes "AND" ++ rest) ≡ plain k.And (codes "AND") ∷ T rest
unfolding kind_of_word
and_lexed rest ends = word_first (codes "AND") rest refl refl (omega arith) (no_word rest ends)

or_lexed : (rest : List ℕ) → Ends rest → T (codes "OR" ++ rest) ≡ plain k.Or (codes "OR") ∷ T rest
unfolding kind_of_word
or_lexed rest ends = word_first (codes "OR") rest refl refl (omega arith) (no_word rest ends)

is_lexed : (rest : List ℕ) → Ends rest → T (codes "IS" ++ rest) ≡ plain k.Is (codes "IS") ∷ T rest
unfolding kind_of_word
is_lexed rest ends = word_first (codes "IS") rest refl refl (omega arith) (no_word rest ends)

null_lexed : (rest : List ℕ) → Ends rest → T (codes "NULL" ++ rest) ≡ plain k.Null (codes "NULL") ∷ T rest
unfolding kind_of_word
null_lexed rest ends = word_first (codes "NULL") rest refl refl (omega arith) (no_word rest ends)

between_lexed : (rest : List ℕ) → Ends rest → T (codes "BETWEEN" ++ rest) ≡ plain k.Between (codes "BETWEEN") ∷ T rest
unfolding kind_of_word
between_lexed rest ends = word_first (codes "BETWEEN") rest refl refl (omega arith) (no_word rest ends)

in_lexed : (rest : List ℕ) → Ends rest → T (codes "IN" ++ rest) ≡ plain k.In (codes "IN") ∷ T rest
unfolding kind_of_word
in_lexed rest ends = word_first (codes "IN") rest refl refl (omega arith) (no_word rest ends)

case_lexed : (rest : List ℕ) → Ends rest → T (codes "CASE" ++ rest) ≡ plain k.Case (codes "CASE") ∷ T rest
unfolding kind_of_word
case_lexed rest ends = word_first (codes "CASE") rest refl refl (omega arith) (no_word rest ends)

when_lexed : (rest : List ℕ) → Ends rest → T (codes "WHEN" ++ rest) ≡ plain k.When (codes "WHEN") ∷ T rest
unfolding kind_of_word
when_lexed rest ends = word_first (codes "WHEN") rest refl refl (omega arith) (no_word rest ends)

then_lexed : (rest : List ℕ) → Ends rest → T (codes "THEN" ++ rest) ≡ plain k.Then (codes "THEN") ∷ T rest
unfolding kind_of_word
then_lexed rest ends = word_first (codes "THEN") rest refl refl (omega arith) (no_word rest ends)

else_lexed : (rest : List ℕ) → Ends rest → T (codes "ELSE" ++ rest) ≡ plain k.Else (codes "ELSE") ∷ T rest
unfolding kind_of_word
else_lexed rest ends = word_first (codes "ELSE") rest refl refl (omega arith) (no_word rest ends)

end_lexed : (rest : List ℕ) → Ends rest → T (codes "END" ++ rest) ≡ plain k.End (codes "END") ∷ T rest
unfolding kind_of_word
end_lexed rest ends = word_first (codes "END") rest refl refl (omega arith) (no_word rest ends)

true_lexed : (rest : List ℕ) → Ends rest → T (codes "TRUE" ++ rest) ≡ plain k.True (codes "TRUE") ∷ T rest
unfolding kind_of_word
true_lexed rest ends = word_first (codes "TRUE") rest refl refl (omega arith) (no_word rest ends)

false_lexed : (rest : List ℕ) → Ends rest → T (codes "FALSE" ++ rest) ≡ plain k.False (codes "FALSE") ∷ T rest
unfolding kind_of_word
false_lexed rest ends = word_first (codes "FALSE") rest refl refl (omega arith) (no_word rest ends)

current_user_lexed : (rest : List ℕ) → Ends rest → T (codes "CURRENT_USER" ++ rest) ≡ plain k.CurrentUser (codes "CURRENT_USER") ∷ T rest
unfolding kind_of_word
current_user_lexed rest ends = word_first (codes "CURRENT_USER") rest refl refl (omega arith) (no_word rest ends)

blank : (rest : List ℕ) → T (32 ∷ rest) ≡ T rest
blank rest = space 32 rest refl

-- ---- signs

sign_lexed : (op : value.Comparison) (rest : List ℕ) → T (sign_text op ++ 32 ∷ rest) ≡ sign_token op ∷ T rest
unfolding lexeme
sign_lexed sign.Equal rest = seam 61 [] (32 ∷ rest) (record { kind = k.Equal; size = 1; number = 0 }) refl refl refl ∙ ap (λ us. sign_token sign.Equal ∷ us) (blank rest)
sign_lexed sign.NotEqual rest = seam 60 (62 ∷ []) (32 ∷ rest) (record { kind = k.NotEqual; size = 2; number = 0 }) refl refl refl ∙ ap (λ us. sign_token sign.NotEqual ∷ us) (blank rest)
sign_lexed sign.Less rest = seam 60 [] (32 ∷ rest) (record { kind = k.Less; size = 1; number = 0 }) refl refl refl ∙ ap (λ us. sign_token sign.Less ∷ us) (blank rest)
sign_lexed sign.LessOrEqual rest = seam 60 (61 ∷ []) (32 ∷ rest) (record { kind = k.LessEqual; size = 2; number = 0 }) refl refl refl ∙ ap (λ us. sign_token sign.LessOrEqual ∷ us) (blank rest)
sign_lexed sign.Greater rest = seam 62 [] (32 ∷ rest) (record { kind = k.Greater; size = 1; number = 0 }) refl refl refl ∙ ap (λ us. sign_token sign.Greater ∷ us) (blank rest)
sign_lexed sign.GreaterOrEqual rest = seam 62 (61 ∷ []) (32 ∷ rest) (record { kind = k.GreaterEqual; size = 2; number = 0 }) refl refl refl ∙ ap (λ us. sign_token sign.GreaterOrEqual ∷ us) (blank rest)

-- ---- literals

-- the lexeme of a number
number_is : (n size : ℕ) → n ≤ 2 ^ 63 → number_of n size ≡ record { kind = (number n).kind; size = size; number = n }
number_is n size h = go (nat_lt n (2 ^ 63)) refl where
  go : (q : Bool) → nat_lt n (2 ^ 63) ≡ q → number_of n size ≡ record { kind = if nat_lt n (2 ^ 63) then k.Number else k.MinMagnitude; size = size; number = n }
  go true e = rw e refl
  go false e = let greatest : n ≡ 2 ^ 63 = grind (arith, nat_tests) in rw greatest refl

decimal_digits : (n : ℕ) → n ≤ 2 ^ 63 → list_all is_ascii_digit (decimal n) ≡ true
decimal_digits n h = same_test (decimal n) ∙ digits_decimal own n (omega arith)

magnitude_lexed : (n : ℕ) (rest : List ℕ) → n ≤ 2 ^ 63 → Ends rest → T (decimal n ++ rest) ≡ number n ∷ T rest
magnitude_lexed n rest h ends = go (decimal n) refl (decimal_is_IsNumeral n (omega arith)).0.0 (decimal_digits n h) (digits_value-decimal own n (omega arith)) where
  go : (ds : List ℕ) → decimal n ≡ ds → 0 < length ds → list_all is_ascii_digit ds ≡ true → digits_value 10 ds ≡ n → T (ds ++ rest) ≡ record (number n) { bytes = ds } ∷ T rest
  go [] e some all v = absurd (omega arith)
  go (d ∷ ds) e some all v =
      digits_first d ds rest (record { kind = (number n).kind; size = length (d ∷ ds); number = n }) all (no_word rest ends)
      (ap (λ m. number_of m (length (d ∷ ds))) v ∙ number_is n (length (d ∷ ds)) h) refl

negative_lexed : (n : ℕ) (rest : List ℕ) → n ≤ 2 ^ 63 → Ends rest → T (45 ∷ decimal n ++ rest) ≡ plain k.SignedMinus (codes "-") ∷ number n ∷ T rest
negative_lexed n rest h ends =
    go (decimal n) refl (decimal_is_IsNumeral n (omega arith)).0.0 (decimal_digits n h) (digits_value-decimal own n (omega arith)) ∙ ap (λ us. plain k.SignedMinus (codes "-") ∷ us) (magnitude_lexed n rest h ends)
  where
    numbered : (q : Bool) → is_number (if q then k.Number else k.MinMagnitude) ≡ true
    numbered true = refl
    numbered false = refl

    go : (ds : List ℕ) → decimal n ≡ ds → 0 < length ds → list_all is_ascii_digit ds ≡ true → digits_value 10 ds ≡ n → T (45 ∷ ds ++ rest) ≡ plain k.SignedMinus (codes "-") ∷ T (ds ++ rest)
    go [] e some all v = absurd (omega arith)
    go (d ∷ ds) e some all v =
        minus_first d ds rest all (no_word rest ends)
        (ap (λ m. is_number (number_of m (length (d ∷ ds))).kind) v ∙ ap (λ l. is_number l.kind) (number_is n (length (d ∷ ds)) h) ∙ numbered (nat_lt n (2 ^ 63)))

literal_lexed : (d : Datum) (rest : List ℕ) → IsLiteral d → Ends rest → T (literal_text d ++ rest) ≡ literal_tokens d (T rest)
literal_lexed null rest is ends = null_lexed rest ends
literal_lexed (int (pos n)) rest is ends = magnitude_lexed n rest (grind (arith, nat_tests)) ends
literal_lexed (int (negsuc n)) rest is ends = negative_lexed (suc n) rest (grind (arith, nat_tests)) ends
literal_lexed (text t) rest is ends = quoted_first t rest is (no_quote rest ends)
literal_lexed (bool true) rest is ends = true_lexed rest ends
literal_lexed (bool false) rest is ends = false_lexed rest ends

-- a separator of two members, and its token
record IsBetween (separator : List ℕ) (token : Token) : Type 0 where
  ends : (rest : List ℕ) → Ends (separator ++ rest)
  lexes : (rest : List ℕ) → T (separator ++ rest) ≡ token ∷ T rest

spaced_and : IsBetween (codes " AND ") and_
spaced_and = record { ends = λ rest. refl; lexes = λ rest. simp (blank, and_lexed) }

spaced_or : IsBetween (codes " OR ") or_
spaced_or = record { ends = λ rest. refl; lexes = λ rest. simp (blank, or_lexed) }

spaced_between : IsBetween (codes " BETWEEN ") (plain k.Between (codes "BETWEEN"))
spaced_between = record { ends = λ rest. refl; lexes = λ rest. simp (blank, between_lexed) }

spaced_when : IsBetween (codes " WHEN ") (plain k.When (codes "WHEN"))
spaced_when = record { ends = λ rest. refl; lexes = λ rest. simp (blank, when_lexed) }

spaced_then : IsBetween (codes " THEN ") (plain k.Then (codes "THEN"))
spaced_then = record { ends = λ rest. refl; lexes = λ rest. simp (blank, then_lexed) }

spaced_else : IsBetween (codes " ELSE ") (plain k.Else (codes "ELSE"))
spaced_else = record { ends = λ rest. refl; lexes = λ rest. simp (blank, else_lexed) }

-- ---- texts that are empty, or start with a space or a comma

further_literals_end : (ds : List Datum) (rest : List ℕ) → Ends rest → Ends (further_literals ds ++ rest)
further_literals_end [] rest ends = ends
further_literals_end (d ∷ ds) rest ends = refl

further_literals_lexed : (ds : List Datum) → AreLiterals ds → (rest : List ℕ) → Ends rest → T (further_literals ds ++ rest) ≡ further_literal_tokens ds (T rest)
further_literals_lexed [] is rest ends = refl
further_literals_lexed (d ∷ ds) is rest ends =
    simp (append_assoc, comma_first, blank)
    (ap (λ us. plain k.Comma (codes ",") ∷ us)
    (literal_lexed d (further_literals ds ++ rest) is.0 (further_literals_end ds rest ends) ∙ ap (literal_tokens d) (further_literals_lexed ds is.1 rest ends)))

literals_lexed : (ds : List Datum) → AreLiterals ds → (rest : List ℕ) → Ends rest → T (literals_text ds ++ rest) ≡ literals_tokens ds (T rest)
literals_lexed [] is rest ends = refl
literals_lexed (d ∷ ds) is rest ends =
    simp append_assoc (literal_lexed d (further_literals ds ++ rest) is.0 (further_literals_end ds rest ends) ∙ ap (literal_tokens d) (further_literals_lexed ds is.1 rest ends))

further_end : (separator : List ℕ) (token : Token) → IsBetween separator token → (es : Exprs) (rest : List ℕ) → Ends rest → Ends (further_text separator es ++ rest)
further_end separator token between no_expr rest ends = ends
further_end separator token between (one_expr e es) rest ends =
    let same = append_assoc (separator ++ expr_text e) (further_text separator es) rest ∙ append_assoc separator (expr_text e) (further_text separator es ++ rest) in
    ap (starts sticks) same ∙ between.ends (expr_text e ++ (further_text separator es ++ rest))

arms_end : (as_ : Arms) (rest : List ℕ) → Ends rest → Ends (arms_text as_ ++ rest)
arms_end no_arm rest ends = ends
arms_end (one_arm when result as_) rest ends = refl

else_end : (o : Otherwise) (rest : List ℕ) → Ends rest → Ends (else_text o ++ rest)
else_end Nothing rest ends = ends
else_end (Value e) rest ends = refl

-- ---- expressions

mutual
  pub lexed : (e : Expr) → IsWritten e → (rest : List ℕ) → Ends rest → T (expr_text e ++ rest) ≡ expr_tokens e (T rest)
  lexed (Column c) is rest ends = column_lexed c.table c.name rest is ends
  lexed (Literal d) is rest ends = literal_lexed d rest is ends
  lexed CurrentUser is rest ends = current_user_lexed rest ends
  lexed (Comparison op at e f) is rest ends = simp (append_assoc, open_first, blank, close_first, sign_lexed op, lexed e is.0, lexed f is.1)
  lexed (Between false at e low high) is rest ends = simp (append_assoc, open_first, close_first, spaced_between.lexes, spaced_and.lexes, lexed e is.0, lexed low is.1, lexed high is.2)
  lexed (Between true at e low high) is rest ends = simp (append_assoc, open_first, close_first, spaced_between.lexes, spaced_and.lexes, blank, not_lexed, lexed e is.0, lexed low is.1, lexed high is.2)
  lexed (In false at values e) is rest ends = simp (append_assoc, open_first, close_first, blank, in_lexed, lexed e is.2, literals_lexed values is.1)
  lexed (In true at values e) is rest ends = simp (append_assoc, open_first, close_first, blank, not_lexed, in_lexed, lexed e is.2, literals_lexed values is.1)
  lexed (IsNull false at e) is rest ends = simp (append_assoc, open_first, close_first, blank, is_lexed, null_lexed, lexed e is)
  lexed (IsNull true at e) is rest ends = simp (append_assoc, open_first, close_first, blank, is_lexed, not_lexed, null_lexed, lexed e is)
  lexed (Not at e) is rest ends = simp (append_assoc, open_first, blank, close_first, not_lexed, lexed e is)
  lexed (And at es) is rest ends = simp (append_assoc, open_first) (ap (λ us. open_ ∷ us) (members_lexed (codes " AND ") and_ spaced_and is_and es is.1 (41 ∷ rest) refl ∙ ap (members_tokens and_ es) (close_first rest)))
  lexed (Or at es) is rest ends = simp (append_assoc, open_first) (ap (λ us. open_ ∷ us) (members_lexed (codes " OR ") or_ spaced_or is_or es is.1 (41 ∷ rest) refl ∙ ap (members_tokens or_ es) (close_first rest)))
  lexed (Case at as_ o) is rest ends =
      let tail : List ℕ = 32 ∷ 69 ∷ 78 ∷ 68 ∷ 41 ∷ rest in
      let last : T tail ≡ plain k.End (codes "END") ∷ close ∷ T rest = simp (blank, end_lexed, close_first) in
      let other : T (else_text o ++ tail) ≡ else_tokens o (plain k.End (codes "END") ∷ close ∷ T rest) = else_lexed_ o is.2 tail refl ∙ ap (else_tokens o) last in
      simp (append_assoc, open_first)
      (ap (λ us. open_ ∷ us)
      (case_lexed (arms_text as_ ++ (else_text o ++ tail)) (arms_end as_ (else_text o ++ tail) (else_end o tail refl))
      ∙ ap (λ us. plain k.Case (codes "CASE") ∷ us)
      (arms_lexed as_ is.1 (else_text o ++ tail) (else_end o tail refl) ∙ ap (arms_tokens as_) other)))
  lexed (Negate at e) is rest ends = absurd is
  lexed (Arithmetic op at e f) is rest ends = absurd is
  lexed (Cast at to e) is rest ends = absurd is
  lexed (CountStar at) is rest ends = absurd is
  lexed (Call f at e) is rest ends = absurd is

  members_lexed : (separator : List ℕ) (token : Token) → IsBetween separator token → (merged : Expr → Bool) (es : Exprs) → AreWritten merged es → (rest : List ℕ) → Ends rest
      → T (members_text separator es ++ rest) ≡ members_tokens token es (T rest)
  members_lexed separator token between merged no_expr is rest ends = refl
  members_lexed separator token between merged (one_expr e es) is rest ends =
      simp append_assoc (lexed e is.1 (further_text separator es ++ rest) (further_end separator token between es rest ends) ∙ ap (expr_tokens e) (further_lexed separator token between merged es is.2 rest ends))

  further_lexed : (separator : List ℕ) (token : Token) → IsBetween separator token → (merged : Expr → Bool) (es : Exprs) → AreWritten merged es → (rest : List ℕ) → Ends rest
      → T (further_text separator es ++ rest) ≡ further_tokens token es (T rest)
  further_lexed separator token between merged no_expr is rest ends = refl
  further_lexed separator token between merged (one_expr e es) is rest ends =
      simp append_assoc
      (between.lexes (expr_text e ++ (further_text separator es ++ rest))
      ∙ ap (λ us. token ∷ us) (lexed e is.1 (further_text separator es ++ rest) (further_end separator token between es rest ends) ∙ ap (expr_tokens e) (further_lexed separator token between merged es is.2 rest ends)))

  arms_lexed : (as_ : Arms) → ArmsWritten as_ → (rest : List ℕ) → Ends rest → T (arms_text as_ ++ rest) ≡ arms_tokens as_ (T rest)
  arms_lexed no_arm is rest ends = refl
  arms_lexed (one_arm when result as_) is rest ends =
      simp (append_assoc, spaced_when.lexes, spaced_then.lexes, lexed when is.0)
      (ap (λ us. plain k.When (codes "WHEN") ∷ expr_tokens when (plain k.Then (codes "THEN") ∷ us))
      (lexed result is.1 (arms_text as_ ++ rest) (arms_end as_ rest ends) ∙ ap (expr_tokens result) (arms_lexed as_ is.2 rest ends)))

  else_lexed_ : (o : Otherwise) → ElseWritten o → (rest : List ℕ) → Ends rest → T (else_text o ++ rest) ≡ else_tokens o (T rest)
  else_lexed_ Nothing is rest ends = refl
  else_lexed_ (Value e) is rest ends = simp (append_assoc, spaced_else.lexes) (ap (λ us. plain k.Else (codes "ELSE") ∷ us) (lexed e is rest ends))
