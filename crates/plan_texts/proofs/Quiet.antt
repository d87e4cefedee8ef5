-- No LF ends a line within the text of a line.
use Rattle.std.proofs.Common.{◌≡◌, ℕ, pos, negsuc, zero, suc, ◌==◌, ◌&&◌, ◌<◌, ◌^◌, nat_lt, Bool, true, false, not, if◌then◌else◌, List, [], ◌∷◌, ◌++◌, codes, Option, Some, None, refl, sym, ap, ◌∙◌, arith}
use Rattle.std.specs.Prelude.{flat_map}
use Rattle.std.specs.Char.{is_ascii_digit}
use Rattle.std.specs.Fmt.{decimal}
use Rattle.std.specs.List.{list_all}
use Rattle.std.specs.Str.{IsAscii, IsUtf8}
use Rattle.std.proofs.lemmas.Str.{IsUtf8-nil, IsUtf8-append, IsUtf8-from_ascii}
use Rattle.std.proofs.lemmas.Bool.{and_parts, ltb-true}
use Rattle.std.proofs.lemmas.Bool.Decides.{nat_tests}
use Rattle.std.proofs.lemmas.Fmt.{decimal_is_IsNumeral_wide}
use Rattle.std.proofs.lemmas.List.{append_assoc, append-nil}
use Rattle.value.specs.Datum.{Datum, null, int, text, bool}
use Rattle.value.proofs.Spelling.{own, same_test}
use Rattle.value.specs.declared.operators.Comparison as value
use Rattle.value.specs.declared.operators.Comparison.TheVariants as sign
use Rattle.row_tokens.specs.Tokens.{doubled_quote, goes_on, quoted}
use Rattle.row_ast.specs.Ast.{Expr, Exprs, Arms, Otherwise, Column, Literal, CurrentUser, Negate, Arithmetic, Comparison, Between, In, IsNull, Not, And, Or, Cast, Case, CountStar, Call, no_expr, one_expr, no_arm, one_arm, Nothing, Value}
use Rattle.expr_texts.specs.ExprTexts.{column_text, literal_text, literals_text, further_literals, sign_text, not_text, expr_text, members_text, further_text, arms_text, else_text}
use Rattle.expr_texts.specs.Filters.{IsNamed, IsLiteral, AreLiterals, is_and, is_or, IsWritten, AreWritten, ArmsWritten, ElseWritten}
use Rattle.plan_texts.specs.Lines.{ended, with_byte, lines_from, lines_of}

-- whether quotes are open after bytes; none where an LF ends a line before
pub passes : Bool → List ℕ → Option Bool
passes quoted [] = Some quoted
passes quoted (b ∷ bs) = if (b == 10) && not quoted then None else passes (if b == 39 then not quoted else quoted) bs

byte : (b : ℕ) (bs : List ℕ) → (b == 10) ≡ false → (b == 39) ≡ false → passes false (b ∷ bs) ≡ passes false bs
unfolding passes
byte b bs e f = rw (e, f) refl

-- bytes that leave quotes as they are, and end no line
pub record IsQuiet (bs : List ℕ) : Type 0 where
  pub leaves : (rest : List ℕ) → passes false (bs ++ rest) ≡ passes false rest
  -- and are UTF-8
  pub utf8 : IsUtf8 bs

pub line_ends : (quoted : Bool) (bs rest : List ℕ) → passes quoted bs ≡ Some false → lines_from quoted (bs ++ 10 ∷ rest) ≡ (bs ∷ (lines_of rest).0, (lines_of rest).1)
unfolding passes
line_ends true [] rest e = cc
line_ends false [] rest e = refl
line_ends quoted (b ∷ bs) rest e = go ((b == 10) && not quoted) e (line_ends (if b == 39 then not quoted else quoted) bs rest)
  where
    go : (t : Bool) → (if t then None else passes (if b == 39 then not quoted else quoted) bs) ≡ Some false
        → (passes (if b == 39 then not quoted else quoted) bs ≡ Some false → lines_from (if b == 39 then not quoted else quoted) (bs ++ 10 ∷ rest) ≡ (bs ∷ (lines_of rest).0, (lines_of rest).1))
        → (if t then ended (lines_from false (bs ++ 10 ∷ rest)) else with_byte b (lines_from (if b == 39 then not quoted else quoted) (bs ++ 10 ∷ rest))) ≡ ((b ∷ bs) ∷ (lines_of rest).0, (lines_of rest).1)
    go true e ih = cc
    go false e ih = ap (with_byte b) (ih e)

pub quiet_line : (bs rest : List ℕ) → IsQuiet bs → lines_of (bs ++ 10 ∷ rest) ≡ (bs ∷ (lines_of rest).0, (lines_of rest).1)
unfolding passes
quiet_line bs rest q = line_ends false bs rest (ap (passes false) (sym (append-nil bs)) ∙ q.leaves [])

-- ---- names and numbers

calm : (b : ℕ) → goes_on b ≡ true → ((b == 10) ≡ false) × ((b == 39) ≡ false)
calm b e = (grind (arith, nat_tests), grind (arith, nat_tests))

low_ascii : (bs : List ℕ) → list_all (λ b. nat_lt b 128) bs ≡ true → IsAscii bs
low_ascii [] all i = omega arith
low_ascii (b ∷ bs) all zero = ltb-true b 128 (and_parts (nat_lt b 128) (list_all (λ c. nat_lt c 128) bs) all).0
low_ascii (b ∷ bs) all (suc i) = low_ascii bs (and_parts (nat_lt b 128) (list_all (λ c. nat_lt c 128) bs) all).1 i

low_text : (bs : List ℕ) → list_all (λ b. nat_lt b 128) bs ≡ true → IsUtf8 bs
low_text bs all = IsUtf8-from_ascii bs (low_ascii bs all)

low : (b : ℕ) → goes_on b ≡ true → b < 128
low b e = grind (arith, nat_tests)

word_ascii : (bs : List ℕ) → list_all goes_on bs ≡ true → IsAscii bs
word_ascii [] all i = omega arith
word_ascii (b ∷ bs) all zero = low b (and_parts (goes_on b) (list_all goes_on bs) all).0
word_ascii (b ∷ bs) all (suc i) = word_ascii bs (and_parts (goes_on b) (list_all goes_on bs) all).1 i

pub word_quiet : (bs : List ℕ) → list_all goes_on bs ≡ true → IsQuiet bs
unfolding passes
word_quiet bs all = record { leaves = go bs all; utf8 = IsUtf8-from_ascii bs (word_ascii bs all) }
  where
    go : (bs : List ℕ) → list_all goes_on bs ≡ true → (rest : List ℕ) → passes false (bs ++ rest) ≡ passes false rest
    go [] all rest = refl
    go (b ∷ bs) all rest =
        let both = and_parts (goes_on b) (list_all goes_on bs) all in
        let c = calm b both.0 in
        rw (c.0, c.1) (go bs both.1 rest)

digit_goes : (b : ℕ) → is_ascii_digit b ≡ true → goes_on b ≡ true
digit_goes b e = grind (arith, nat_tests)

digits_go : (bs : List ℕ) → list_all is_ascii_digit bs ≡ true → list_all goes_on bs ≡ true
digits_go [] all = refl
digits_go (b ∷ bs) all =
    let both = and_parts (is_ascii_digit b) (list_all is_ascii_digit bs) all in
    rw (digit_goes b both.0) (digits_go bs both.1)

-- the digits of a number
pub decimal_digits : (n : ℕ) → n < 10 ^ 64 → list_all is_ascii_digit (decimal n) ≡ true
decimal_digits n h = same_test (decimal n) ∙ own.from (decimal n) (decimal_is_IsNumeral_wide n h).0.1

pub decimal_word : (n : ℕ) → n < 10 ^ 64 → list_all goes_on (decimal n) ≡ true
decimal_word n h = digits_go (decimal n) (decimal_digits n h)

pub decimal_quiet : (n : ℕ) → n < 10 ^ 64 → IsQuiet (decimal n)
decimal_quiet n h = word_quiet (decimal n) (decimal_word n h)

-- ---- expressions

-- within quotes
inside : (t rest : List ℕ) → passes true (flat_map doubled_quote t ++ rest) ≡ passes true rest
unfolding passes
inside [] rest = refl
inside (b ∷ t) rest = go (b == 39) refl (inside t rest)
  where
    never : (t : Bool) → (t && false) ≡ false
    never true = refl
    never false = refl

    go : (q : Bool) → (b == 39) ≡ q → passes true (flat_map doubled_quote t ++ rest) ≡ passes true rest → passes true (flat_map doubled_quote (b ∷ t) ++ rest) ≡ passes true rest
    go true h later = rw h later
    go false h later = rw h (rw (never (b == 10), h) later)

literal_quiet : (d : Datum) → IsLiteral d → (rest : List ℕ) → passes false (literal_text d ++ rest) ≡ passes false rest
unfolding passes
literal_quiet null l rest = refl
literal_quiet (bool true) l rest = refl
literal_quiet (bool false) l rest = refl
literal_quiet (int (pos n)) l rest = (decimal_quiet n (grind (arith, nat_tests))).leaves rest
literal_quiet (int (negsuc n)) l rest = (decimal_quiet (suc n) (grind (arith, nat_tests))).leaves rest
literal_quiet (text t) l rest = ap (passes true) (append_assoc (flat_map doubled_quote t) (39 ∷ []) rest) ∙ inside t (39 ∷ rest)

further_literals_quiet : (ds : List Datum) → AreLiterals ds → (rest : List ℕ) → passes false (further_literals ds ++ rest) ≡ passes false rest
further_literals_quiet [] l rest = refl
further_literals_quiet (d ∷ ds) l rest = simp (append_assoc, byte, literal_quiet d l.0, further_literals_quiet ds l.1)

literals_quiet : (ds : List Datum) → AreLiterals ds → (rest : List ℕ) → passes false (literals_text ds ++ rest) ≡ passes false rest
literals_quiet [] l rest = refl
literals_quiet (d ∷ ds) l rest = simp (append_assoc, literal_quiet d l.0, further_literals_quiet ds l.1)

sign_quiet : (op : value.Comparison) (rest : List ℕ) → passes false (sign_text op ++ rest) ≡ passes false rest
unfolding passes
sign_quiet sign.Equal rest = refl
sign_quiet sign.NotEqual rest = refl
sign_quiet sign.Less rest = refl
sign_quiet sign.LessOrEqual rest = refl
sign_quiet sign.Greater rest = refl
sign_quiet sign.GreaterOrEqual rest = refl

not_quiet : (n : Bool) (rest : List ℕ) → passes false (not_text n ++ rest) ≡ passes false rest
unfolding passes
not_quiet true rest = refl
not_quiet false rest = refl

column_quiet : (table : Option (List ℕ)) (name : List ℕ) → IsNamed table name → (rest : List ℕ) → passes false (column_text table name ++ rest) ≡ passes false rest
column_quiet None name n rest = absurd n
column_quiet (Some alias) name n rest = simp (append_assoc, byte, (word_quiet alias n.0.goes_well).leaves, (word_quiet name n.1.goes_well).leaves)

and_quiet : (rest : List ℕ) → passes false (codes " AND " ++ rest) ≡ passes false rest
and_quiet rest = simp byte

or_quiet : (rest : List ℕ) → passes false (codes " OR " ++ rest) ≡ passes false rest
or_quiet rest = simp byte

mutual
  quiet : (e : Expr) → IsWritten e → (rest : List ℕ) → passes false (expr_text e ++ rest) ≡ passes false rest
  quiet (Column c) is rest = column_quiet c.table c.name is rest
  quiet (Literal d) is rest = literal_quiet d is rest
  quiet CurrentUser is rest = simp byte
  quiet (Comparison op at e f) is rest = simp (append_assoc, byte, quiet e is.0, sign_quiet op, quiet f is.1)
  quiet (Between n at e low high) is rest = simp (append_assoc, byte, quiet e is.0, not_quiet n, quiet low is.1, quiet high is.2)
  quiet (In n at values e) is rest = simp (append_assoc, byte, quiet e is.2, not_quiet n, literals_quiet values is.1)
  quiet (IsNull n at e) is rest = simp (append_assoc, byte, quiet e is, not_quiet n)
  quiet (Not at e) is rest = simp (append_assoc, byte, quiet e is)
  quiet (And at es) is rest = simp (append_assoc, byte, members_quiet (codes " AND ") and_quiet is_and es is.1)
  quiet (Or at es) is rest = simp (append_assoc, byte, members_quiet (codes " OR ") or_quiet is_or es is.1)
  quiet (Case at as_ o) is rest = simp (append_assoc, byte, arms_quiet as_ is.1, else_quiet o is.2)
  quiet (Negate at e) is rest = absurd is
  quiet (Arithmetic op at e f) is rest = absurd is
  quiet (Cast at to e) is rest = absurd is
  quiet (CountStar at) is rest = absurd is
  quiet (Call f at e) is rest = absurd is

  members_quiet : (separator : List ℕ) → ((rest : List ℕ) → passes false (separator ++ rest) ≡ passes false rest) → (merged : Expr → Bool) (es : Exprs) → AreWritten merged es → (rest : List ℕ)
      → passes false (members_text separator es ++ rest) ≡ passes false rest
  members_quiet separator s merged no_expr is rest = refl
  members_quiet separator s merged (one_expr e es) is rest = simp (append_assoc, quiet e is.1, further_quiet separator s merged es is.2)

  further_quiet : (separator : List ℕ) → ((rest : List ℕ) → passes false (separator ++ rest) ≡ passes false rest) → (merged : Expr → Bool) (es : Exprs) → AreWritten merged es → (rest : List ℕ)
      → passes false (further_text separator es ++ rest) ≡ passes false rest
  further_quiet separator s merged no_expr is rest = refl
  further_quiet separator s merged (one_expr e es) is rest = simp (append_assoc, s, quiet e is.1, further_quiet separator s merged es is.2)

  arms_quiet : (as_ : Arms) → ArmsWritten as_ → (rest : List ℕ) → passes false (arms_text as_ ++ rest) ≡ passes false rest
  arms_quiet no_arm is rest = refl
  arms_quiet (one_arm when result as_) is rest = simp (append_assoc, byte, quiet when is.0, quiet result is.1, arms_quiet as_ is.2)

  else_quiet : (o : Otherwise) → ElseWritten o → (rest : List ℕ) → passes false (else_text o ++ rest) ≡ passes false rest
  else_quiet Nothing is rest = refl
  else_quiet (Value e) is rest = simp (append_assoc, byte, quiet e is)

pub expr_quiet : (e : Expr) → IsWritten e → IsUtf8 (expr_text e) → IsQuiet (expr_text e)
expr_quiet e is u = record { leaves = quiet e is; utf8 = u }

pub both_quiet : (as_ bs : List ℕ) → IsQuiet as_ → IsQuiet bs → IsQuiet (as_ ++ bs)
both_quiet as_ bs p q = record { leaves = λ rest. simp (append_assoc, p.leaves, q.leaves); utf8 = IsUtf8-append as_ bs p.utf8 q.utf8 }

-- ---- words of a plan

pub filter_quiet : IsQuiet (codes "filter ")
filter_quiet = record { leaves = λ rest. simp byte; utf8 = low_text (codes "filter ") refl }

pub on_quiet : IsQuiet (codes "on ")
on_quiet = record { leaves = λ rest. simp byte; utf8 = low_text (codes "on ") refl }

pub left_quiet : IsQuiet (codes "left ")
left_quiet = record { leaves = λ rest. simp byte; utf8 = low_text (codes "left ") refl }

pub blank_quiet : IsQuiet (codes " ")
blank_quiet = record { leaves = λ rest. simp byte; utf8 = low_text (codes " ") refl }

pub cost_quiet : IsQuiet (codes "cost ")
cost_quiet = record { leaves = λ rest. simp byte; utf8 = low_text (codes "cost ") refl }

pub full_quiet : IsQuiet (codes "full")
full_quiet = record { leaves = λ rest. simp byte; utf8 = low_text (codes "full") refl }

pub index_quiet : IsQuiet (codes "index ")
index_quiet = record { leaves = λ rest. simp byte; utf8 = low_text (codes "index ") refl }

pub by_quiet : IsQuiet (codes " by ")
by_quiet = record { leaves = λ rest. simp byte; utf8 = low_text (codes " by ") refl }

pub nested_quiet : IsQuiet (codes "nested ")
nested_quiet = record { leaves = λ rest. simp byte; utf8 = low_text (codes "nested ") refl }

pub hash_quiet : IsQuiet (codes "hash ")
hash_quiet = record { leaves = λ rest. simp byte; utf8 = low_text (codes "hash ") refl }

pub merge_quiet : IsQuiet (codes "merge ")
merge_quiet = record { leaves = λ rest. simp byte; utf8 = low_text (codes "merge ") refl }

pub empty_quiet : IsQuiet (codes "empty")
empty_quiet = record { leaves = λ rest. simp byte; utf8 = low_text (codes "empty") refl }

pub first_quiet : IsQuiet (codes "first ")
first_quiet = record { leaves = λ rest. simp byte; utf8 = low_text (codes "first ") refl }

pub sort_word_quiet : IsQuiet (codes "sort ")
sort_word_quiet = record { leaves = λ rest. simp byte; utf8 = low_text (codes "sort ") refl }

pub dot_quiet : IsQuiet (codes ".")
dot_quiet = record { leaves = λ rest. simp byte; utf8 = low_text (codes ".") refl }

pub trail_quiet : IsQuiet (codes "trail")
trail_quiet = record { leaves = λ rest. simp byte; utf8 = low_text (codes "trail") refl }

pub minus_quiet : IsQuiet (codes "-")
minus_quiet = record { leaves = λ rest. simp byte; utf8 = low_text (codes "-") refl }

pub nothing_quiet : IsQuiet []
nothing_quiet = record { leaves = λ rest. refl; utf8 = IsUtf8-nil }
