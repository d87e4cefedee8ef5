-- The text of a condition is in UTF-8, where the literals of the condition are.
use Rattle.std.proofs.Common.{◌≡◌, ℕ, pos, negsuc, ℤ, zero, suc, ◌+◌, ◌<◌, ◌==◌, nat_lt, Bool, true, false, if◌then◌else◌, List, [], ◌∷◌, ◌++◌, length, drop, get_or, codes, Option, Some, None, refl, sym, ap, ◌∙◌, subst, arith}
use Rattle.std.specs.Prelude.{flat_map}
use Rattle.std.specs.Fmt.{decimal, signed_decimal}
use Rattle.std.specs.List.{list_all}
use Rattle.std.specs.Str.{IsAscii, IsUtf8}
use Rattle.std.proofs.Math.Seq.{take-append_seam, drop-append_seam, get_or-append_seam}
use Rattle.std.proofs.lemmas.Bool.{and_parts, eqb-true, ltb-true}
use Rattle.std.proofs.lemmas.Bool.Decides.{nat_tests}
use Rattle.std.proofs.lemmas.Fmt.{IsAscii-decimal_wide}
use Rattle.std.proofs.lemmas.List.{append_assoc, length-append}
use Rattle.std.proofs.lemmas.Str.{IsUtf8-nil, IsUtf8-append, IsUtf8-from_ascii, IsUtf8-take, IsUtf8-drop, IsCharBoundary-before_ascii, IsCharBoundary-after_ascii}
use Rattle.value.specs.Datum.{Datum, null, int, text, bool}
use Rattle.value.specs.Exact.{is_bigint}
use Rattle.value.specs.declared.operators.Comparison as value
use Rattle.value.specs.declared.operators.Comparison.TheVariants as sign
use Rattle.row_tokens.specs.Tokens.{doubled_quote, goes_on, quoted}
use Rattle.row_tokens.proofs.Ends.{goes_on_ascii}
use Rattle.expr.specs.Bound.{BoundExpr, Column, Literal, CurrentUser, Negate, Arithmetic, Comparison, Between, In, IsNull, Not, And, Or, Cast, Case, CountStar, Call, BoundExprs, no_expr, one_expr, BoundArms, no_arm, one_arm, BoundOtherwise, Nothing, Value}
use Rattle.row_ast.specs.Ast.{Expr}
use Rattle.scope.specs.Entry.{Entry}
use Rattle.expr_texts.specs.ExprTexts.{column_text, literal_text, literals_text, further_literals, sign_text, not_text, expr_text, members_text, further_text, arms_text, else_text}
use Rattle.expr_texts.specs.Filters.{IsName, IsNamed, IsLiteral, AreLiterals, is_and, is_or, IsWritten, AreWritten, ArmsWritten, ElseWritten}
use Rattle.bound_plans.specs.Named.{name_of, named, named_members, named_arms, named_otherwise}
use Rattle.plan_laws.specs.Said.{IsUtf8Datum, AreUtf8, HasUtf8, HaveUtf8, ArmsHaveUtf8, ElseHasUtf8}

-- ---- texts in ASCII

low_ascii : (bs : List ℕ) → list_all (λ b. nat_lt b 128) bs ≡ true → IsAscii bs
low_ascii [] all i = omega arith
low_ascii (b ∷ bs) all zero = ltb-true b 128 (and_parts (nat_lt b 128) (list_all (λ c. nat_lt c 128) bs) all).0
low_ascii (b ∷ bs) all (suc i) = low_ascii bs (and_parts (nat_lt b 128) (list_all (λ c. nat_lt c 128) bs) all).1 i

low : (bs : List ℕ) → list_all (λ b. nat_lt b 128) bs ≡ true → IsUtf8 bs
low bs all = IsUtf8-from_ascii bs (low_ascii bs all)

word_ascii : (bs : List ℕ) → list_all goes_on bs ≡ true → IsAscii bs
word_ascii [] all i = omega arith
word_ascii (b ∷ bs) all zero = goes_on_ascii b (and_parts (goes_on b) (list_all goes_on bs) all).0
word_ascii (b ∷ bs) all (suc i) = word_ascii bs (and_parts (goes_on b) (list_all goes_on bs) all).1 i

name_text : (name : List ℕ) → IsName name → IsUtf8 name
name_text name is = IsUtf8-from_ascii name (word_ascii name is.goes_well)

number_text : (z : ℤ) → is_bigint z ≡ true → IsUtf8 (signed_decimal z)
number_text (pos n) h = IsUtf8-from_ascii (decimal n) (IsAscii-decimal_wide n (grind (arith, nat_tests)))
number_text (negsuc n) h = IsUtf8-append (45 ∷ []) (decimal (suc n)) (low (45 ∷ []) refl) (IsUtf8-from_ascii (decimal (suc n)) (IsAscii-decimal_wide (suc n) (grind (arith, nat_tests))))

-- ---- a text before and after an ASCII byte

module _ (done : List ℕ) (b : ℕ) (t : List ℕ) (small : b < 128) (u : IsUtf8 (done ++ b ∷ t)) where
  there : length done < length (done ++ b ∷ t)
  there = omega (arith, length-append done (b ∷ t))

  byte : get_or (done ++ b ∷ t) (length done) 0 < 128
  byte = let e : get_or (done ++ b ∷ t) (length done) 0 ≡ b = get_or-append_seam done b t 0 in omega arith

  text_before : IsUtf8 done
  text_before = subst IsUtf8 (take-append_seam done (b ∷ t)) (IsUtf8-take (done ++ b ∷ t) (length done) u (IsCharBoundary-before_ascii (done ++ b ∷ t) (length done) there byte))

  text_after : IsUtf8 t
  text_after =
      let n : length (done ++ b ∷ []) ≡ length done + 1 = omega (arith, length-append done (b ∷ [])) in
      let cut = IsUtf8-drop (done ++ b ∷ t) (length done + 1) u (IsCharBoundary-after_ascii (done ++ b ∷ t) (length done) u there byte) in
      subst IsUtf8 (ap (λ k. drop k (done ++ b ∷ t)) (sym n) ∙ ap (drop (length (done ++ b ∷ []))) (sym (append_assoc done (b ∷ []) t)) ∙ drop-append_seam (done ++ b ∷ []) t) cut

-- each quote doubled, after bytes that stay as they are
doubled_text : (done t : List ℕ) → IsUtf8 (done ++ t) → IsUtf8 (done ++ flat_map doubled_quote t)
doubled_text done [] u = u
doubled_text done (b ∷ t) u = go (b == 39) refl (doubled_text (done ++ b ∷ []) t) (doubled_text [] t)
  where
    go : (q : Bool) → (b == 39) ≡ q → (IsUtf8 ((done ++ b ∷ []) ++ t) → IsUtf8 ((done ++ b ∷ []) ++ flat_map doubled_quote t)) → (IsUtf8 t → IsUtf8 (flat_map doubled_quote t))
        → IsUtf8 (done ++ ((if q then 39 ∷ 39 ∷ [] else b ∷ []) ++ flat_map doubled_quote t))
    go true k later rest =
        let is : b ≡ 39 = eqb-true b 39 k in
        IsUtf8-append done (39 ∷ 39 ∷ flat_map doubled_quote t) (text_before done b t (omega arith) u)
        (IsUtf8-append (39 ∷ 39 ∷ []) (flat_map doubled_quote t) (low (39 ∷ 39 ∷ []) refl) (rest (text_after done b t (omega arith) u)))
    go false k later rest = subst IsUtf8 (append_assoc done (b ∷ []) (flat_map doubled_quote t)) (later (subst IsUtf8 (sym (append_assoc done (b ∷ []) t)) u))

quoted_text : (t : List ℕ) → IsUtf8 t → IsUtf8 (quoted t)
quoted_text t u = IsUtf8-append (39 ∷ []) (flat_map doubled_quote t ++ 39 ∷ []) (low (39 ∷ []) refl) (IsUtf8-append (flat_map doubled_quote t) (39 ∷ []) (doubled_text [] t u) (low (39 ∷ []) refl))

-- ---- texts of pieces

abbrev text_of : List ℕ → List (List ℕ) → List ℕ
text_of done [] = done
text_of done (p ∷ ps) = text_of (done ++ p) ps

abbrev Pieces : List (List ℕ) → Type 0
Pieces [] = Unit {0}
Pieces (p ∷ ps) = IsUtf8 p × Pieces ps

whole : (done : List ℕ) (ps : List (List ℕ)) → IsUtf8 done → Pieces ps → IsUtf8 (text_of done ps)
whole done [] u h = u
whole done (p ∷ ps) u h = whole (done ++ p) ps (IsUtf8-append done p u h.0) h.1

-- ---- literals and signs

literal_in_utf8 : (d : Datum) → IsLiteral d → IsUtf8Datum d → IsUtf8 (literal_text d)
literal_in_utf8 null l u = low (codes "NULL") refl
literal_in_utf8 (int n) l u = number_text n l
literal_in_utf8 (text t) l u = quoted_text t u
literal_in_utf8 (bool true) l u = low (codes "TRUE") refl
literal_in_utf8 (bool false) l u = low (codes "FALSE") refl

further_in_utf8 : (ds : List Datum) → AreLiterals ds → AreUtf8 ds → IsUtf8 (further_literals ds)
further_in_utf8 [] l u = IsUtf8-nil
further_in_utf8 (d ∷ ds) l u = whole (codes ", ") (literal_text d ∷ further_literals ds ∷ []) (low (codes ", ") refl) (literal_in_utf8 d l.0 u.0, (further_in_utf8 ds l.1 u.1, tt))

literals_in_utf8 : (ds : List Datum) → AreLiterals ds → AreUtf8 ds → IsUtf8 (literals_text ds)
literals_in_utf8 [] l u = IsUtf8-nil
literals_in_utf8 (d ∷ ds) l u = IsUtf8-append (literal_text d) (further_literals ds) (literal_in_utf8 d l.0 u.0) (further_in_utf8 ds l.1 u.1)

sign_in_utf8 : (op : value.Comparison) → IsUtf8 (sign_text op)
sign_in_utf8 sign.Equal = low (codes "=") refl
sign_in_utf8 sign.NotEqual = low (codes "<>") refl
sign_in_utf8 sign.Less = low (codes "<") refl
sign_in_utf8 sign.LessOrEqual = low (codes "<=") refl
sign_in_utf8 sign.Greater = low (codes ">") refl
sign_in_utf8 sign.GreaterOrEqual = low (codes ">=") refl

column_in_utf8 : (table : Option (List ℕ)) (name : List ℕ) → IsNamed table name → IsUtf8 (column_text table name)
column_in_utf8 None name w = absurd w
column_in_utf8 (Some alias) name w = whole alias (codes "." ∷ name ∷ []) (name_text alias w.0) (low (codes ".") refl, (name_text name w.1, tt))

not_in_utf8 : (b : Bool) → IsUtf8 (not_text b)
not_in_utf8 true = low (codes " NOT") refl
not_in_utf8 false = IsUtf8-nil

-- ---- conditions

module _ (entries : List Entry) where
  abbrev text_at : BoundExpr → List ℕ
  text_at e = expr_text (named entries e)

  mutual
    pub said_text : (e : BoundExpr) → IsWritten (named entries e) → HasUtf8 e → IsUtf8 (text_at e)
    said_text (Column id) w u = let c = name_of entries id in column_in_utf8 c.table c.name w
    said_text (Literal d) w u = literal_in_utf8 d w u
    said_text CurrentUser w u = low (codes "CURRENT_USER") refl
    said_text (Negate offset e) w u = absurd w
    said_text (Arithmetic op offset e f) w u = absurd w
    said_text (Comparison op offset e f) w u =
        whole (codes "(") (text_at e ∷ codes " " ∷ sign_text op ∷ codes " " ∷ text_at f ∷ codes ")" ∷ []) (low (codes "(") refl)
        (said_text e w.0 u.0, (low (codes " ") refl, (sign_in_utf8 op, (low (codes " ") refl, (said_text f w.1 u.1, (low (codes ")") refl, tt))))))
    said_text (Between negated offset e l h) w u =
        whole (codes "(") (text_at e ∷ not_text negated ∷ codes " BETWEEN " ∷ text_at l ∷ codes " AND " ∷ text_at h ∷ codes ")" ∷ []) (low (codes "(") refl)
        (said_text e w.0 u.0, (not_in_utf8 negated, (low (codes " BETWEEN ") refl, (said_text l w.1 u.1, (low (codes " AND ") refl, (said_text h w.2 u.2, (low (codes ")") refl, tt)))))))
    said_text (In negated offset values e) w u =
        whole (codes "(") (text_at e ∷ not_text negated ∷ codes " IN (" ∷ literals_text values ∷ codes "))" ∷ []) (low (codes "(") refl)
        (said_text e w.2 u.1, (not_in_utf8 negated, (low (codes " IN (") refl, (literals_in_utf8 values w.1 u.0, (low (codes "))") refl, tt)))))
    said_text (IsNull negated offset e) w u =
        whole (codes "(") (text_at e ∷ codes " IS" ∷ not_text negated ∷ codes " NULL)" ∷ []) (low (codes "(") refl)
        (said_text e w u, (low (codes " IS") refl, (not_in_utf8 negated, (low (codes " NULL)") refl, tt))))
    said_text (Not offset e) w u = whole (codes "(NOT ") (text_at e ∷ codes ")" ∷ []) (low (codes "(NOT ") refl) (said_text e w u, (low (codes ")") refl, tt))
    said_text (And offset es) w u =
        whole (codes "(") (members_text (codes " AND ") (named_members entries es) ∷ codes ")" ∷ []) (low (codes "(") refl) (members_in_utf8 (codes " AND ") (low (codes " AND ") refl) is_and es w.1 u, (low (codes ")") refl, tt))
    said_text (Or offset es) w u =
        whole (codes "(") (members_text (codes " OR ") (named_members entries es) ∷ codes ")" ∷ []) (low (codes "(") refl) (members_in_utf8 (codes " OR ") (low (codes " OR ") refl) is_or es w.1 u, (low (codes ")") refl, tt))
    said_text (Cast offset to e) w u = absurd w
    said_text (Case offset as_ o) w u =
        whole (codes "(CASE") (arms_text (named_arms entries as_) ∷ else_text (named_otherwise entries o) ∷ codes " END)" ∷ []) (low (codes "(CASE") refl)
        (arms_in_utf8 as_ w.1 u.0, (else_in_utf8 o w.2 u.1, (low (codes " END)") refl, tt)))
    said_text (CountStar offset) w u = absurd w
    said_text (Call f offset e) w u = absurd w

    members_in_utf8 : (word : List ℕ) → IsUtf8 word → (merged : Expr → Bool) (es : BoundExprs) → AreWritten merged (named_members entries es) → HaveUtf8 es → IsUtf8 (members_text word (named_members entries es))
    members_in_utf8 word is merged no_expr w u = IsUtf8-nil
    members_in_utf8 word is merged (one_expr e es) w u =
        IsUtf8-append (text_at e) (further_text word (named_members entries es)) (said_text e w.1 u.0) (further_members_in_utf8 word is merged es w.2 u.1)

    further_members_in_utf8 : (word : List ℕ) → IsUtf8 word → (merged : Expr → Bool) (es : BoundExprs) → AreWritten merged (named_members entries es) → HaveUtf8 es → IsUtf8 (further_text word (named_members entries es))
    further_members_in_utf8 word is merged no_expr w u = IsUtf8-nil
    further_members_in_utf8 word is merged (one_expr e es) w u =
        whole word (text_at e ∷ further_text word (named_members entries es) ∷ []) is (said_text e w.1 u.0, (further_members_in_utf8 word is merged es w.2 u.1, tt))

    arms_in_utf8 : (as_ : BoundArms) → ArmsWritten (named_arms entries as_) → ArmsHaveUtf8 as_ → IsUtf8 (arms_text (named_arms entries as_))
    arms_in_utf8 no_arm w u = IsUtf8-nil
    arms_in_utf8 (one_arm when result as_) w u =
        whole (codes " WHEN ") (text_at when ∷ codes " THEN " ∷ text_at result ∷ arms_text (named_arms entries as_) ∷ []) (low (codes " WHEN ") refl)
        (said_text when w.0 u.0, (low (codes " THEN ") refl, (said_text result w.1 u.1, (arms_in_utf8 as_ w.2 u.2, tt))))

    else_in_utf8 : (o : BoundOtherwise) → ElseWritten (named_otherwise entries o) → ElseHasUtf8 o → IsUtf8 (else_text (named_otherwise entries o))
    else_in_utf8 Nothing w u = IsUtf8-nil
    else_in_utf8 (Value e) w u = whole (codes " ELSE ") (text_at e ∷ []) (low (codes " ELSE ") refl) (said_text e w u, tt)
