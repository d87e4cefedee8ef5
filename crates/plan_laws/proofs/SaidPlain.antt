-- Conditions that are written, with the names of their columns, are plain; and back.
use Rattle.std.proofs.Common.{◌≡◌, Bool, false, List, [], ◌∷◌, ◌++◌, refl}
use Rattle.std.specs.List.{All, slice_get}
use Rattle.std.proofs.lemmas.List.Elements.{All-nil, All-cons, All-head, All-tail, All-append}
use Rattle.value.specs.Datum.{Datum}
use Rattle.expr.specs.declared.bound.ColumnId.{ColumnId}
use Rattle.expr.specs.Columns.{columns, all_columns, arms_columns, otherwise_columns}
use Rattle.expr.specs.Bound.{BoundExpr, Column, Literal, CurrentUser, Negate, Arithmetic, Comparison, Between, In, IsNull, Not, And, Or, Cast, Case, CountStar, Call, BoundExprs, no_expr, one_expr, BoundArms, no_arm, one_arm, BoundOtherwise, Nothing, Value}
use Rattle.scope.specs.Entry.{Entry}
use Rattle.expr_texts.specs.Filters as written
use Rattle.expr_texts.specs.Filters.{IsName, IsLiteral, AreLiterals, IsWritten, AreWritten, ArmsWritten, ElseWritten}
use Rattle.bound_plans.specs.Named.{alias_of_entry, column_name, named, named_members, named_arms, named_otherwise}
use Rattle.plan_laws.specs.Said.{IsUtf8Datum, AreUtf8, HasUtf8, HaveUtf8, ArmsHaveUtf8, ElseHasUtf8}
use Rattle.plan_laws.proofs.Plain.{is_and, is_or, AreTwo, AreArms, AreValues, IsPlain, ArePlain, ArmsPlain, ElsePlain}

-- of the elements of two lists
module _ {X : Type 0} (P : X → Type 0) where
  pub of_first : (xs ys : List X) → All P (xs ++ ys) → All P xs
  of_first [] ys h = All-nil P
  of_first (x ∷ xs) ys h = All-cons P x xs (All-head P x (xs ++ ys) h) (of_first xs ys (All-tail P x (xs ++ ys) h))

  pub of_second : (xs ys : List X) → All P (xs ++ ys) → All P ys
  of_second [] ys h = h
  of_second (x ∷ xs) ys h = of_second xs ys (All-tail P x (xs ++ ys) h)

-- a literal that a text can have, in UTF-8 if it is a text
abbrev pub IsValue : Datum → Type 0
IsValue d = IsLiteral d × IsUtf8Datum d

values_of : (ds : List Datum) → AreLiterals ds → AreUtf8 ds → AreValues IsValue ds
values_of [] l u = tt
values_of (d ∷ ds) l u = ((l.0, u.0), values_of ds l.1 u.1)

literals_of : (ds : List Datum) → AreValues IsValue ds → AreLiterals ds
literals_of [] h = tt
literals_of (d ∷ ds) h = (h.0.0, literals_of ds h.1)

texts_of : (ds : List Datum) → AreValues IsValue ds → AreUtf8 ds
texts_of [] h = tt
texts_of (d ∷ ds) h = (h.0.1, texts_of ds h.1)

module _ (entries : List Entry) (C : ColumnId → Type 0) where
  -- the names of the entry and of the column are of the grammar, and the fact is known of the column
  pub record IsColumnSaid (id : ColumnId) : Type 0 where
    pub alias : IsName (alias_of_entry (slice_get entries id.entry))
    pub name : IsName (column_name (slice_get entries id.entry) id.column)
    pub known : C id

  abbrev pub Plain : BoundExpr → Type 0
  Plain e = IsPlain IsColumnSaid IsValue e

  -- ---- the parts of lists

  two_plain : (es : BoundExprs) → written.AreTwo (named_members entries es) → AreTwo es
  two_plain no_expr h = h
  two_plain (one_expr e no_expr) h = h
  two_plain (one_expr e (one_expr f es)) h = tt

  two_written : (es : BoundExprs) → AreTwo es → written.AreTwo (named_members entries es)
  two_written no_expr h = h
  two_written (one_expr e no_expr) h = h
  two_written (one_expr e (one_expr f es)) h = tt

  arms_some : (as_ : BoundArms) → written.AreArms (named_arms entries as_) → AreArms as_
  arms_some no_arm h = h
  arms_some (one_arm when result as_) h = tt

  arms_written : (as_ : BoundArms) → AreArms as_ → written.AreArms (named_arms entries as_)
  arms_written no_arm h = h
  arms_written (one_arm when result as_) h = tt

  no_and : (e : BoundExpr) → written.is_and (named entries e) ≡ false → is_and e ≡ false
  no_and (And offset es) h = h
  no_and e h = refl

  no_or : (e : BoundExpr) → written.is_or (named entries e) ≡ false → is_or e ≡ false
  no_or (Or offset es) h = h
  no_or e h = refl

  no_and_named : (e : BoundExpr) → is_and e ≡ false → written.is_and (named entries e) ≡ false
  no_and_named (And offset es) h = h
  no_and_named e h = refl

  no_or_named : (e : BoundExpr) → is_or e ≡ false → written.is_or (named entries e) ≡ false
  no_or_named (Or offset es) h = h
  no_or_named e h = refl

  -- ---- from a written condition

  mutual
    pub to_plain : (e : BoundExpr) → IsWritten (named entries e) → HasUtf8 e → All C (columns e) → Plain e
    to_plain (Column id) w u c = record { alias = w.0; name = w.1; known = All-head C id [] c }
    to_plain (Literal d) w u c = (w, u)
    to_plain CurrentUser w u c = tt
    to_plain (Negate offset e) w u c = absurd w
    to_plain (Arithmetic op offset e f) w u c = absurd w
    to_plain (Comparison op offset e f) w u c = (to_plain e w.0 u.0 (of_first C (columns e) (columns f) c), to_plain f w.1 u.1 (of_second C (columns e) (columns f) c))
    to_plain (Between negated offset e low high) w u c =
        let rest = of_second C (columns e) (columns low ++ columns high) c in
        (to_plain e w.0 u.0 (of_first C (columns e) (columns low ++ columns high) c), to_plain low w.1 u.1 (of_first C (columns low) (columns high) rest), to_plain high w.2 u.2 (of_second C (columns low) (columns high) rest))
    to_plain (In negated offset values e) w u c = (w.0, values_of values w.1 u.0, to_plain e w.2 u.1 c)
    to_plain (IsNull negated offset e) w u c = to_plain e w u c
    to_plain (Not offset e) w u c = to_plain e w u c
    to_plain (And offset es) w u c = (two_plain es w.0, ands_plain es w.1 u c)
    to_plain (Or offset es) w u c = (two_plain es w.0, ors_plain es w.1 u c)
    to_plain (Cast offset to e) w u c = absurd w
    to_plain (Case offset as_ o) w u c =
        (arms_some as_ w.0, arms_plain as_ w.1 u.0 (of_first C (arms_columns as_) (otherwise_columns o) c), else_plain o w.2 u.1 (of_second C (arms_columns as_) (otherwise_columns o) c))
    to_plain (CountStar offset) w u c = absurd w
    to_plain (Call f offset e) w u c = absurd w

    ands_plain : (es : BoundExprs) → AreWritten written.is_and (named_members entries es) → HaveUtf8 es → All C (all_columns es) → ArePlain IsColumnSaid IsValue is_and es
    ands_plain no_expr w u c = tt
    ands_plain (one_expr e es) w u c = (no_and e w.0, to_plain e w.1 u.0 (of_first C (columns e) (all_columns es) c), ands_plain es w.2 u.1 (of_second C (columns e) (all_columns es) c))

    ors_plain : (es : BoundExprs) → AreWritten written.is_or (named_members entries es) → HaveUtf8 es → All C (all_columns es) → ArePlain IsColumnSaid IsValue is_or es
    ors_plain no_expr w u c = tt
    ors_plain (one_expr e es) w u c = (no_or e w.0, to_plain e w.1 u.0 (of_first C (columns e) (all_columns es) c), ors_plain es w.2 u.1 (of_second C (columns e) (all_columns es) c))

    arms_plain : (as_ : BoundArms) → ArmsWritten (named_arms entries as_) → ArmsHaveUtf8 as_ → All C (arms_columns as_) → ArmsPlain IsColumnSaid IsValue as_
    arms_plain no_arm w u c = tt
    arms_plain (one_arm when result as_) w u c =
        let rest = of_second C (columns when) (columns result ++ arms_columns as_) c in
        (to_plain when w.0 u.0 (of_first C (columns when) (columns result ++ arms_columns as_) c), to_plain result w.1 u.1 (of_first C (columns result) (arms_columns as_) rest), arms_plain as_ w.2 u.2 (of_second C (columns result) (arms_columns as_) rest))

    else_plain : (o : BoundOtherwise) → ElseWritten (named_otherwise entries o) → ElseHasUtf8 o → All C (otherwise_columns o) → ElsePlain IsColumnSaid IsValue o
    else_plain Nothing w u c = tt
    else_plain (Value e) w u c = to_plain e w u c

  -- ---- and back

  mutual
    pub written_back : (e : BoundExpr) → Plain e → IsWritten (named entries e)
    written_back (Column id) h = (h.alias, h.name)
    written_back (Literal d) h = h.0
    written_back CurrentUser h = tt
    written_back (Negate offset e) h = h
    written_back (Arithmetic op offset e f) h = h
    written_back (Comparison op offset e f) h = (written_back e h.0, written_back f h.1)
    written_back (Between negated offset e low high) h = (written_back e h.0, written_back low h.1, written_back high h.2)
    written_back (In negated offset values e) h = (h.0, literals_of values h.1, written_back e h.2)
    written_back (IsNull negated offset e) h = written_back e h
    written_back (Not offset e) h = written_back e h
    written_back (And offset es) h = (two_written es h.0, ands_back es h.1)
    written_back (Or offset es) h = (two_written es h.0, ors_back es h.1)
    written_back (Cast offset to e) h = h
    written_back (Case offset as_ o) h = (arms_written as_ h.0, arms_back as_ h.1, else_back o h.2)
    written_back (CountStar offset) h = h
    written_back (Call f offset e) h = h

    ands_back : (es : BoundExprs) → ArePlain IsColumnSaid IsValue is_and es → AreWritten written.is_and (named_members entries es)
    ands_back no_expr h = tt
    ands_back (one_expr e es) h = (no_and_named e h.0, written_back e h.1, ands_back es h.2)

    ors_back : (es : BoundExprs) → ArePlain IsColumnSaid IsValue is_or es → AreWritten written.is_or (named_members entries es)
    ors_back no_expr h = tt
    ors_back (one_expr e es) h = (no_or_named e h.0, written_back e h.1, ors_back es h.2)

    arms_back : (as_ : BoundArms) → ArmsPlain IsColumnSaid IsValue as_ → ArmsWritten (named_arms entries as_)
    arms_back no_arm h = tt
    arms_back (one_arm when result as_) h = (written_back when h.0, written_back result h.1, arms_back as_ h.2)

    else_back : (o : BoundOtherwise) → ElsePlain IsColumnSaid IsValue o → ElseWritten (named_otherwise entries o)
    else_back Nothing h = tt
    else_back (Value e) h = written_back e h

  mutual
    pub utf8_back : (e : BoundExpr) → Plain e → HasUtf8 e
    utf8_back (Column id) h = tt
    utf8_back (Literal d) h = h.1
    utf8_back CurrentUser h = tt
    utf8_back (Negate offset e) h = absurd h
    utf8_back (Arithmetic op offset e f) h = absurd h
    utf8_back (Comparison op offset e f) h = (utf8_back e h.0, utf8_back f h.1)
    utf8_back (Between negated offset e low high) h = (utf8_back e h.0, utf8_back low h.1, utf8_back high h.2)
    utf8_back (In negated offset values e) h = (texts_of values h.1, utf8_back e h.2)
    utf8_back (IsNull negated offset e) h = utf8_back e h
    utf8_back (Not offset e) h = utf8_back e h
    utf8_back (And offset es) h = all_utf8 is_and es h.1
    utf8_back (Or offset es) h = all_utf8 is_or es h.1
    utf8_back (Cast offset to e) h = absurd h
    utf8_back (Case offset as_ o) h = (arms_utf8 as_ h.1, else_utf8 o h.2)
    utf8_back (CountStar offset) h = absurd h
    utf8_back (Call f offset e) h = absurd h

    all_utf8 : (merged : BoundExpr → Bool) (es : BoundExprs) → ArePlain IsColumnSaid IsValue merged es → HaveUtf8 es
    all_utf8 merged no_expr h = tt
    all_utf8 merged (one_expr e es) h = (utf8_back e h.1, all_utf8 merged es h.2)

    arms_utf8 : (as_ : BoundArms) → ArmsPlain IsColumnSaid IsValue as_ → ArmsHaveUtf8 as_
    arms_utf8 no_arm h = tt
    arms_utf8 (one_arm when result as_) h = (utf8_back when h.0, utf8_back result h.1, arms_utf8 as_ h.2)

    else_utf8 : (o : BoundOtherwise) → ElsePlain IsColumnSaid IsValue o → ElseHasUtf8 o
    else_utf8 Nothing h = tt
    else_utf8 (Value e) h = utf8_back e h

  mutual
    pub columns_back : (e : BoundExpr) → Plain e → All C (columns e)
    columns_back (Column id) h = All-cons C id [] h.known (All-nil C)
    columns_back (Literal d) h = All-nil C
    columns_back CurrentUser h = All-nil C
    columns_back (Negate offset e) h = absurd h
    columns_back (Arithmetic op offset e f) h = absurd h
    columns_back (Comparison op offset e f) h = All-append C (columns e) (columns f) (columns_back e h.0) (columns_back f h.1)
    columns_back (Between negated offset e low high) h =
        All-append C (columns e) (columns low ++ columns high) (columns_back e h.0) (All-append C (columns low) (columns high) (columns_back low h.1) (columns_back high h.2))
    columns_back (In negated offset values e) h = columns_back e h.2
    columns_back (IsNull negated offset e) h = columns_back e h
    columns_back (Not offset e) h = columns_back e h
    columns_back (And offset es) h = all_columns_back is_and es h.1
    columns_back (Or offset es) h = all_columns_back is_or es h.1
    columns_back (Cast offset to e) h = absurd h
    columns_back (Case offset as_ o) h = All-append C (arms_columns as_) (otherwise_columns o) (arms_columns_back as_ h.1) (else_columns_back o h.2)
    columns_back (CountStar offset) h = absurd h
    columns_back (Call f offset e) h = absurd h

    all_columns_back : (merged : BoundExpr → Bool) (es : BoundExprs) → ArePlain IsColumnSaid IsValue merged es → All C (all_columns es)
    all_columns_back merged no_expr h = All-nil C
    all_columns_back merged (one_expr e es) h = All-append C (columns e) (all_columns es) (columns_back e h.1) (all_columns_back merged es h.2)

    arms_columns_back : (as_ : BoundArms) → ArmsPlain IsColumnSaid IsValue as_ → All C (arms_columns as_)
    arms_columns_back no_arm h = All-nil C
    arms_columns_back (one_arm when result as_) h =
        All-append C (columns when) (columns result ++ arms_columns as_) (columns_back when h.0) (All-append C (columns result) (arms_columns as_) (columns_back result h.1) (arms_columns_back as_ h.2))

    else_columns_back : (o : BoundOtherwise) → ElsePlain IsColumnSaid IsValue o → All C (otherwise_columns o)
    else_columns_back Nothing h = All-nil C
    else_columns_back (Value e) h = columns_back e h
