-- A said condition whose columns are of the entries is a filter with a text.
use Rattle.std.proofs.Common.{◌≡◌, ℕ, zero, suc, ◌+◌, ◌<◌, length, Bool, true, false, if◌then◌else◌, List, [], ◌∷◌, ◌++◌, map, Option, Some, is_some, option_and_then, refl, sym, ap, ◌∙◌, arith}
use Rattle.std.specs.List.{All, AllByRecursion, IsDistinct, slice_get}
use Rattle.std.specs.Str.{bytes_eq}
use Rattle.std.proofs.lemmas.List.Elements.{All-head}
use Rattle.std.proofs.lemmas.Map.Keys.{IsDistinct-head, IsDistinct-tail}
use Rattle.value.specs.Columns.{Column as TableColumn}
use Rattle.value.specs.Names.{Name}
use Rattle.row_ast.specs.Ast.{ColumnRef}
use Rattle.expr.specs.declared.bound.ColumnId.{ColumnId}
use Rattle.expr.specs.Columns.{columns, all_columns, arms_columns, otherwise_columns}
use Rattle.expr.specs.Bound.{BoundExpr, Column, Literal, CurrentUser, Negate, Arithmetic, Comparison, Between, In, IsNull, Not, And, Or, Cast, Case, CountStar, Call, BoundExprs, no_expr, one_expr, BoundArms, no_arm, one_arm, BoundOtherwise, Nothing, Value}
use Rattle.scope.specs.Entry.{Entry}
use Rattle.scope.proofs.ByAlias.{same_names, other_names}
use Rattle.plan_texts.specs.Plans.{PlanEntry}
use Rattle.plan_texts.specs.Columns as named_columns
use Rattle.plan_texts.specs.Reading.{numbered_from, number_of, columns_from, column_at, entry_at, is_found, IsFilter}
use Rattle.bound_plans.specs.Entries.{column_names, plan_entries}
use Rattle.bound_plans.specs.Found.{IsColumn, Unmistakable}
use Rattle.bound_plans.specs.Named.{alias_of_entry, name_of_column, column_name, name_of, named, named_members, named_arms, named_otherwise}
use Rattle.predicates.proofs.Keeping.{both}
use Rattle.plan_laws.specs.Said.{IsSaid}
use Rattle.plan_laws.proofs.SaidPlain.{of_first, of_second}
use Rattle.plan_laws.proofs.SaidTexts.{said_text}

-- ---- the entry of an alias, and the column of a name

abbrev aliases : List Entry → List Name
aliases es = map (λ e. e.alias) es

not_that_alias : (a : Name) (es : List Entry) (i : ℕ) (e : Entry) → AllByRecursion (λ b. bytes_eq a b ≡ false) (aliases es) → slice_get es i ≡ Some e → bytes_eq a e.alias ≡ false
not_that_alias a [] i e h g = cc
not_that_alias a (x ∷ xs) zero e h g = let same : x ≡ e = cc in ap (λ (y : Entry). bytes_eq a y.alias) (sym same) ∙ h.0
not_that_alias a (x ∷ xs) (suc i) e h g = not_that_alias a xs i e h.1 g

-- the number of an entry is found by its alias
pub entry_number : (k : ℕ) (es : List Entry) (i : ℕ) (e : Entry) → IsDistinct bytes_eq (aliases es) → slice_get es i ≡ Some e → numbered_from k (map (λ (p : PlanEntry). p.alias) (plan_entries es)) e.alias ≡ Some (k + i)
entry_number k [] i e d g = cc
entry_number k (x ∷ es) zero e d g =
    let same : x ≡ e = cc in
    let at : k ≡ k + 0 = omega arith in
    rw (same_names e.alias x.alias (ap (λ (y : Entry). y.alias) (sym same))) (ap (λ n. Some n) at)
entry_number k (x ∷ es) (suc i) e d g =
    let other = other_names x.alias e.alias (not_that_alias x.alias es i e (IsDistinct-head bytes_eq x.alias (aliases es) d) g) in
    let at : suc k + i ≡ k + suc i = omega arith in
    rw other (entry_number (suc k) es i e (IsDistinct-tail bytes_eq x.alias (aliases es) d) g ∙ ap (λ n. Some n) at)

-- its columns are found by the number
columns_of : (es : List Entry) (i : ℕ) (e : Entry) → slice_get es i ≡ Some e → columns_from (plan_entries es) i ≡ column_names e.table.columns
columns_of [] i e g = cc
columns_of (x ∷ es) zero e g = let same : x ≡ e = cc in ap (λ (y : Entry). column_names y.table.columns) same
columns_of (x ∷ es) (suc i) e g = columns_of es i e g

-- a column is found by its name
column_found : (k : ℕ) (cs : List TableColumn) (i : ℕ) (c : TableColumn) → slice_get cs i ≡ Some c → is_some (numbered_from k (column_names cs) c.name) ≡ true
column_found k [] i c g = cc
column_found k (x ∷ cs) zero c g = let same : x ≡ c = cc in rw (same_names c.name x.name (ap (λ (y : TableColumn). y.name) (sym same))) refl
column_found k (x ∷ cs) (suc i) c g = go (bytes_eq c.name x.name) (column_found (suc k) cs i c g)
  where
    go : (b : Bool) → is_some (numbered_from (suc k) (column_names cs) c.name) ≡ true → is_some (if b then Some k else numbered_from (suc k) (column_names cs) c.name) ≡ true
    go true h = refl
    go false h = h

present : {X : Type 0} (xs : List X) (i : ℕ) → i < length xs → (x : X) × slice_get xs i ≡ Some x
present [] i l = absurd (omega arith)
present (x ∷ xs) zero l = (x, refl)
present (x ∷ xs) (suc i) l = present xs i (omega arith)

module _ (entries : List Entry) where
  found : Unmistakable entries → (id : ColumnId) → IsColumn entries id → is_found (plan_entries entries) (name_of entries id) ≡ true
  found u id c =
      let it = present c.entry.table.columns id.column c.within in
      let at : 1 + id.entry ≡ suc id.entry = omega arith in
      let number : numbered_from 1 (map (λ (p : PlanEntry). p.alias) (plan_entries entries)) c.entry.alias ≡ Some (suc id.entry) = entry_number 1 entries id.entry c.entry u.aliases c.there ∙ ap (λ (n : ℕ). Some n) at in
      ap (λ (o : Option Entry). is_some (option_and_then (λ (i : ℕ). column_at (plan_entries entries) i (column_name o id.column)) (entry_at (plan_entries entries) (alias_of_entry o)))) c.there
      ∙ ap (λ (o : Option ℕ). is_some (option_and_then (λ (i : ℕ). column_at (plan_entries entries) i (column_name (Some c.entry) id.column)) o)) number
      ∙ ap (λ (names : List Name). is_some (number_of names (column_name (Some c.entry) id.column))) (columns_of entries id.entry c.entry c.there)
      ∙ ap (λ (o : Option TableColumn). is_some (number_of (column_names c.entry.table.columns) (name_of_column o))) it.1
      ∙ column_found 1 c.entry.table.columns id.column it.0 it.1

  -- ---- the columns of a condition

  module _ (test : ColumnRef → Bool) (C : ColumnId → Type 0) (passes : (id : ColumnId) → C id → test (name_of entries id) ≡ true) where
    mutual
      all_pass : (e : BoundExpr) → All C (columns e) → named_columns.all_columns test (named entries e) ≡ true
      all_pass (Column id) h = passes id (All-head C id [] h)
      all_pass (Literal d) h = refl
      all_pass CurrentUser h = refl
      all_pass (Negate offset e) h = all_pass e h
      all_pass (Arithmetic op offset e f) h = both _ _ (all_pass e (of_first C (columns e) (columns f) h)) (all_pass f (of_second C (columns e) (columns f) h))
      all_pass (Comparison op offset e f) h = both _ _ (all_pass e (of_first C (columns e) (columns f) h)) (all_pass f (of_second C (columns e) (columns f) h))
      all_pass (Between negated offset e low high) h =
          let rest = of_second C (columns e) (columns low ++ columns high) h in
          both _ _ (all_pass e (of_first C (columns e) (columns low ++ columns high) h)) (both _ _ (all_pass low (of_first C (columns low) (columns high) rest)) (all_pass high (of_second C (columns low) (columns high) rest)))
      all_pass (In negated offset values e) h = all_pass e h
      all_pass (IsNull negated offset e) h = all_pass e h
      all_pass (Not offset e) h = all_pass e h
      all_pass (And offset es) h = members_pass es h
      all_pass (Or offset es) h = members_pass es h
      all_pass (Cast offset to e) h = all_pass e h
      all_pass (Case offset as_ o) h = both _ _ (arms_pass as_ (of_first C (arms_columns as_) (otherwise_columns o) h)) (else_passes o (of_second C (arms_columns as_) (otherwise_columns o) h))
      all_pass (CountStar offset) h = refl
      all_pass (Call f offset e) h = all_pass e h

      members_pass : (es : BoundExprs) → All C (all_columns es) → named_columns.members_columns test (named_members entries es) ≡ true
      members_pass no_expr h = refl
      members_pass (one_expr e es) h = both _ _ (all_pass e (of_first C (columns e) (all_columns es) h)) (members_pass es (of_second C (columns e) (all_columns es) h))

      arms_pass : (as_ : BoundArms) → All C (arms_columns as_) → named_columns.arms_columns test (named_arms entries as_) ≡ true
      arms_pass no_arm h = refl
      arms_pass (one_arm when result as_) h =
          let rest = of_second C (columns when) (columns result ++ arms_columns as_) h in
          both _ _ (all_pass when (of_first C (columns when) (columns result ++ arms_columns as_) h)) (both _ _ (all_pass result (of_first C (columns result) (arms_columns as_) rest)) (arms_pass as_ (of_second C (columns result) (arms_columns as_) rest)))

      else_passes : (o : BoundOtherwise) → All C (otherwise_columns o) → named_columns.else_columns test (named_otherwise entries o) ≡ true
      else_passes Nothing h = refl
      else_passes (Value e) h = all_pass e h

  -- ---- filters

  pub said_filter : Unmistakable entries → (e : BoundExpr) → All (IsColumn entries) (columns e) → IsSaid entries e → IsFilter (plan_entries entries) (named entries e)
  said_filter u e c s = record {
    written = s.written;
    shallow = s.shallow;
    utf8 = said_text entries e s.written s.utf8;
    found = all_pass (is_found (plan_entries entries)) (IsColumn entries) (found u) e c;
  }
