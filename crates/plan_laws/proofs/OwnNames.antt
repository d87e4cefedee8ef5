-- Where names differ, each entry and each column is found by its own name.
use Rattle.std.proofs.Common.{◌≡◌, ℕ, zero, suc, ◌+◌, ◌<◌, true, false, if◌then◌else◌, List, [], ◌∷◌, length, map, Some, refl, sym, ap, ◌∙◌, subst, arith}
use Rattle.std.specs.List.{All, AllByRecursion, IsDistinct, slice_get}
use Rattle.std.specs.Str.{bytes_eq}
use Rattle.std.proofs.lemmas.List.Elements.{All-head, All-tail}
use Rattle.std.proofs.lemmas.Map.Keys.{IsDistinct-head, IsDistinct-tail}
use Rattle.value.specs.Columns.{Column}
use Rattle.value.specs.Names.{Name}
use Rattle.expr_texts.specs.Filters.{IsName}
use Rattle.plan_texts.specs.Plans.{PlanEntry}
use Rattle.plan_texts.specs.Reading.{numbered_from, columns_from, HasEntry, HasColumn}
use Rattle.plan_texts.specs.PlanTexts.{alias_of, column_of, or_nothing}
use Rattle.scope.specs.Entry.{Entry}
use Rattle.scope.proofs.ByAlias.{same_names, other_names}
use Rattle.bound_plans.specs.Entries.{column_names, plan_entries, plan_entry}

-- ---- the number of a name

not_that : (a : Name) (ns : List Name) (i : ℕ) (n : Name) → AllByRecursion (λ b. bytes_eq a b ≡ false) ns → slice_get ns i ≡ Some n → bytes_eq a n ≡ false
not_that a [] i n h g = cc
not_that a (x ∷ xs) zero n h g = let same : x ≡ n = cc in ap (bytes_eq a) (sym same) ∙ h.0
not_that a (x ∷ xs) (suc i) n h g = not_that a xs i n h.1 g

numbered_at : (k : ℕ) (ns : List Name) (i : ℕ) (n : Name) → IsDistinct bytes_eq ns → slice_get ns i ≡ Some n → numbered_from k ns n ≡ Some (k + i)
numbered_at k [] i n d g = cc
numbered_at k (x ∷ xs) zero n d g =
    let same : x ≡ n = cc in
    let here : bytes_eq n x ≡ true = same_names n x (sym same) in
    let at : k ≡ k + 0 = omega arith in
    ap (λ b. if b then Some k else numbered_from (suc k) xs n) here ∙ ap (λ m. Some m) at
numbered_at k (x ∷ xs) (suc i) n d g =
    let there : bytes_eq n x ≡ false = other_names x n (not_that x xs i n (IsDistinct-head bytes_eq x xs d) g) in
    let at : suc k + i ≡ k + suc i = omega arith in
    ap (λ b. if b then Some k else numbered_from (suc k) xs n) there ∙ numbered_at (suc k) xs i n (IsDistinct-tail bytes_eq x xs d) g ∙ ap (λ m. Some m) at

-- ---- elements by their index

pub present : {X : Type 0} (xs : List X) (i : ℕ) → i < length xs → (x : X) × (slice_get xs i ≡ Some x)
present [] i l = absurd (omega arith)
present (x ∷ xs) zero l = (x, refl)
present (x ∷ xs) (suc i) l = present xs i (omega arith)

mapped : {X Y : Type 0} (f : X → Y) (xs : List X) (i : ℕ) (x : X) → slice_get xs i ≡ Some x → slice_get (map f xs) i ≡ Some (f x)
mapped f [] i x g = cc
mapped f (y ∷ ys) zero x g = let same : y ≡ x = cc in ap (λ z. Some (f z)) same
mapped f (y ∷ ys) (suc i) x g = mapped f ys i x g

pub at_index : {X : Type 0} (P : X → Type 0) (xs : List X) (i : ℕ) (x : X) → All P xs → slice_get xs i ≡ Some x → P x
at_index P [] i x h g = cc
at_index P (y ∷ ys) zero x h g = let same : y ≡ x = cc in subst P same (All-head P y ys h)
at_index P (y ∷ ys) (suc i) x h g = at_index P ys i x (All-tail P y ys h) g

columns_of_entry : (es : List PlanEntry) (i : ℕ) (e : PlanEntry) → slice_get es i ≡ Some e → columns_from es i ≡ e.columns
columns_of_entry [] i e g = cc
columns_of_entry (x ∷ xs) zero e g = let same : x ≡ e = cc in ap (λ (y : PlanEntry). y.columns) same
columns_of_entry (x ∷ xs) (suc i) e g = columns_of_entry xs i e g

alias_list : (entries : List Entry) → map (λ (e : PlanEntry). e.alias) (plan_entries entries) ≡ map (λ (e : Entry). e.alias) entries
alias_list [] = refl
alias_list (e ∷ es) = ap (λ ns. e.alias ∷ ns) (alias_list es)

-- ---- entries and columns

module _ (entries : List Entry) (i : ℕ) (e : Entry) (there : slice_get entries i ≡ Some e) where
  planned : slice_get (plan_entries entries) i ≡ Some (plan_entry e)
  planned = mapped (λ (x : Entry). plan_entry x) entries i e there

  pub has_entry : IsDistinct bytes_eq (map (λ (e : Entry). e.alias) entries) → All (λ (e : Entry). IsName e.alias) entries → HasEntry (plan_entries entries) (suc i)
  has_entry differ names =
      let own : alias_of (slice_get (plan_entries entries) i) ≡ e.alias = ap alias_of planned in
      let at : 1 + i ≡ suc i = omega arith in
      let number : numbered_from 1 (map (λ (e : PlanEntry). e.alias) (plan_entries entries)) e.alias ≡ Some (suc i) =
      ap (λ ns. numbered_from 1 ns e.alias) (alias_list entries)
      ∙ numbered_at 1 (map (λ (e : Entry). e.alias) entries) i e.alias differ (mapped (λ (x : Entry). x.alias) entries i e there)
      ∙ ap (λ m. Some m) at
      in
      subst (λ n. (numbered_from 1 (map (λ (e : PlanEntry). e.alias) (plan_entries entries)) n ≡ Some (suc i)) × IsName n) (sym own) (number, at_index (λ (x : Entry). IsName x.alias) entries i e names there)

  pub has_column : IsDistinct bytes_eq (column_names e.table.columns) → All (λ (c : Column). IsName c.name) e.table.columns → (j : ℕ) → j < length e.table.columns → HasColumn (plan_entries entries) (suc i) (suc j)
  has_column differ names j within =
      let it = present e.table.columns j within in
      let next : 1 + j ≡ suc j = omega arith in
      let at : slice_get (column_names e.table.columns) j ≡ Some it.0.name = mapped (λ (c : Column). c.name) e.table.columns j it.0 it.1 in
      let own : column_of (slice_get (plan_entries entries) i) (suc j) ≡ it.0.name = ap (λ o. column_of o (suc j)) planned ∙ ap or_nothing at in
      let columns : columns_from (plan_entries entries) i ≡ column_names e.table.columns = columns_of_entry (plan_entries entries) i (plan_entry e) planned in
      let number : numbered_from 1 (columns_from (plan_entries entries) i) it.0.name ≡ Some (suc j) =
      ap (λ ns. numbered_from 1 ns it.0.name) columns ∙ numbered_at 1 (column_names e.table.columns) j it.0.name differ at ∙ ap (λ m. Some m) next
      in
      subst (λ n. (numbered_from 1 (columns_from (plan_entries entries) i) n ≡ Some (suc j)) × IsName n) (sym own) (number, at_index (λ (c : Column). IsName c.name) e.table.columns j it.0 names it.1)
