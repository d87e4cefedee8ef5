-- No cell is found where columns or values run out.
use Rattle.std.proofs.Common.{◌≡◌, ◌⊎◌, inl, inr, ℕ, List, [], ◌∷◌, refl, sym, ap, ◌∙◌}
use Rattle.value.specs.Datum.{Datum, null, Row}
use Rattle.expr.specs.declared.bound.ColumnId.{ColumnId}
use Rattle.expr.specs.Aggregates.{AggregateCall}
use Rattle.groups.specs.GroupRow.{key_cell, total_at}

no_values : (columns : List ColumnId) (id : ColumnId) → key_cell columns [] id ≡ null
no_values [] id = refl
no_values (column ∷ columns) id = refl

pub no_key_cell : (columns : List ColumnId) (key : Row) (id : ColumnId) (whole : Datum) → (columns ≡ []) ⊎ (key ≡ []) → key_cell columns key id ≡ whole → null ≡ whole
no_key_cell columns key id whole (inl none) so_far = ap (λ l. key_cell l key id) (sym none) ∙ so_far
no_key_cell columns key id whole (inr none) so_far = sym (no_values columns id) ∙ ap (λ l. key_cell columns l id) (sym none) ∙ so_far

no_totals : (calls : List AggregateCall) (offset : ℕ) → total_at calls [] offset ≡ null
no_totals [] offset = refl
no_totals (c ∷ calls) offset = refl

pub no_total : (calls : List AggregateCall) (totals : Row) (offset : ℕ) (whole : Datum) → (calls ≡ []) ⊎ (totals ≡ []) → total_at calls totals offset ≡ whole → null ≡ whole
no_total calls totals offset whole (inl none) so_far = ap (λ l. total_at l totals offset) (sym none) ∙ so_far
no_total calls totals offset whole (inr none) so_far = sym (no_totals calls offset) ∙ ap (λ l. total_at calls l offset) (sym none) ∙ so_far

pub either_map : {A B C D : Type 0} (f : List A → List C) (g : List B → List D) → f [] ≡ [] → g [] ≡ [] → (xs : List A) (ys : List B) → (xs ≡ []) ⊎ (ys ≡ []) → (f xs ≡ []) ⊎ (g ys ≡ [])
either_map f g p q xs ys (inl none) = inl (ap f none ∙ p)
either_map f g p q xs ys (inr none) = inr (ap g none ∙ q)
