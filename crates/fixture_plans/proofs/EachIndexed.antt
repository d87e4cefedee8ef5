-- The indexes of one more table.
use Rattle.std.proofs.Common.{◌≡◌, ◌<◌, ◌≤◌, ◌+◌, ℕ, List, [], ◌∷◌, ◌++◌, Some, length, slice_index_or, sym, ap, subst, ◌∙◌, ◌⊎◌, inl, inr, arith}
use Rattle.std.specs.List.{slice_get}
use Rattle.std.proofs.lemmas.Bool.{cases_lt}
use Rattle.std.proofs.lemmas.List.{get_or_append_left}
use Rattle.std.proofs.Math.Seq.{get_or-append_seam}
use Rattle.indexes.specs.declared.index.IndexRows.{IndexRows}
use Rattle.tuples.specs.declared.world.GuardedTable.{GuardedTable}
use Rattle.fixture_plans.specs.Worlds.{AreOf}

pub some_same : {X : Type 0} (a b : X) → Some a ≡ Some b → a ≡ b
some_same a b h = cc

-- of the entries below a number, these are the indexes of each
abbrev pub EachIndexed : {A : Type 0} → List (GuardedTable A) → List (List ℕ) → ℕ → List (List (IndexRows A)) → Type 0
EachIndexed {A = A} tables indexed n all = (k : ℕ) (d : List (IndexRows A)) → k < n → (columns : List ℕ) → slice_get indexed k ≡ Some columns → AreOf tables k columns (slice_index_or all k d)

pub one_more : {A : Type 0} (tables : List (GuardedTable A)) (indexed : List (List ℕ)) (n : ℕ) (all new : List (List (IndexRows A))) (these : List (IndexRows A)) → length all ≡ n → new ≡ all ++ these ∷ []
    → ((columns : List ℕ) → slice_get indexed n ≡ Some columns → AreOf tables n columns these) → EachIndexed tables indexed n all → EachIndexed tables indexed (n + 1) new
one_more tables indexed n all new these long pushed this each k d lt columns at = go (cases_lt k n)
  where
    go : (k < n) ⊎ (n ≤ k) → AreOf tables k columns (slice_index_or new k d)
    go (inl below) =
        subst (λ xs. AreOf tables k columns (slice_index_or xs k d)) (sym pushed)
        (subst (AreOf tables k columns) (sym (get_or_append_left all (these ∷ []) d k (omega (arith, below, long)))) (each k d below columns at))
    go (inr past) =
        let same : k ≡ n = omega (arith, lt, past) in
        let last : slice_index_or new k d ≡ these = ap (λ l. slice_index_or l k d) pushed ∙ ap (λ i. slice_index_or (all ++ these ∷ []) i d) (same ∙ sym long) ∙ get_or-append_seam all these [] d in
        subst (AreOf tables k columns) (sym last) (subst (λ i. AreOf tables i columns these) (sym same) (this columns (subst (λ i. slice_get indexed i ≡ Some columns) same at)))
