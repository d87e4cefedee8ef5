-- A table changed at its index.
use Rattle.std.proofs.Common.{◌≡◌, ℕ, zero, suc, ◌+◌, ◌≤◌, Bool, true, false, cond, List, [], ◌∷◌, Option, Some, None, Result, Ok, bytes_eq, refl, sym, ap, ◌∙◌, arith}
use Rattle.std.specs.List.{position_from}
use Rattle.memory.proofs.Cases.{some_is}
use Rattle.row_objects.proofs.Marks.{at_least}
use Rattle.value.specs.declared.refusal.Refusal.{Refusal}
use Rattle.value.specs.Names.{Name}
use Rattle.row_objects.specs.Objects.{Table}
use Rattle.catalog.specs.Catalog.{Catalog, table_index}
use Rattle.row_objects.specs.TableChanges.{changed_at}
use Rattle.catalog.specs.Checks.{first_changed, unless, with_table}

pub some_of : (i j : ℕ) → i ≡ j → ◌≡◌ {A = Option ℕ} (Some i) (Some j)
some_of i j e = cc

module _ {E : Type 0} (p : E → Bool) where
  module _ (f : E → E) where
    changed_from : (es : List E) (k i : ℕ) → position_from p k es ≡ Some (k + i) → changed_at i f es ≡ first_changed p f es
    changed_from [] k i h = refl
    changed_from (e ∷ es) k zero h = go (p e) h
      where
        go : (b : Bool) → cond b (Some k) (position_from p (k + 1) es) ≡ Some (k + zero) → f e ∷ es ≡ cond b (f e ∷ es) (e ∷ first_changed p f es)
        go true h = refl
        go false h = absurd (let q = at_least p es (k + 1) (k + zero) h in omega arith)
    changed_from (e ∷ es) k (suc i) h = go (p e) h (changed_from es (k + 1) i)
      where
        go : (b : Bool) → cond b (Some k) (position_from p (k + 1) es) ≡ Some (k + suc i) → (position_from p (k + 1) es ≡ Some (k + 1 + i) → changed_at i f es ≡ first_changed p f es)
            → e ∷ changed_at i f es ≡ cond b (f e ∷ es) (e ∷ first_changed p f es)
        go true h more = absurd (let q = some_is k (k + suc i) h in omega arith)
        go false h more = ap (λ l. e ∷ l) (more (h ∙ some_of (k + suc i) (k + 1 + i) (omega arith)))

    -- the change at the index of the first is the change of the first
    changed_first : (es : List E) (i : ℕ) → position_from p 0 es ≡ Some i → changed_at i f es ≡ first_changed p f es
    changed_first es i h = changed_from es 0 i (h ∙ some_of i (0 + i) (omega arith))

-- the change at the index of the table that the checks found is the one that is due
pub due : (cat : Catalog) (name : Name) (f : Table → Table) (index : ℕ) (refusal : Option Refusal) (new : Catalog) → refusal ≡ None → table_index name cat ≡ Some index
    → new ≡ record cat { tables = changed_at index f cat.tables } → unless refusal (with_table cat name f) ≡ Ok new
due cat name f index refusal new none at e =
    ap (λ o. unless o (with_table cat name f)) none
    ∙ ap (λ (c : Catalog). let r : Result Catalog Refusal = Ok c in r) (ap (λ ts. let c : Catalog = record cat { tables = ts } in c) (sym (changed_first (λ t. bytes_eq name t.name) f cat.tables index at)) ∙ sym e)
