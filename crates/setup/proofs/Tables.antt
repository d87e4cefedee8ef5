-- Tables that are loaded one after another.
use Rattle.std.proofs.Common.{◌≡◌, inr, ℕ, suc, ◌+◌, ◌<◌, Bool, true, false, cond, List, [], ◌∷◌, ◌++◌, length, take, drop, get_or, Option, Some, None, Result, Ok, Err, IfErr, refl, sym, ap, ◌∙◌, add-one}
use Rattle.std.proofs.Math.Seq.{take-suc, drop-cons}
use Rattle.std.proofs.lemmas.List.{take-append-drop}
use Rattle.std.proofs.lemmas.Option.{slice_get_within, get_or_from_slice_get}
use Rattle.std.specs.List.{slice_get}
use Rattle.csv_records.specs.Left.{records_of}
use Rattle.value.specs.Datum.{Row}
use Rattle.tables.specs.Loading.{TableRows, Fields}
use Rattle.memory.specs.declared.failure.Failure as memory
use Rattle.memory.specs.declared.failure.Failure.TheVariants as failure
use Rattle.value.specs.Names.{Name}
use Rattle.engine.specs.StoreError.{StoreError}
use Rattle.engine.specs.Checks.{first_changed}
use Rattle.engine.specs.Database.{is_named}
use Rattle.engine.specs.Loads.{IsLoad, IsLoadFrom, with_rows}
use Rattle.setup.specs.Loads.{AreLoaded, IsErrorOf, IsRowFault, Knows, names_of}
use Rattle.setup.specs.declared.error.SetupError.{SetupError}
use Rattle.setup.specs.declared.error.SetupError.TheVariants as fault

-- ---- the names stay

names_changed : (name : Name) (rows : List Row) (es : List (Name × TableRows)) → names_of (first_changed (is_named name) (with_rows rows) es) ≡ names_of es
names_changed name rows [] = refl
names_changed name rows (e ∷ es) = go (is_named name e) (names_changed name rows es)
  where
    go : (b : Bool) → names_of (first_changed (is_named name) (with_rows rows) es) ≡ names_of es
        → names_of (cond b (with_rows rows e ∷ es) (e ∷ first_changed (is_named name) (with_rows rows) es)) ≡ e.0 ∷ names_of es
    go true h = refl
    go false h = ap (λ ns. e.0 ∷ ns) h

loaded_names : (old new : List (Name × TableRows)) (name : Name) (recs : List Fields) → IsLoad old new name recs (Ok tt) → names_of new ≡ names_of old
loaded_names old new name recs h = ap names_of h.4 ∙ names_changed name h.1 old

pub names_kept : (known : Option (List ℕ)) (old new : List (Name × TableRows)) (name : Name) → IsLoadFrom known old new name (Ok tt) → names_of new ≡ names_of old
names_kept None old new name h = loaded_names old new name h.0 h.1
names_kept (Some bytes) old new name h = loaded_names old new name (records_of bytes) h.0

-- ---- the table of a place

module _ (names : List Name) (i : ℕ) (name : Name) (at : slice_get names i ≡ Some name) where
  is : get_or names i name ≡ name
  is = get_or_from_slice_get names i name name at

  below : i < length names
  below = slice_get_within names i name at

  pub parted : names ≡ take i names ++ name ∷ drop (i + 1) names
  parted = sym (take-append-drop i names) ∙ ap (λ back. take i names ++ back) (rw (add-one, drop-cons names i name below, is) refl)

  prefix : take (i + 1) names ≡ take i names ++ name ∷ []
  prefix = rw (add-one, take-suc names i name below, is) refl

  loaded_after : (bytes : Name → Option (List ℕ)) (done : List Name) (old mid new : List (Name × TableRows)) → AreLoaded bytes done old mid → IsLoadFrom (bytes name) mid new name (Ok tt)
      → AreLoaded bytes (done ++ name ∷ []) old new
  loaded_after bytes [] old mid new h l = let same : mid ≡ old = h in (new, rw same at l, refl)
  loaded_after bytes (n ∷ ns) old mid new h l = (h.0, h.1, loaded_after bytes ns h.0 mid new h.2 l)

  -- one table more is loaded
  pub loaded_more : (bytes : Name → Option (List ℕ)) (old mid new : List (Name × TableRows)) → AreLoaded bytes (take i names) old mid → IsLoadFrom (bytes name) mid new name (Ok tt)
      → AreLoaded bytes (take (i + 1) names) old new
  loaded_more bytes old mid new h l = rw prefix (loaded_after bytes (take i names) old mid new h l)

-- ---- what is known of a file

pub load_known : (known left : Option (List ℕ)) (old new : List (Name × TableRows)) (name : Name) (r : Result (Unit {0}) (memory.Failure StoreError)) → Knows known left → IsLoadFrom left old new name r → IsLoadFrom known old new name r
load_known None None old new name r k h = h
load_known None (Some bytes) old new name r k h = (records_of bytes, h.0)
load_known (Some bytes) left old new name r k h = rw k at h

pub fault_known : {A : Type 0} (path : List ℕ) (known left : Option (List ℕ)) (old : List (Name × TableRows)) (name : Name) (f : memory.Failure (SetupError A)) → Knows known left → IsRowFault left old name f → IsErrorOf path known old name f
fault_known path known left old name (failure.Error (fault.Input p)) k h = absurd h
fault_known path known left old name (failure.Error (fault.Schema e)) k h = absurd h
fault_known path known left old name (failure.Error (fault.Data table column e)) k h = inr (h.0, h.1, load_known known left old old name _ k h.2)
fault_known path known left old name failure.OutOfMemory k h = inr tt

-- ---- a fact of one outcome, from another fact

pub if_err : {T E : Type 0} (r : Result T E) (P Q : E → Type 0) → ((e : E) → P e → Q e) → IfErr r P → IfErr r Q
if_err (Ok x) P Q f h = tt
if_err (Err e) P Q f h = f e h
