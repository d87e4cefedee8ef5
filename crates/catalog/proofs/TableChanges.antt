-- A catalogue whose tables changed, from the tables that changed.
use Rattle.std.proofs.Common.{◌≡◌, ℕ, ◌<◌, List, length, map, Result, Ok, Err, OnOk, OnErr, ap, ◌∙◌, arith}
use Rattle.std.proofs.lemmas.List.{length-map}
use Rattle.row_objects.specs.Objects.{Table}
use Rattle.catalog.specs.Catalog.{Catalog}

-- an index among the tables of a catalogue is one among those of the code
pub below : {T : Type 0} (f : T → Table) (ts : List T) (now : Catalog) (index : ℕ) → map f ts ≡ now.tables → index < length now.tables → index < length ts
below f ts now index is lt = omega (arith, lt, ap length is, length-map ts f)

module _ (k now : Catalog) (is : k ≡ now) (change : List Table → List Table) (new : List Table) where
  pub changed : new ≡ change k.tables → record k { tables = new } ≡ record now { tables = change now.tables }
  changed h = rw (← is) (ap (λ ts. record k { tables = ts }) h)

  pub changed_if : {T E : Type 0} (r : Result T E) → OnOk r (new ≡ change k.tables) → OnOk r (record k { tables = new } ≡ record now { tables = change now.tables })
  changed_if (Ok x) h = changed h
  changed_if (Err e) h = tt

  pub kept_if : {T E : Type 0} (r : Result T E) → OnErr r (new ≡ k.tables) → OnErr r (record k { tables = new } ≡ now)
  kept_if (Ok x) h = tt
  kept_if (Err e) h = ap (λ ts. record k { tables = ts }) h ∙ is
