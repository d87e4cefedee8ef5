-- A change that is counted.
use Rattle.std.proofs.Common.{◌≡◌, ◌⊎◌, inl, inr, ⊎_elim, Option, Some, None, Result, Ok, Err, ap}
use Rattle.memory.proofs.Cases.{ok_is}
use Rattle.value.specs.declared.refusal.Refusal.{Refusal}
use Rattle.value.specs.declared.refusal.Refusal.TheVariants as r
use Rattle.catalog.specs.Catalog.{Catalog}
use Rattle.catalog.specs.Checks.{unless}
use Rattle.catalog.specs.Changes.{counted}

ok_of : (a b : Catalog) → a ≡ b → ◌≡◌ {A = Result Catalog Refusal} (Ok a) (Ok b)
ok_of a b e = cc

err_is_not : (why : Refusal) (a : Catalog) → ◌≡◌ {A = Result Catalog Refusal} (Err why) (Ok a) → ⊥
err_is_not why a e = cc

ok_is_not : (why : Refusal) (a : Catalog) → ◌≡◌ {A = Result Catalog Refusal} (Ok a) (Err why) → ⊥
ok_is_not why a e = cc

pub counted_change : (o : Option Refusal) (before due made : Catalog) → unless o due ≡ Ok made → unless o (counted before due) ≡ Ok (counted before made)
counted_change None before due made e = ok_of (counted before due) (counted before made) (ap (counted before) (ok_is due made e))
counted_change (Some why) before due made e = absurd (err_is_not why made e)

pub refused_same : (o : Option Refusal) (due other : Catalog) (why : Refusal) → unless o due ≡ Err why → unless o other ≡ Err why
refused_same None due other why e = absurd (ok_is_not why due e)
refused_same (Some code) due other why e = e

pub refused_still : (o : Option Refusal) (due other : Catalog) (why : Refusal) → (why ≡ r.OutOfMemory) ⊎ (unless o due ≡ Err why) → (why ≡ r.OutOfMemory) ⊎ (unless o other ≡ Err why)
refused_still o due other why h = ⊎_elim (λ a. inl a) (λ b. inr (refused_same o due other why b)) h
