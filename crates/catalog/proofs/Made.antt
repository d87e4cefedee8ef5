-- A change that no check refuses, or one that a check refuses.
use Rattle.std.proofs.Common.{◌≡◌, ◌⊎◌, inl, inr, Option, Some, None, Ok, Err, refl, sym}
use Rattle.value.specs.declared.refusal.Refusal.{Refusal}
use Rattle.value.specs.declared.refusal.Refusal.TheVariants as r
use Rattle.catalog.specs.Catalog.{Catalog}
use Rattle.catalog.specs.Checks.{unless}

pub refused : (o : Option Refusal) (due : Catalog) (why : Refusal) → Some why ≡ o → unless o due ≡ Err why
refused o due why e = rw (← e) refl

pub made : (o : Option Refusal) (due new : Catalog) → None ≡ o → new ≡ due → unless o due ≡ Ok new
made o due new e is = rw (← e, is) refl

pub refused_or : (o : Option Refusal) (due : Catalog) (why : Refusal) → (why ≡ r.OutOfMemory) ⊎ (o ≡ Some why) → (why ≡ r.OutOfMemory) ⊎ (unless o due ≡ Err why)
refused_or o due why (inl e) = inl e
refused_or o due why (inr e) = inr (refused o due why (sym e))
