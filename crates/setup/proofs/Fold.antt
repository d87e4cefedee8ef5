-- Statements that are applied one after another.
use Rattle.std.proofs.Common.{◌≡◌, ◌⊎◌, subst, inl, inr, ℕ, ◌+◌, ◌<◌, List, [], ◌∷◌, ◌++◌, length, map, take, drop, get_or, Result, Ok, Err, refl, sym, ap, ◌∙◌, add-one}
use Rattle.std.proofs.Math.Seq.{take-suc, drop-cons}
use Rattle.std.proofs.lemmas.List.{map-append, take-map}
use Rattle.value.specs.declared.refusal.Refusal.{Refusal}
use Rattle.value.specs.declared.refusal.Refusal.TheVariants as code
use Rattle.memory.specs.Gives.{IsFailure}
use Rattle.row_ast.specs.Statements.{Statement}
use Rattle.engine.specs.Database.{Database, changed_database}
use Rattle.setup.specs.Schema.{StopsAfter, applied, applied_from, numbered, refused_by, root}
use Rattle.memory.specs.Results.{and_then}
use Rattle.setup.specs.declared.error.SchemaError.{SchemaError}
use Rattle.setup.specs.declared.error.SchemaError.TheVariants as errors

-- one statement more
applied_more : (n : ℕ) (db mid after : Database) (acts : List Statement) (act : Statement) → applied_from n db acts ≡ Ok mid → changed_database mid root act ≡ Ok after → applied_from n db (acts ++ act ∷ []) ≡ Ok after
applied_more n db mid after [] act h e =
    let same : db ≡ mid = cc in
    ap (λ (r : Result Database Refusal). and_then (numbered n r) (λ d. Ok d)) (subst (λ d. changed_database d root act ≡ Ok after) (sym same) e)
applied_more n db mid after (a ∷ acts) act h e = go (λ d k. applied_more (n + 1) d mid after acts act k e) (numbered n (changed_database db root a)) h
  where
    go : ((d : Database) → applied_from (n + 1) d acts ≡ Ok mid → applied_from (n + 1) d (acts ++ act ∷ []) ≡ Ok after) → (r : Result Database SchemaError)
        → and_then r (λ d. applied_from (n + 1) d acts) ≡ Ok mid → and_then r (λ d. applied_from (n + 1) d (acts ++ act ∷ [])) ≡ Ok after
    go more (Err x) h = cc
    go more (Ok d) h = more d h

module _ {X : Type 0} (v : X → Statement) (xs : List X) (x : X) (i : ℕ) (below : i < length xs) (is : x ≡ get_or xs i x) where
  rest : map v (drop i xs) ≡ v x ∷ map v (drop (i + 1) xs)
  rest = rw (add-one, drop-cons xs i x below, ← is) refl

  prefix : map v (take (i + 1) xs) ≡ map v (take i xs) ++ v x ∷ []
  prefix = rw (add-one, take-suc xs i x below, map-append, ← is) refl

  pub next : (n : ℕ) (db after : Database) → changed_database db root (v x) ≡ Ok after → applied_from n db (map v (drop i xs)) ≡ applied_from (n + 1) after (map v (drop (i + 1) xs))
  next n db after e = rw (rest, e) refl

  pub done : (n : ℕ) (old db after : Database) → applied_from n old (map v (take i xs)) ≡ Ok db → changed_database db root (v x) ≡ Ok after → applied_from n old (map v (take (i + 1) xs)) ≡ Ok after
  done n old db after h e = rw prefix (applied_more n old db after (map v (take i xs)) (v x) h e)

  pub refused : (n : ℕ) (db : Database) (why : Refusal) → changed_database db root (v x) ≡ Err why → applied_from n db (map v (drop i xs)) ≡ Err (errors.Statement n why)
  refused n db why e = rw (rest, e) refl

  taken : (old db : Database) → applied old (map v (take i xs)) ≡ Ok db → applied old (take i (map v xs)) ≡ Ok db
  taken old db h = rw (take-map v i xs) h

  -- the error is that of the first refused statement, unless memory ran out
  pub stops_at : (n : ℕ) (old db : Database) (why : Refusal) → (why ≡ code.OutOfMemory) ⊎ (changed_database db root (v x) ≡ Err why) → applied_from n db (map v (drop i xs)) ≡ applied old (map v xs)
      → IsFailure (refused_by n why) (applied old (map v xs))
  stops_at n old db code.OutOfMemory h k = tt
  stops_at n old db why (inl e) k = absurd (cc)
  stops_at n old db why (inr e) k = sym k ∙ refused n db why e

  -- the statements before it were applied
  pub stops_after : (old new : Database) (why : Refusal) → applied old (map v (take i xs)) ≡ Ok new → StopsAfter old new (map v xs) (refused_by (i + 1) why)
  stops_after old new code.OutOfMemory h = (i, taken old new h)
  stops_after old new why h = (i, refl, taken old new h)
