use Rattle.std.proofs.Common.{◌≡◌, ℕ, true, false, ltb, List, Some, None, length, map, get_or, refl, rules, tests}
use Rattle.std.specs.Prelude.{option_map, slice_get}
use Rattle.std.proofs.lemmas.Option.{slice_get-map, slice_get_past, slice_get_read}
use Rattle.row_objects.specs.View.{table_of}
use Rattle.access.specs.Access.{select_on}
use Rattle.access.proofs.requirements.on_column.Goals as goal

found : {X C R : Type 0} (view : X → C) (xs : List X) (cols : List C) (i : ℕ) (x : X) → map view xs ≡ cols → true ≡ ltb i (length xs) → x ≡ get_or xs i x → (f : C → R) → Some (f (view x)) ≡ option_map f (slice_get cols i)
found view xs cols i x e within is f = rw (← e, slice_get-map, slice_get_read xs (length xs) i x refl (search (rules, tests)) is) refl

missing : {X C R : Type 0} (view : X → C) (xs : List X) (cols : List C) (i : ℕ) → map view xs ≡ cols → false ≡ ltb i (length xs) → (f : C → R) → None ≡ option_map f (slice_get cols i)
missing view xs cols i e past f = rw (← e, slice_get-map, slice_get_past xs i (search (rules, tests))) refl

pub returns-in-Some : goal.returns-in-Some
returns-in-Some g c = found _ c.columns.result.now _ c.args.column c.in-Some.column.now c.columns.ensures c.in-Some.ensures.lookup.0 c.in-Some.ensures.lookup.1 (λ k. select_on (table_of c.args.entry.now.table) k.name)

pub returns-in-None : goal.returns-in-None
returns-in-None g c = missing _ c.columns.result.now _ c.args.column c.columns.ensures c.in-None.ensures.lookup.0 (λ k. select_on (table_of c.args.entry.now.table) k.name)
