-- The entries of a map by text, as a list of names with their things.
use Rattle.std.proofs.Common.{zero, suc, ◌+◌, cond, ◌∙◌, ℕ, ◌≡◌, Bool, true, false, List, [], ◌∷◌, ◌++◌, map, Option, None, Some, option_map, refl, ap, String, string_bytes}
use Rattle.std.specs.String.{string_eq}
use Rattle.std.specs.Map.{lookup, lookup_key, keys_of, values_of}
use Rattle.std.specs.Str.{bytes_eq}
use Rattle.indexmap.specs.IndexMap.{insert_entry, set_value_at}
use Rattle.std.specs.List.{position, position_from}
use Rattle.std.proofs.lemmas.Iterator.Adapters.{position_from-zero}
use Rattle.memory.proofs.Cases.{none_is_not}
use Rattle.value.specs.Names.{Name}
use Rattle.row_objects.specs.Named.{entry_named, index_named}

abbrev pub by_bytes : {Y V : Type 0} → String Y × V → Name × V
by_bytes e = (string_bytes e.0, e.1)

pub named-by_bytes : {Y V : Type 0} (n : Name) (es : List (String Y × V)) → option_map (λ e. e.1) (entry_named n (map by_bytes es)) ≡ lookup (λ k. bytes_eq n (string_bytes k)) es
named-by_bytes n [] = refl
named-by_bytes n (e ∷ es) = go (bytes_eq n (string_bytes e.0)) (named-by_bytes n es)
  where
    go : (b : Bool) → option_map (λ e. e.1) (entry_named n (map by_bytes es)) ≡ lookup (λ k. bytes_eq n (string_bytes k)) es
        → option_map (λ e. e.1) (cond b (Some (by_bytes e)) (entry_named n (map by_bytes es))) ≡ cond b (Some e.1) (lookup (λ k. bytes_eq n (string_bytes k)) es)
    go true more = refl
    go false more = more

some_pair : {X Y : Type 0} (x x' : X) (y y' : Y) → ◌≡◌ {A = Option X} (Some x) (Some x') → ◌≡◌ {A = Option Y} (Some y) (Some y') → ◌≡◌ {A = Option (X × Y)} (Some (x, y)) (Some (x', y'))
some_pair x x' y y' e d = cc

some_bytes : {Y : Type 0} (k l : String Y) → ◌≡◌ {A = Option (String Y)} (Some k) (Some l) → ◌≡◌ {A = Option Name} (Some (string_bytes k)) (Some (string_bytes l))
some_bytes k l e = cc

-- the key and the thing that are found are an entry
pub entry-by_bytes : {Y V : Type 0} (n : Name) (es : List (String Y × V)) (k : String Y) (v : V)
    → Some k ≡ lookup_key (λ k. bytes_eq n (string_bytes k)) es → Some v ≡ lookup (λ k. bytes_eq n (string_bytes k)) es → Some (string_bytes k, v) ≡ entry_named n (map by_bytes es)
entry-by_bytes n [] k v e d = cc
entry-by_bytes n (x ∷ xs) k v e d = go (bytes_eq n (string_bytes x.0)) e d (entry-by_bytes n xs k v)
  where
    go : (b : Bool) → Some k ≡ cond b (Some x.0) (lookup_key (λ k. bytes_eq n (string_bytes k)) xs) → Some v ≡ cond b (Some x.1) (lookup (λ k. bytes_eq n (string_bytes k)) xs)
        → (Some k ≡ lookup_key (λ k. bytes_eq n (string_bytes k)) xs → Some v ≡ lookup (λ k. bytes_eq n (string_bytes k)) xs → Some (string_bytes k, v) ≡ entry_named n (map by_bytes xs))
        → Some (string_bytes k, v) ≡ cond b (Some (by_bytes x)) (entry_named n (map by_bytes xs))
    go true e d more = some_pair (string_bytes k) (string_bytes x.0) v x.1 (some_bytes k x.0 e) d
    go false e d more = more e d

-- a name with no thing has no entry
pub none-by_bytes : {Y V : Type 0} (n : Name) (es : List (String Y × V)) → None ≡ lookup (λ k. bytes_eq n (string_bytes k)) es → None ≡ entry_named n (map by_bytes es)
none-by_bytes n [] e = refl
none-by_bytes n (x ∷ xs) e = go (bytes_eq n (string_bytes x.0)) e (none-by_bytes n xs)
  where
    go : (b : Bool) → None ≡ cond b (Some x.1) (lookup (λ k. bytes_eq n (string_bytes k)) xs)
        → (None ≡ lookup (λ k. bytes_eq n (string_bytes k)) xs → None ≡ entry_named n (map by_bytes xs)) → None ≡ cond b (Some (by_bytes x)) (entry_named n (map by_bytes xs))
    go true e more = absurd (none_is_not x.1 e)
    go false e more = more e

not_some : {V : Type 0} (b : Bool) (x : V) (o : Option V) → cond b (Some x) o ≡ None → (b ≡ false) × (o ≡ None)
not_some true x o e = cc
not_some false x o e = (refl, e)

pub insert_entry-absent : {Y V : Type 0} (es : List (String Y × V)) (k : String Y) (v : V) → entry_named (string_bytes k) (map by_bytes es) ≡ None
    → map by_bytes (insert_entry string_eq es k v) ≡ map by_bytes es ++ (string_bytes k, v) ∷ []
insert_entry-absent [] k v e = refl
insert_entry-absent (x ∷ xs) k v e =
    let (here, there) = not_some (bytes_eq (string_bytes k) (string_bytes x.0)) (by_bytes x) _ e in
    rw here (ap (λ t. by_bytes x ∷ t) (insert_entry-absent xs k v there))

keys-by_bytes : {Y V : Type 0} (n : Name) (i : ℕ) (es : List (String Y × V)) → position_from (λ k. bytes_eq n (string_bytes k)) i (keys_of es) ≡ position_from (λ e. bytes_eq n e.0) i (map by_bytes es)
keys-by_bytes n i [] = refl
keys-by_bytes n i (e ∷ es) = ap (λ o. cond (bytes_eq n (string_bytes e.0)) (Some i) o) (keys-by_bytes n (i + 1) es)

pub index-by_bytes : {Y V : Type 0} (n : Name) (es : List (String Y × V)) → position (λ k. bytes_eq n (string_bytes k)) (keys_of es) ≡ index_named n (map by_bytes es)
index-by_bytes n es = position_from-zero (λ k. bytes_eq n (string_bytes k)) (keys_of es) ∙ keys-by_bytes n 0 es

pub set_value_at-by_bytes : {Y V : Type 0} (es : List (String Y × V)) (i : ℕ) (w : V) → map by_bytes (set_value_at es i w) ≡ set_value_at (map by_bytes es) i w
set_value_at-by_bytes [] i w = refl
set_value_at-by_bytes (e ∷ es) zero w = refl
set_value_at-by_bytes (e ∷ es) (suc i) w = ap (λ l. by_bytes e ∷ l) (set_value_at-by_bytes es i w)

pub values-by_bytes : {Y V : Type 0} (es : List (String Y × V)) → map (λ e. e.1) (map by_bytes es) ≡ values_of es
values-by_bytes [] = refl
values-by_bytes (e ∷ es) = ap (λ l. e.1 ∷ l) (values-by_bytes es)
