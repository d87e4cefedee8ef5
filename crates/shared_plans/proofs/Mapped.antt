-- Entries whose keys are seen by a function.
use Rattle.std.proofs.Common.{◌≡◌, ℕ, Bool, true, false, cond, List, [], ◌∷◌, map, take, Option, Some, None, refl, sym, ap}
use Rattle.std.specs.List.{take-map}
use Rattle.std.specs.Option.{option_map_or}
use Rattle.std.specs.Map.{lookup, lookup_entry, remove_entry}
use Rattle.lru.specs.LruCache.{LruCache, promoted, put_entries}

module _ {K V : Type 0} (p : K → Bool) where
  none_entry : (es : List (K × V)) → lookup p es ≡ None → lookup_entry p es ≡ None
  none_entry [] h = refl
  none_entry (e ∷ es) h = go (p e.0) h (none_entry es)
    where
      go : (b : Bool) → cond b (Some e.1) (lookup p es) ≡ None → (lookup p es ≡ None → lookup_entry p es ≡ None) → cond b (Some e) (lookup_entry p es) ≡ None
      go true h more = cc
      go false h more = more h

-- a pair whose key is not there comes first
pub put_new : {K V : Type 0} (eq : K → K → Bool) (c : LruCache K V) (k : K) (v : V) → lookup (eq k) c.entries ≡ None → c.cap ≡ 64 → put_entries eq c k v ≡ (k, v) ∷ take 63 c.entries
put_new eq c k v none cap = rw (none_entry (eq k) c.entries none, cap) refl

module _ {K V L : Type 0} (v : K → L) (p : K → Bool) (q : L → Bool) (same : (k : K) → p k ≡ q (v k)) where
  abbrev pub seen : K × V → L × V
  seen e = (v e.0, e.1)

  pub lookup_seen : (es : List (K × V)) → lookup p es ≡ lookup q (map seen es)
  lookup_seen [] = refl
  lookup_seen (e ∷ es) = rw (same e.0, lookup_seen es) refl

  remove_seen : (es : List (K × V)) → map seen (remove_entry p es) ≡ remove_entry q (map seen es)
  remove_seen [] = refl
  remove_seen (e ∷ es) = go (p e.0) (same e.0) (remove_seen es)
    where
      go : (b : Bool) → b ≡ q (v e.0) → map seen (remove_entry p es) ≡ remove_entry q (map seen es) → map seen (cond b es (e ∷ remove_entry p es)) ≡ cond (q (v e.0)) (map seen es) (seen e ∷ remove_entry q (map seen es))
      go true is more = rw (← is) refl
      go false is more = rw (← is) (ap (λ l. seen e ∷ l) more)

  abbrev seen_or : Option (K × V) → Option (L × V)
  seen_or None = None
  seen_or (Some e) = Some (seen e)

  entry_seen : (es : List (K × V)) → lookup_entry q (map seen es) ≡ seen_or (lookup_entry p es)
  entry_seen [] = refl
  entry_seen (e ∷ es) = go (p e.0) (same e.0) (entry_seen es)
    where
      go : (b : Bool) → b ≡ q (v e.0) → lookup_entry q (map seen es) ≡ seen_or (lookup_entry p es) → cond (q (v e.0)) (Some (seen e)) (lookup_entry q (map seen es)) ≡ seen_or (cond b (Some e) (lookup_entry p es))
      go true is more = rw (← is) refl
      go false is more = rw (← is) more

  pub promoted_seen : (es : List (K × V)) → map seen (promoted p es) ≡ promoted q (map seen es)
  promoted_seen es = go (lookup_entry p es) (entry_seen es)
    where
      go : (o : Option (K × V)) → lookup_entry q (map seen es) ≡ seen_or o → map seen (option_map_or (λ e. e ∷ remove_entry p es) o es) ≡ option_map_or (λ e. e ∷ remove_entry q (map seen es)) (lookup_entry q (map seen es)) (map seen es)
      go None is = rw is refl
      go (Some e) is = rw is (ap (λ l. seen e ∷ l) (remove_seen es))

-- the first of them
pub first_seen : {K V L : Type 0} (v : K → L) (n : ℕ) (es : List (K × V)) → map {A = K × V} {B = L × V} (λ e. (v e.0, e.1)) (take n es) ≡ take n (map {A = K × V} {B = L × V} (λ e. (v e.0, e.1)) es)
first_seen {K} {V} {L} v n es = sym (take-map {X = K × V} {Y = L × V} (λ e. (v e.0, e.1)) n es)
