-- What a look-up does to the keys and to the plans.
use Rattle.std.proofs.Common.{◌≡◌, ◌⊎◌, inl, inr, ℕ, Bool, true, false, cond, ◌&&◌, ◌||◌, List, [], ◌∷◌, map, take, slice_get, Contains, Option, Some, None, is_some, refl, sym, ap, ◌∙◌}
use Rattle.std.proofs.lemmas.Bool.{eqb-true}
use Rattle.std.proofs.lemmas.Slice.Eq.{bytes_eq-Decides}
use Rattle.std.specs.List.{list_any, take-map}
use Rattle.std.specs.Map.{lookup, lookup_entry, remove_entry}
use Rattle.std.specs.Option.{option_map_or}
use Rattle.std.specs.Str.{bytes_eq}
use Rattle.lru.specs.LruCache.{promoted}
use Rattle.lru.proofs.CallerLemmas.{Contains-lookup_entry, Contains-promoted, Contains-take}
use Rattle.lru.proofs.Splits.{Contains-cons, Contains-nil}
use Rattle.shared_plans.specs.Recent.{Key, Plans, Recent, looked_up, most_plans, one_more_hit, recent_of, same_key, without_key}

both_true : (a b : Bool) → (a && b) ≡ true → (a ≡ true) × (b ≡ true)
both_true true b h = (refl, h)
both_true false b h = cc

same_bytes : (xs ys : List ℕ) → bytes_eq xs ys ≡ true → xs ≡ ys
same_bytes xs ys h = (bytes_eq-Decides xs ys).0 h

key_parts : (k l : Key) → k.text ≡ l.text → k.role ≡ l.role → k.changes ≡ l.changes → k.loads ≡ l.loads → k ≡ l
key_parts k l a b c d = rw (a, b, c, d) refl

-- keys that are the same are one
pub one_key : (k l : Key) → same_key k l ≡ true → k ≡ l
one_key k l h =
    let a = both_true _ _ h in
    let b = both_true _ _ a.1 in
    let c = both_true _ _ b.1 in
    key_parts k l (same_bytes k.text l.text a.0) (same_bytes k.role l.role b.0) (eqb-true k.changes l.changes c.0) (eqb-true k.loads l.loads c.1)

none_of : {X : Type 0} (o : Option X) → false ≡ is_some o → o ≡ None
none_of None h = refl
none_of (Some x) h = cc

module _ {V : Type 0} (k : Key) where
  any_key : (es : List (Key × V)) → list_any (same_key k) (map (λ e. e.0) es) ≡ is_some (lookup (same_key k) es)
  any_key [] = refl
  any_key (e ∷ es) = go (same_key k e.0) (any_key es)
    where
      go : (b : Bool) → list_any (same_key k) (map (λ e. e.0) es) ≡ is_some (lookup (same_key k) es) → (b || list_any (same_key k) (map (λ e. e.0) es)) ≡ is_some (cond b (Some e.1) (lookup (same_key k) es))
      go true more = refl
      go false more = more

  keys_without : (es : List (Key × V)) → map (λ e. e.0) (remove_entry (same_key k) es) ≡ without_key k (map (λ e. e.0) es)
  keys_without [] = refl
  keys_without (e ∷ es) = go (same_key k e.0) (keys_without es)
    where
      go : (b : Bool) → map (λ e. e.0) (remove_entry (same_key k) es) ≡ without_key k (map (λ e. e.0) es) → map (λ e. e.0) (cond b es (e ∷ remove_entry (same_key k) es)) ≡ cond b (map (λ e. e.0) es) (e.0 ∷ without_key k (map (λ e. e.0) es))
      go true more = refl
      go false more = ap (λ l. e.0 ∷ l) more

  entry_there : (es : List (Key × V)) → is_some (lookup (same_key k) es) ≡ is_some (lookup_entry (same_key k) es)
  entry_there [] = refl
  entry_there (e ∷ es) = go (same_key k e.0) (entry_there es)
    where
      go : (b : Bool) → is_some (lookup (same_key k) es) ≡ is_some (lookup_entry (same_key k) es) → is_some (cond b (Some e.1) (lookup (same_key k) es)) ≡ is_some (cond b (Some e) (lookup_entry (same_key k) es))
      go true more = refl
      go false more = more

  -- an entry of the key was there, and is in front
  abbrev pub Found : Plans V → Plans V → Type 0
  Found old new = (e : Key × V) × Contains old.entries e × (e.0 ≡ k) × (slice_get new.entries 0 ≡ Some e) × (recent_of new ≡ looked_up k (recent_of old))

  found_as : (old new : Plans V) (o : Option (Key × V)) → lookup_entry (same_key k) old.entries ≡ o → true ≡ is_some o → new.entries ≡ option_map_or (λ e. e ∷ remove_entry (same_key k) old.entries) o old.entries → new.hits ≡ one_more_hit old.hits
      → list_any (same_key k) (map (λ e. e.0) old.entries) ≡ true → Found old new
  found_as old new None is there after hits any = cc
  found_as old new (Some e) is there after hits any =
      let h = Contains-lookup_entry (same_key k) old.entries e is in
      let q : e.0 ≡ k = sym (one_key k e.0 h.1) in
      let keys : map (λ e. e.0) new.entries ≡ k ∷ without_key k (map (λ e. e.0) old.entries) = rw (after, q, keys_without old.entries) refl in
      (e, h.0, q, rw after refl, rw (keys, hits, any) refl)

  -- a look-up that finds one
  pub found : (old new : Plans V) → true ≡ is_some (lookup (same_key k) old.entries) → new.entries ≡ promoted (same_key k) old.entries → new.hits ≡ one_more_hit old.hits → Found old new
  found old new there after hits =
      found_as old new (lookup_entry (same_key k) old.entries) refl (there ∙ entry_there old.entries) after hits (any_key old.entries ∙ sym there)

  plans_parts : (old new : Plans V) → new.entries ≡ old.entries → new.hits ≡ old.hits → new ≡ old
  plans_parts old new a b = rw (a, b) refl

  -- one that finds none changes nothing
  pub missed : (old new : Plans V) → false ≡ is_some (lookup (same_key k) old.entries) → new.entries ≡ promoted (same_key k) old.entries → new.hits ≡ old.hits → (new ≡ old) × (lookup (same_key k) old.entries ≡ None)
  missed old new not after hits =
      let none : lookup_entry (same_key k) old.entries ≡ None = none_of _ (not ∙ entry_there old.entries) in
      (plans_parts old new (after ∙ ap (λ o. option_map_or (λ e. e ∷ remove_entry (same_key k) old.entries) o old.entries) none) hits, none_of _ not)

  -- then a plan is put in front
  pub kept_new : (old : Plans V) (plan : V) → lookup (same_key k) old.entries ≡ None → recent_of (record old { entries = take most_plans ((k, plan) ∷ old.entries) }) ≡ looked_up k (recent_of old)
  kept_new old plan none =
      let any : list_any (same_key k) (map (λ e. e.0) old.entries) ≡ false = any_key old.entries ∙ ap is_some none in
      rw any (ap (λ (l : List Key). let r : Recent = record { keys = k ∷ l; hits = old.hits } in r) (sym (take-map (λ e. e.0) 63 old.entries)))

-- what is among the entries after a look-up was there before
pub was_there : {V : Type 0} (k : Key) (es : List (Key × V)) (e : Key × V) → Contains (promoted (same_key k) es) e → Contains es e
was_there k es e c = Contains-promoted (same_key k) es e c

-- and after a plan was kept, was there or is that one
pub was_or_new : {V : Type 0} (new : Key × V) (es : List (Key × V)) (e : Key × V) → Contains (take most_plans (new ∷ es)) e → (new ≡ e) ⊎ Contains es e
was_or_new new es e c = elim (Contains-cons new (take 63 es) e c) [
  | inl is ↦ inl is
  | inr more ↦ inr (Contains-take 63 es e more)
]

-- nothing is among none
pub nothing_in : {V : Type 0} (e : Key × V) → Contains [] e → ⊥
nothing_in e c = Contains-nil e c
