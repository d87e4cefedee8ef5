-- Lists that grow at their end while others are read.
use Rattle.std.proofs.Common.{◌≡◌, ℕ, suc, ◌+◌, ◌<◌, ◌≤◌, List, [], ◌∷◌, ◌++◌, length, map, get_or, drop, drop-cons, refl, sym, ap, ◌∙◌, append_assoc, append-nil, arith}
use Rattle.std.specs.List.{flat_map}
use Rattle.std.proofs.Math.ListN.{drop_of_length-le}
use Rattle.std.proofs.lemmas.List.{map-append, length-map}

-- ---- one item of each that is read, made by f

module _ {Y W Z : Type 0} (f : W → Z) (g : Y → W) (ys : List Y) (k : ℕ) (known whole : List Z) (so_far : known ++ map f (map g (drop k ys)) ≡ whole) where
  pub map_next : (y : Y) → k < length ys → y ≡ get_or ys k y → (new : List Z) → new ≡ known ++ f (g y) ∷ [] → new ++ map f (map g (drop (k + 1) ys)) ≡ whole
  map_next y more is new n =
      let e : k + 1 ≡ suc k = omega arith in
      let s : map f (map g (drop k ys)) ≡ f (g y) ∷ map f (map g (drop (k + 1) ys)) = rw (e, drop-cons ys k y more, ← is) refl in
      rw n (append_assoc known (f (g y) ∷ []) (map f (map g (drop (k + 1) ys))) ∙ ap (λ zs. known ++ zs) (sym s) ∙ so_far)

  pub map_over : length ys ≤ k → known ≡ whole
  map_over l =
      let e : drop k ys ≡ [] = drop_of_length-le ys l in
      sym (append-nil known) ∙ ap (λ zs. known ++ map f (map g zs)) (sym e) ∙ so_far

-- ---- some items of each that is read, made by f

module _ {Y W Z : Type 0} (f : W → List Z) (g : Y → W) (ys : List Y) (k : ℕ) (known whole : List Z) (so_far : known ++ flat_map f (map g (drop k ys)) ≡ whole) where
  pub flat_next : (y : Y) → k < length ys → y ≡ get_or ys k y → (new : List Z) → new ≡ known ++ f (g y) → new ++ flat_map f (map g (drop (k + 1) ys)) ≡ whole
  flat_next y more is new n =
      let e : k + 1 ≡ suc k = omega arith in
      let s : flat_map f (map g (drop k ys)) ≡ f (g y) ++ flat_map f (map g (drop (k + 1) ys)) = rw (e, drop-cons ys k y more, ← is) refl in
      rw n (append_assoc known (f (g y)) (flat_map f (map g (drop (k + 1) ys))) ∙ ap (λ zs. known ++ zs) (sym s) ∙ so_far)

  pub flat_over : length ys ≤ k → known ≡ whole
  flat_over l =
      let e : drop k ys ≡ [] = drop_of_length-le ys l in
      sym (append-nil known) ∙ ap (λ zs. known ++ flat_map f (map g zs)) (sym e) ∙ so_far

-- one item more, as it is viewed
pub pushed : {X Z : Type 0} (v : X → Z) (old new : List X) (x : X) (z : Z) → new ≡ old ++ x ∷ [] → v x ≡ z → map v new ≡ map v old ++ z ∷ []
pushed v old new x z n e = rw (n, map-append, e) refl

-- one item more, with its index
pub numbered : {X Z : Type 0} (v : X → Z) (h : ℕ → Z) (tail : ℕ → List Z) (old mid : List X) (x : X) (first : ℕ) (new : List Z) → mid ≡ old ++ x ∷ [] → first ≡ length old → v x ≡ h first
    → new ≡ map v mid ++ tail first → new ≡ (map v old ++ h (length (map v old)) ∷ []) ++ tail (length (map v old))
numbered v h tail old mid x first new m n e w = rw (w, m, map-append, e, length-map, ← n) refl

-- the known part grows by each item that is read
pub known_next : {B Y W : Type 0} (all : B → List W → B) (next : B → W → B) (g : Y → W) (ys : List Y) (k : ℕ) → ((b : B) (w : W) (ws : List W) → all b (w ∷ ws) ≡ all (next b w) ws)
    → (y : Y) → k < length ys → y ≡ get_or ys k y → (known new whole : B) → all known (map g (drop k ys)) ≡ whole → new ≡ next known (g y) → all new (map g (drop (k + 1) ys)) ≡ whole
known_next all next g ys k law y more is known new whole so_far n =
    let s : k + 1 ≡ suc k = omega arith in
    let e : map g (drop k ys) ≡ g y ∷ map g (drop (k + 1) ys) = rw (s, drop-cons ys k y more, ← is) refl in
    rw n (sym (law known (g y) (map g (drop (k + 1) ys))) ∙ ap (all known) (sym e) ∙ so_far)
