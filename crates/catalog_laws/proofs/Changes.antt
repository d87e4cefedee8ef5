-- The first of a kind that is changed.
use Rattle.std.proofs.Common.{◌≡◌, Bool, true, false, cond, List, [], ◌∷◌, ◌++◌, length, map, find, Some, option_map, refl, sym, ap, ◌∙◌, arith}
use Rattle.std.proofs.lemmas.List.Elements.{All-cons, All-head, All-tail}
use Rattle.std.specs.List.{All, flat_map}
use Rattle.memory.proofs.Cases.{none_is_not, some_is}
use Rattle.catalog.specs.Checks.{first_changed}

-- the first of a kind, between those before and those after it; a change of the first of that kind is one of it alone
pub record IsBetween {E : Type 0} (p : E → Bool) (es : List E) (e : E) : Type 0 where
  pub before : List E
  pub after : List E
  pub whole : es ≡ before ++ e ∷ after
  pub changed : (f : E → E) → first_changed p f es ≡ before ++ f e ∷ after

module _ {E : Type 0} (p : E → Bool) where
  pub between : (es : List E) (e : E) → find p es ≡ Some e → IsBetween p es e
  between [] e h = absurd (none_is_not e h)
  between (x ∷ xs) e h = go (p x) refl h (between xs e)
    where
      first : p x ≡ true → x ≡ e → IsBetween p (x ∷ xs) e
      first is same = record {
        before = [];
        after = xs;
        whole = ap (λ y. y ∷ xs) same;
        changed = λ f. ap (λ b. cond b (f x ∷ xs) (x ∷ first_changed p f xs)) is ∙ ap (λ y. f y ∷ xs) same;
      }

      further : p x ≡ false → IsBetween p xs e → IsBetween p (x ∷ xs) e
      further is more = record {
        before = x ∷ more.before;
        after = more.after;
        whole = ap (λ ys. x ∷ ys) more.whole;
        changed = λ f. ap (λ b. cond b (f x ∷ xs) (x ∷ first_changed p f xs)) is ∙ ap (λ ys. x ∷ ys) (more.changed f);
      }

      go : (b : Bool) → p x ≡ b → cond b (Some x) (find p xs) ≡ Some e → (find p xs ≡ Some e → IsBetween p xs e) → IsBetween p (x ∷ xs) e
      go true is h more = first is (some_is x e h)
      go false is h more = further is (more h)

  -- what holds of each still does where it holds of the one that changed
  pub all_changed : (P : E → Type 0) (f : E → E) (es : List E) → ((e : E) → find p es ≡ Some e → P e → P (f e)) → All P es → All P (first_changed p f es)
  all_changed P f [] h all = all
  all_changed P f (x ∷ xs) h all = go (p x) h (all_changed P f xs) (All-head P x xs all) (All-tail P x xs all)
    where
      go : (b : Bool) → ((e : E) → cond b (Some x) (find p xs) ≡ Some e → P e → P (f e)) → (((e : E) → find p xs ≡ Some e → P e → P (f e)) → All P xs → All P (first_changed p f xs))
          → P x → All P xs → All P (cond b (f x ∷ xs) (x ∷ first_changed p f xs))
      go true h more one rest = All-cons P (f x) xs (h x refl one) rest
      go false h more one rest = All-cons P x (first_changed p f xs) one (more h rest)

  -- what the change leaves as it was
  pub same_changed : {Y : Type 0} (g : E → Y) (f : E → E) → ((e : E) → g (f e) ≡ g e) → (es : List E) → map g (first_changed p f es) ≡ map g es
  same_changed g f same [] = refl
  same_changed g f same (x ∷ xs) = go (p x) (same_changed g f same xs)
    where
      go : (b : Bool) → map g (first_changed p f xs) ≡ map g xs → map g (cond b (f x ∷ xs) (x ∷ first_changed p f xs)) ≡ g x ∷ map g xs
      go true more = ap (λ y. y ∷ map g xs) (same x)
      go false more = ap (λ ys. g x ∷ ys) more

  -- the one that changed is found, where it is still of the kind
  pub found_changed : (f : E → E) → ((e : E) → p (f e) ≡ p e) → (es : List E) → find p (first_changed p f es) ≡ option_map f (find p es)
  found_changed f still [] = refl
  found_changed f still (x ∷ xs) = go (p x) refl (still x) (found_changed f still xs)
    where
      go : (b : Bool) → p x ≡ b → p (f x) ≡ p x → find p (first_changed p f xs) ≡ option_map f (find p xs) → find p (cond b (f x ∷ xs) (x ∷ first_changed p f xs)) ≡ option_map f (cond b (Some x) (find p xs))
      go true is same more = ap (λ b. cond b (Some (f x)) (find p xs)) (same ∙ is)
      go false is same more = ap (λ b. cond b (Some x) (find p (first_changed p f xs))) is ∙ more

  -- one of another kind is as it was
  pub other_unchanged : (q : E → Bool) (f : E → E) → ((e : E) → q (f e) ≡ q e) → ((e : E) → p e ≡ true → q e ≡ false) → (es : List E) → find q (first_changed p f es) ≡ find q es
  other_unchanged q f still other [] = refl
  other_unchanged q f still other (x ∷ xs) = go (p x) refl (other_unchanged q f still other xs)
    where
      go : (b : Bool) → p x ≡ b → find q (first_changed p f xs) ≡ find q xs → find q (cond b (f x ∷ xs) (x ∷ first_changed p f xs)) ≡ cond (q x) (Some x) (find q xs)
      go true is more = ap (λ b. cond b (Some (f x)) (find q xs)) (still x ∙ other x is) ∙ sym (ap (λ b. cond b (Some x) (find q xs)) (other x is))
      go false is more = ap (λ o. cond (q x) (Some x) o) more

  -- as many as before
  pub as_many : (f : E → E) (es : List E) → length (first_changed p f es) ≡ length es
  as_many f [] = refl
  as_many f (x ∷ xs) = go (p x) (as_many f xs)
    where
      go : (b : Bool) → length (first_changed p f xs) ≡ length xs → length (cond b (f x ∷ xs) (x ∷ first_changed p f xs)) ≡ length (x ∷ xs)
      go true more = refl
      go false more = omega (arith, more)

  -- what the change leaves as it was, one after the other
  pub same_each : {Y : Type 0} (g : E → List Y) (f : E → E) → ((e : E) → g (f e) ≡ g e) → (es : List E) → flat_map g (first_changed p f es) ≡ flat_map g es
  same_each g f same [] = refl
  same_each g f same (x ∷ xs) = go (p x) (same_each g f same xs)
    where
      go : (b : Bool) → flat_map g (first_changed p f xs) ≡ flat_map g xs → flat_map g (cond b (f x ∷ xs) (x ∷ first_changed p f xs)) ≡ g x ++ flat_map g xs
      go true more = ap (λ ys. ys ++ flat_map g xs) (same x)
      go false more = ap (λ ys. g x ++ ys) more
