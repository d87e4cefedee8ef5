-- Bytes put one after another.
use Rattle.std.proofs.Common.{ℕ, ◌≡◌, ◌+◌, ◌<◌, List, [], ◌∷◌, ◌++◌, length, take, Option, ◌∙◌, sym, subst, ap, append_assoc, length-append, arith, refl, None, Some, Result, Ok, Err, IsErr, flat_map, drop, get_or}
use Rattle.std.proofs.Math.Seq.{take-append-add}
use Rattle.std.proofs.lemmas.List.{append-nil, at_drop_more, take-append-le}
use Rattle.std.specs.Io.KnownBytes.{Appends}
use Rattle.output.proofs.Parts.{appends_more}
use Rattle.output.specs.Taken.{Begins, GoesOut, one_more}
use Rattle.replies.specs.Buffered.{Goes, Puts, Stops}

begins_past : (old new : Option (List ℕ)) (xs ys zs : List ℕ) → Begins old new xs → xs ++ ys ≡ zs → Begins old new zs
begins_past old new xs ys zs (n, few, taken) e =
    let all = ap length e in (
      n,
      omega (arith, few, length-append xs ys, all),
      subst (Appends old new) (sym (take-append-le n xs ys (omega (arith, few))) ∙ ap (take n) e) taken,
    )

begins_after : (old mid new : Option (List ℕ)) (first xs zs : List ℕ) → Appends old mid first → Begins mid new xs → first ++ xs ≡ zs → Begins old new zs
begins_after old mid new first xs zs one (n, few, taken) e =
    let all = ap length e in (
      length first + n,
      omega (arith, few, length-append first xs, all),
      appends_more old mid new first (take n xs) _ one taken (sym (take-append-add first xs n) ∙ ap (take (length first + n)) e),
    )

appends_none : (known : Option (List ℕ)) → Appends known known []
appends_none None = tt
appends_none (Some bytes) = sym (append-nil bytes)

module _ {W : Type 0} {taken : W → Option (List ℕ)} {failures : W → ℕ} {a b : W} where
  -- bytes that are written while the buffer has none
  pub written : (has bytes : List ℕ) → has ≡ [] → Appends (taken a) (taken b) bytes → failures b ≡ failures a → Goes taken failures a b has has bytes
  written has bytes none all same = record {
    first = bytes;
    appended = all;
    parts = ap (λ t. bytes ++ t) none ∙ append-nil bytes ∙ ap (λ t. t ++ bytes) (sym none);
    fine = same;
  }

  -- or a write of them failed
  pub broken : (has bytes : List ℕ) → has ≡ [] → Begins (taken a) (taken b) bytes → failures b ≡ one_more (failures a) → Stops taken failures a b has bytes
  broken has bytes none begun more = record { beginning = subst (λ t. Begins (taken a) (taken b) (t ++ bytes)) (sym none) begun; failed = more }

  -- what is returned where a write failed
  pub failed : {T E : Type 0} {had bytes : List ℕ} (has : List ℕ) (r : Result T E) → IsErr r → Stops taken failures a b had bytes → Puts taken failures a b had has bytes r
  failed has (Ok u) h s = cc
  failed has (Err e) h s = s

  -- a write failed: it makes no difference what was to come
  pub stops : {had xs : List ℕ} → Stops taken failures a b had xs → (ys zs : List ℕ) → xs ++ ys ≡ zs → Stops taken failures a b had zs
  stops {had} {xs} s ys zs e = record {
    beginning = begins_past (taken a) (taken b) (had ++ xs) ys (had ++ zs) s.beginning (append_assoc had xs ys ∙ ap (λ t. had ++ t) e);
    failed = s.failed;
  }

  module _ {c : W} {had mid xs : List ℕ} (g : Goes taken failures a b had mid xs) where
    -- further bytes are put after them
    pub then : {has ys : List ℕ} → Goes taken failures b c mid has ys → (zs : List ℕ) → xs ++ ys ≡ zs → Goes taken failures a c had has zs
    then {has} {ys} h zs e = record {
      first = g.first ++ h.first;
      appended = appends_more (taken a) (taken b) (taken c) g.first h.first _ g.appended h.appended refl;
      parts =
          append_assoc g.first h.first has ∙ ap (λ t. g.first ++ t) h.parts ∙ sym (append_assoc g.first mid ys) ∙ ap (λ t. t ++ ys) g.parts ∙ append_assoc had xs ys ∙ ap (λ t. had ++ t) e;
      fine = h.fine ∙ g.fine;
    }

    -- or a write of them failed
    pub after : {ys : List ℕ} → Stops taken failures b c mid ys → (zs : List ℕ) → xs ++ ys ≡ zs → Stops taken failures a c had zs
    after {ys} s zs e = record {
      beginning =
          begins_after (taken a) (taken b) (taken c) g.first (mid ++ ys) (had ++ zs) g.appended s.beginning (sym (append_assoc g.first mid ys) ∙ ap (λ t. t ++ ys) g.parts ∙ append_assoc had xs ys ∙ ap (λ t. had ++ t) e);
      failed = s.failed ∙ ap one_more g.fine;
    }

module _ {W : Type 0} {taken : W → Option (List ℕ)} {failures : W → ℕ} {a b : W} {had due : List ℕ} where
  -- all is out where the buffer had nothing and has nothing
  pub all_out : {has : List ℕ} → Goes taken failures a b had has due → had ≡ [] → has ≡ [] → Appends (taken a) (taken b) due × (failures b ≡ failures a)
  all_out g none left =
      let all = sym (append-nil g.first) ∙ ap (λ t. g.first ++ t) (sym left) ∙ g.parts ∙ ap (λ t. t ++ due) none in (subst (Appends (taken a) (taken b)) all g.appended, g.fine)

  -- or a write failed
  pub not_out : {T E : Type 0} (r : Result T E) → IsErr r → Stops taken failures a b had due → had ≡ [] → GoesOut (taken a) (taken b) (failures a) (failures b) due r
  not_out (Ok u) h s none = cc
  not_out (Err e) h s none = (s.failed, subst (λ t. Begins (taken a) (taken b) (t ++ due)) none s.beginning)

-- the text of what is left of a list, one item on
pub one_on : {X : Type 0} (f : X → List ℕ) (xs : List X) (i : ℕ) (d : X) (bytes : List ℕ) → i < length xs → bytes ≡ f (get_or xs i d) → flat_map f (drop i xs) ≡ bytes ++ flat_map f (drop (i + 1) xs)
one_on f xs i d bytes h e = at_drop_more (flat_map f) xs i d h ∙ ap (λ t. t ++ flat_map f (drop (i + 1) xs)) (sym e)

-- the same of an item that owns memory
pub item_on : {X : Type 0} (F : List X → List ℕ) (xs : List X) (i : ℕ) (x : X) → i < length xs → x ≡ get_or xs i x → F (drop i xs) ≡ F (x ∷ drop (i + 1) xs)
item_on F xs i x h e = at_drop_more F xs i x h ∙ ap (λ v. F (v ∷ drop (i + 1) xs)) (sym e)

-- a text is put up to a rest of it
pub record PutTo {W : Type 0} (taken : W → Option (List ℕ)) (failures : W → ℕ) (old new : W) (had has rest text : List ℕ) : Type 0 where
  pub done : List ℕ
  pub goes : Goes taken failures old new had has done
  pub parts : done ++ rest ≡ text

module _ {W : Type 0} {taken : W → Option (List ℕ)} {failures : W → ℕ} where
  pub put_none : (a : W) (had text : List ℕ) → PutTo taken failures a a had had text text
  put_none a had text = record {
    done = [];
    goes = record { first = []; appended = appends_none (taken a); parts = sym (append-nil had); fine = refl };
    parts = refl;
  }

  module _ {a b : W} {had mid rest text : List ℕ} (p : PutTo taken failures a b had mid rest text) where
    along : (xs ys : List ℕ) → rest ≡ xs ++ ys → (p.done ++ xs) ++ ys ≡ text
    along xs ys e = append_assoc p.done xs ys ∙ ap (λ t. p.done ++ t) (sym e) ∙ p.parts

    pub put_more : {c : W} {has xs : List ℕ} → Goes taken failures b c mid has xs → (ys : List ℕ) → rest ≡ xs ++ ys → PutTo taken failures a c had has ys text
    put_more {xs = xs} g ys e = record { done = p.done ++ xs; goes = then p.goes g (p.done ++ xs) refl; parts = along xs ys e }

    pub put_stopped : {c : W} {xs : List ℕ} → Stops taken failures b c mid xs → (ys : List ℕ) → rest ≡ xs ++ ys → Stops taken failures a c had text
    put_stopped {xs = xs} s ys e = stops (after p.goes s (p.done ++ xs) refl) ys text (along xs ys e)

    pub put_all : rest ≡ [] → Goes taken failures a b had mid text
    put_all none = subst (Goes taken failures a b had mid) (sym (append-nil p.done) ∙ ap (λ t. p.done ++ t) (sym none) ∙ p.parts) p.goes
