-- The steps of reading, from the state of the code on.
use Rattle.std.proofs.Common.{◌≡◌, ℕ, zero, suc, ◌-◌, ◌<◌, Bool, true, false, List, [], ◌∷◌, length, Option, Some, None, Result, Ok, Err, refl, sym, arith, ap}
use Rattle.std.specs.Prelude.{if◌then◌else◌}
use Rattle.row_grammar.specs.Grammar.{Language, Form, made, both, many, Grammar}
use Rattle.row_grammar.specs.Decoder.{◌>>=◌, Outcome, head_in, many_at, first}
use Rattle.row_grammar.specs.declared.error.ReadError.{ReadError}
use Rattle.row_grammar.specs.declared.error.ReadError.TheVariants.{Limit}
use Rattle.memory.specs.Gives.{IsFailure}
use Rattle.memory.specs.declared.failure.Failure.{Failure}
use Rattle.memory.specs.declared.failure.Failure.TheVariants.{Error, OutOfMemory}
use Rattle.row_grammar.specs.Limits.{can_open, deep_at, reads}

-- a rule that is a level deeper is read with one level less
pub deep_is : {L : Language} (G : Grammar L) (w d : ℕ) (r : L.Inner) (ts : List L.Token) → 0 < d → deep_at G w d r ts ≡ reads G w (d - 1) (G.rule r) ts
unfolding deep_at
deep_is G w zero r ts h = absurd (omega arith)
deep_is G w (suc d) r ts h = let e : suc d - 1 ≡ d = omega arith in rw e refl

-- an error of a part is the whole's
pub fault_along : {X Y : Type 0} (s : Failure ReadError) (r : Result X ReadError) (r' : Result Y ReadError) → ((stop : ReadError) → r ≡ Err stop → r' ≡ Err stop) → IsFailure s r → IsFailure s r'
fault_along OutOfMemory r r' h q = tt
fault_along (Error stop) r r' h q = h stop q

-- ---- loops: the result of the values that are still to come

abbrev pub ends : {T A B : Type 0} → (List A → B) → Outcome T (List A) → Outcome T B
ends k r = r >>= λ xs. Ok (k xs.0, xs.1)

ends_cons : {T A B : Type 0} (k : List A → B) (x : A) (r : Outcome T (List A)) → ends k (r >>= λ xs. Ok (x ∷ xs.0, xs.1)) ≡ ends (λ xs. k (x ∷ xs)) r
ends_cons k x (Ok p) = refl
ends_cons k x (Err e) = refl

-- results of the values that are alike give wholes that are alike
pub ends_alike : {T A B : Type 0} (k k' : List A → B) (r : Outcome T (List A)) → ((xs : List A) → k xs ≡ k' xs) → ends k r ≡ ends k' r
ends_alike {B} k k' (Ok p) h = ap (λ (y : B). let o : Outcome _ B = Ok (y, p.1) in o) (h p.0)
ends_alike k k' (Err e) h = refl

pub ends_pair : {T A B C : Type 0} (g : B → List A → C) (x : B) (r : Outcome T (List A))
    → ◌>>=◌ {A = (B × List A) × List T} {B = C × List T} (◌>>=◌ {A = List A × List T} r (λ y. Ok ((x, y.0), y.1))) (λ p. Ok (g p.0.0 p.0.1, p.1)) ≡ ends (g x) r
ends_pair g x (Ok p) = refl
ends_pair g x (Err e) = refl

module _ {K T : Type 0} (kind : T → K) {A B : Type 0} (k : List A → B) (r : List T → Outcome T A) (p : K → Bool) where
  -- ---- a run under the limit, of which n more may come

  pub ends_stop : (n : ℕ) (us : List T) → head_in kind p us ≡ false → ends k (many_at kind true r p n us) ≡ Ok (k [], us)
  unfolding many_at
  ends_stop zero us h = rw h refl
  ends_stop (suc n) us h = rw h refl

  pub ends_limit : (n : ℕ) (us : List T) → n ≡ 0 → head_in kind p us ≡ true → ends k (many_at kind true r p n us) ≡ Err (Limit (length us))
  unfolding many_at
  ends_limit zero us e h = rw h refl
  ends_limit (suc n) us e h = absurd (omega arith)

  pub ends_fail : (n : ℕ) (us : List T) (stop : ReadError) → 0 < n → head_in kind p us ≡ true → r us ≡ Err stop → ends k (many_at kind true r p n us) ≡ Err stop
  unfolding many_at
  ends_fail zero us stop l h e = absurd (omega arith)
  ends_fail (suc n) us stop l h e = rw (h, e) refl

  pub ends_go : (n : ℕ) (us : List T) (x : A) (vs : List T) → 0 < n → head_in kind p us ≡ true → r us ≡ Ok (x, vs)
      → ends k (many_at kind true r p n us) ≡ ends (λ xs. k (x ∷ xs)) (many_at kind true r p (n - 1) vs)
  unfolding many_at
  ends_go zero us x vs l h e = absurd (omega arith)
  ends_go (suc n) us x vs l h e = let q : suc n - 1 ≡ n = omega arith in rw (h, e, q) (ends_cons k x (many_at kind true r p n vs))

  -- ---- a list without a limit, in which the text has room for n more

  pub list_stop : (n : ℕ) (us : List T) → head_in kind p us ≡ false → ends k (many_at kind false r p n us) ≡ Ok (k [], us)
  unfolding many_at
  list_stop zero us h = refl
  list_stop (suc n) us h = rw h refl

  pub list_over : (n : ℕ) (us : List T) → n ≡ 0 → ends k (many_at kind false r p n us) ≡ Ok (k [], us)
  unfolding many_at
  list_over zero us h = refl
  list_over (suc n) us h = absurd (omega arith)

  pub list_fail : (n : ℕ) (us : List T) (stop : ReadError) → 0 < n → head_in kind p us ≡ true → r us ≡ Err stop → ends k (many_at kind false r p n us) ≡ Err stop
  unfolding many_at
  list_fail zero us stop l h e = absurd (omega arith)
  list_fail (suc n) us stop l h e = rw (h, e) refl

  pub list_go : (n : ℕ) (us : List T) (x : A) (vs : List T) → 0 < n → head_in kind p us ≡ true → r us ≡ Ok (x, vs)
      → ends k (many_at kind false r p n us) ≡ ends (λ xs. k (x ∷ xs)) (many_at kind false r p (n - 1) vs)
  unfolding many_at
  list_go zero us x vs l h e = absurd (omega arith)
  list_go (suc n) us x vs l h e = let q : suc n - 1 ≡ n = omega arith in rw (h, e, q) (ends_cons k x (many_at kind false r p n vs))

-- ---- a first value, and a run of further ones

module _ {L : Language} (G : Grammar L) (w d : ℕ) {A B C : Type 0} (make : A → List B → C) (g : Form L A) (lim : Bool) (h : Form L B) (ts : List L.Token) where
  open L use {Token}

  abbrev pub a_run : Form L C
  a_run = made (λ p. make p.0 p.1) (both g (many lim h))

  -- the rest of the run after its first value
  pub run_start : (x : A) (us : List Token) → reads G w d g ts ≡ Ok (x, us)
      → ends (make x) (many_at L.kind lim (reads G w d h) (first L G.inner_first h) (if lim then w else length us) us) ≡ reads G w d a_run ts
  run_start x us e = sym (rw e (ends_pair make x (many_at L.kind lim (reads G w d h) (first L G.inner_first h) (if lim then w else length us) us)))

  pub run_err : (stop : ReadError) → reads G w d g ts ≡ Err stop → reads G w d a_run ts ≡ Err stop
  run_err stop e = rw e refl
