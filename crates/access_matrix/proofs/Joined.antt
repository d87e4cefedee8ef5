-- Names joined, and the words of policies one after another.
use Rattle.std.proofs.Common.{◌≡◌, ℕ, suc, ◌+◌, ◌<◌, ◌≤◌, Bool, true, false, cond, List, [], ◌∷◌, ◌++◌, append_assoc, append-nil, length, map, filter, get_or, drop, ◌==◌, refl, sym, ap, ◌∙◌, true≢false, arith, Result, Ok, Err, IfOk}
use Rattle.std.specs.Prelude.{codes, if◌then◌else◌}
use Rattle.std.proofs.lemmas.List.{drop_all}
use Rattle.std.specs.List.{flat_map}
use Rattle.value.specs.Names.{Name}
use Rattle.row_objects.specs.Objects.{Policy}
use Rattle.access_matrix.specs.Reasons.{joined, policies_words, policy_words}
use Rattle.access_matrix.proofs.Loops.{from_item}

-- the first, and each other after a comma
pub joined_first : {X : Type 0} (f : X → Name) (x : X) (xs : List X) → joined (map f (x ∷ xs)) ≡ f x ++ flat_map (λ y. codes ", " ++ f y) xs
joined_first f x [] = sym (append-nil (f x))
joined_first f x (y ∷ ys) =
    ap (λ zs. f x ++ (codes ", " ++ zs)) (joined_first f y ys)
    ∙ ap (λ zs. f x ++ zs) (sym (append_assoc (codes ", ") (f y) (flat_map (λ z. codes ", " ++ f z) ys)))

pub joined_done : {X : Type 0} (f : X → Name) (names : List X) (x : X) (others : List X) → names ≡ x ∷ others → (w0 w1 w2 : List ℕ) → w0 ≡ [] → w1 ≡ w0 ++ f x → w2 ≡ w1 ++ flat_map (λ y. codes ", " ++ f y) others
    → w2 ≡ joined (map f names)
joined_done f names x others e w0 w1 w2 h0 h1 h2 =
    h2 ∙ ap (λ w. w ++ flat_map (λ y. codes ", " ++ f y) others) (h1 ∙ ap (λ w. w ++ f x) h0) ∙ sym (joined_first f x others) ∙ ap (λ l. joined (map f l)) (sym e)

pub same_ok : {T E : Type 0} (f : T → List ℕ) (res : Result T E) (a b : List ℕ) → a ≡ b → IfOk res (λ t. f t ≡ a) → IfOk res (λ t. f t ≡ b)
same_ok f (Ok t) a b e h = h ∙ e
same_ok f (Err error) a b e h = tt

-- the words of policies, of which some are written
abbrev pub after : List ℕ → List Policy → List ℕ
after [] ps = policies_words ps
after (b ∷ bs) ps = (b ∷ bs) ++ flat_map (λ p. codes ", " ++ policy_words p) ps

suc_not : (n : ℕ) → (suc n == 0) ≡ false
suc_not n = grind arith

next_words : (words : List ℕ) (p : Policy) (ps : List Policy) → after words (p ∷ ps) ≡ after (words ++ ((if length words == 0 then codes "by " else codes ", ") ++ policy_words p)) ps
next_words [] p ps = ap (λ l. codes "by " ++ l) (joined_first policy_words p ps) ∙ sym (append_assoc (codes "by ") (policy_words p) (flat_map (λ p. codes ", " ++ policy_words p) ps))
next_words (b ∷ bs) p ps =
    sym (append_assoc (b ∷ bs) (codes ", " ++ policy_words p) (flat_map (λ p. codes ", " ++ policy_words p) ps))
    ∙ ap (λ t. after ((b ∷ bs) ++ ((if t then codes "by " else codes ", ") ++ policy_words p)) ps) (sym (suc_not (length bs)))

module _ {X : Type 0} (f : Policy → Bool) (view : X → Policy) (xs : List X) (k : ℕ) (words whole : List ℕ) (so_far : after words (filter f (map view (drop k xs))) ≡ whole) where
  module _ (x : X) (more : k < length xs) (is : x ≡ get_or xs k x) where
    rest : filter f (map view (drop k xs)) ≡ cond (f (view x)) (view x ∷ filter f (map view (drop (k + 1) xs))) (filter f (map view (drop (k + 1) xs)))
    rest = ap (λ l. filter f (map view l)) (from_item xs k x more is)

    chosen : (b : Bool) → b ≡ f (view x) → filter f (map view (drop k xs)) ≡ cond b (view x ∷ filter f (map view (drop (k + 1) xs))) (filter f (map view (drop (k + 1) xs)))
    chosen b t = rest ∙ ap (λ b. cond b (view x ∷ filter f (map view (drop (k + 1) xs))) (filter f (map view (drop (k + 1) xs)))) (sym t)

    pub policy_next : true ≡ f (view x) → (new : List ℕ) → new ≡ words ++ ((if length words == 0 then codes "by " else codes ", ") ++ policy_words (view x))
        → after new (filter f (map view (drop (k + 1) xs))) ≡ whole
    policy_next t new made =
        ap (λ w. after w (filter f (map view (drop (k + 1) xs)))) made
        ∙ sym (next_words words (view x) (filter f (map view (drop (k + 1) xs))))
        ∙ ap (λ ps. after words ps) (sym (chosen true t))
        ∙ so_far

    pub policy_left : false ≡ f (view x) → after words (filter f (map view (drop (k + 1) xs))) ≡ whole
    policy_left t = ap (λ ps. after words ps) (sym (chosen false t)) ∙ so_far

  pub policies_over : length xs ≤ k → after words [] ≡ whole
  policies_over none = ap (λ l. after words (filter f (map view l))) (sym (drop_all k xs none)) ∙ so_far

-- at the end, where some are written, and where none is
pub some_written : (words : List ℕ) → (length words == 0) ≡ false → words ≡ after words []
some_written [] h = absurd (true≢false h)
some_written (b ∷ bs) h = sym (append-nil (b ∷ bs))

pub none_written : (words : List ℕ) → (length words == 0) ≡ true → codes "no policy" ≡ after words []
none_written [] h = refl
none_written (b ∷ bs) h = absurd (true≢false (sym h ∙ suc_not (length bs)))
