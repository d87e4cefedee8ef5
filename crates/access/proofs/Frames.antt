-- The steps of a walk that makes a guard for each entry.
use Rattle.std.proofs.Common.{◌≡◌, ℕ, suc, ◌+◌, ◌<◌, ◌≤◌, List, [], ◌∷◌, ◌++◌, length, map, get_or, drop, drop-cons, refl, sym, ap, ◌∙◌, append_assoc, append-nil, arith}
use Rattle.std.proofs.lemmas.List.{drop_all, map-append}

-- w and h agree on each e
module _ {G E X : Type 0} (f : G → X) (h : E → X) (w : List E → List X) (each : (e : E) (es : List E) → w (e ∷ es) ≡ h e ∷ w es) where
  pub next_is_made : (gs : List G) (es : List E) (k : ℕ) (g : G) (e : E) (new : List G) → k < length es → e ≡ get_or es k e → new ≡ gs ++ g ∷ [] → f g ≡ h e →
      map f gs ++ w (drop k es) ≡ w es → map f new ++ w (drop (k + 1) es) ≡ w es
  next_is_made gs es k g e new more is made same so_far =
      let n : k + 1 ≡ suc k = omega arith in
      let s : drop k es ≡ e ∷ drop (k + 1) es = rw (n, drop-cons es k e more, ← is) refl in
      ap (λ l. map f l ++ w (drop (k + 1) es)) made
      ∙ ap (λ l. l ++ w (drop (k + 1) es)) (map-append f gs (g ∷ []))
      ∙ append_assoc (map f gs) (f g ∷ []) (w (drop (k + 1) es))
      ∙ ap (λ x. map f gs ++ x ∷ w (drop (k + 1) es)) same
      ∙ ap (λ l. map f gs ++ l) (sym (each e (drop (k + 1) es)))
      ∙ ap (λ l. map f gs ++ w l) (sym s)
      ∙ so_far

  pub all_are_made : (gs : List G) (es : List E) (k : ℕ) → length es ≤ k → w [] ≡ [] → map f gs ++ w (drop k es) ≡ w es → map f gs ≡ w es
  all_are_made gs es k none empty so_far = sym (append-nil (map f gs)) ∙ ap (λ l. map f gs ++ l) (sym empty) ∙ ap (λ l. map f gs ++ w l) (sym (drop_all k es none)) ∙ so_far
