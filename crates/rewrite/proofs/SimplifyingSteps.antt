-- Steps below filters, as they are written.
use Rattle.std.proofs.Common.{◌≡◌, ℕ, zero, suc, ◌+◌, ◌-◌, ◌<◌, refl, sym, ap, ◌∙◌, List, [], ◌∷◌, ◌++◌, length, get_or, drop, drop-cons, length-drop, append_assoc, arith}
use Rattle.std.proofs.lemmas.List.{map-append}
use Rattle.expr.specs.Bound.{BoundExpr, CurrentUser}
use Rattle.row_terms.specs.declared.path.Branch.TheVariants.{First}
use Rattle.algebra.specs.Steps.{Step}
use Rattle.rewrite.specs.Simplifying.{repeated, simplifying_each}
use Rattle.rewrite.specs.Trails.{at_root, down, all_down, below_filters}

below_more : (n : ℕ) (ss ts : List Step) → below_filters n (ss ++ ts) ≡ below_filters n ss ++ below_filters n ts
below_more zero ss ts = refl
below_more (suc n) ss ts = ap (below_filters n) (map-append (down First) ss ts) ∙ below_more n (all_down First ss) (all_down First ts)

pub below_none : (n : ℕ) → below_filters n [] ≡ []
below_none zero = refl
below_none (suc n) = below_none n

repeated_last : (n : ℕ) (s : Step) → repeated n s ++ s ∷ [] ≡ s ∷ repeated n s
repeated_last zero s = refl
repeated_last (suc n) s = ap (λ ss. s ∷ ss) (repeated_last n s)

-- a step once more
pub repeated_next : (depth n : ℕ) (s : Step) (old mid new : List Step) → mid ≡ old ++ below_filters depth (repeated n s) → new ≡ mid ++ below_filters depth (s ∷ []) → new ≡ old ++ below_filters depth (repeated (n + 1) s)
repeated_next depth n s old mid new m k =
    let e : n + 1 ≡ suc n = omega arith in
    let so_far : List Step = below_filters depth (repeated n s) in
    let last : List Step = below_filters depth (s ∷ []) in
    let again : so_far ++ last ≡ below_filters depth (s ∷ repeated n s) = sym (below_more depth (repeated n s) (s ∷ [])) ∙ ap (below_filters depth) (repeated_last n s) in
    rw (e, k, m) (append_assoc old so_far last ∙ ap (λ ss. old ++ ss) again)

-- the steps that simplify one condition more
module _ (es : List BoundExpr) (i depth : ℕ) (more : i < length es) (at : depth ≡ length (drop i es)) where
  pub higher : depth - 1 ≡ length (drop (i + 1) es)
  higher = omega (arith, length-drop i es, length-drop (i + 1) es)

  pub simplified_next : (old mid new whole : List Step) → old ++ simplifying_each (drop i es) ≡ whole → mid ≡ old ++ below_filters (depth - 1) (at_root 13 ∷ []) → new ≡ mid ++ below_filters (depth - 1) (at_root 14 ∷ [])
      → new ++ simplifying_each (drop (i + 1) es) ≡ whole
  simplified_next old mid new whole so_far m n =
      let left : List BoundExpr = drop (i + 1) es in
      let e : i + 1 ≡ suc i = omega arith in
      let d : drop i es ≡ get_or es i CurrentUser ∷ left = rw (e, drop-cons es i CurrentUser more) refl in
      let s : simplifying_each (drop i es) ≡ below_filters (length left) (at_root 13 ∷ at_root 14 ∷ []) ++ simplifying_each left = ap simplifying_each d in
      let rest : List Step = simplifying_each left in
      let carry : List Step = below_filters (length left) (at_root 13 ∷ []) in
      let fold : List Step = below_filters (length left) (at_root 14 ∷ []) in
      let both : simplifying_each (drop i es) ≡ carry ++ (fold ++ rest) = s ∙ ap (λ ss. ss ++ rest) (below_more (length left) (at_root 13 ∷ []) (at_root 14 ∷ [])) ∙ append_assoc carry fold rest in
      rw (n, m, higher) (append_assoc (old ++ carry) fold rest ∙ append_assoc old carry (fold ++ rest) ∙ ap (λ ss. old ++ ss) (sym both) ∙ so_far)
