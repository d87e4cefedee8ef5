-- Steps below a path.
use Rattle.std.proofs.Common.{OnOk, Result, Ok, Err, ◌≡◌, ◌∙◌, refl, sym, ap, ℕ, zero, suc, Bool, List, [], ◌∷◌, ◌++◌, replicate, append_assoc, append-nil}
use Rattle.std.proofs.lemmas.List.{map-append}
use Rattle.row_terms.specs.declared.path.Branch.{Branch}
use Rattle.row_terms.specs.declared.path.Branch.TheVariants.{First}
use Rattle.algebra.specs.Steps.{Step}
use Rattle.rewrite.specs.Trails.{plain, at_root, down, all_down, below_filters, below_path}

pub below_none : (path : List Branch) → below_path path [] ≡ []
below_none [] = refl
below_none (b ∷ path) = ap (all_down b) (below_none path)

pub below_both : (path : List Branch) (ss ts : List Step) → below_path path (ss ++ ts) ≡ below_path path ss ++ below_path path ts
below_both [] ss ts = refl
below_both (b ∷ path) ss ts = ap (all_down b) (below_both path ss ts) ∙ map-append (down b) (below_path path ss) (below_path path ts)

pub below_further : (path : List Branch) (b : Branch) (ss : List Step) → below_path (path ++ b ∷ []) ss ≡ below_path path (all_down b ss)
below_further [] b ss = refl
below_further (a ∷ path) b ss = ap (all_down a) (below_further path b ss)

pub below_step : (path : List Branch) (rule : ℕ) (is_reverse : Bool) → below_path path (plain rule is_reverse ∷ []) ≡ record { rule = rule; is_reverse = is_reverse; path = path; arguments = [] } ∷ []
below_step [] rule is_reverse = refl
below_step (b ∷ path) rule is_reverse = ap (all_down b) (below_step path rule is_reverse)

-- a path that goes on below so many filters
below_on : (path more : List Branch) (ss : List Step) → below_path (path ++ more) ss ≡ below_path path (below_path more ss)
below_on [] more ss = refl
below_on (b ∷ path) more ss = ap (all_down b) (below_on path more ss)

first_more : (n : ℕ) → replicate n First ++ First ∷ [] ≡ replicate (suc n) First
first_more zero = refl
first_more (suc n) = ap (λ l. First ∷ l) (first_more n)

pub filters_below : (n : ℕ) (ss : List Step) → below_filters n ss ≡ below_path (replicate n First) ss
filters_below zero ss = refl
filters_below (suc n) ss =
    filters_below n (all_down First ss)
    ∙ sym (below_further (replicate n First) First ss)
    ∙ ap (λ p. below_path p ss) (first_more n)

pub below_more : (path : List Branch) (n : ℕ) (ss : List Step) → below_path (path ++ replicate n First) ss ≡ below_path path (below_filters n ss)
below_more path n ss = below_on path (replicate n First) ss ∙ ap (below_path path) (sym (filters_below n ss))

-- ---- a trail that steps below a path are added to

module _ (path : List Branch) (old : List Step) where
  pub none_added : (whole : List Step) → whole ≡ [] → old ≡ old ++ below_path path whole
  none_added whole none = sym (append-nil old) ∙ ap (λ l. old ++ l) (sym (below_none path)) ∙ ap (λ ss. old ++ below_path path ss) (sym none)

  pub both_added : (ss ts mid new : List Step) → mid ≡ old ++ below_path path ss → new ≡ mid ++ below_path path ts → new ≡ old ++ below_path path (ss ++ ts)
  both_added ss ts mid new m n =
      n ∙ ap (λ l. l ++ below_path path ts) m ∙ append_assoc old (below_path path ss) (below_path path ts) ∙ ap (λ l. old ++ l) (sym (below_both path ss ts))

  -- a step at the node of the path, and steps below a branch there
  pub step_added : (rule : ℕ) (b : Branch) (ss : List Step) (deeper : List Branch) (mid new : List Step) → mid ≡ old ++ below_path path (at_root rule ∷ []) → deeper ≡ path ++ b ∷ [] → new ≡ mid ++ below_path deeper ss →
      new ≡ old ++ below_path path (at_root rule ∷ all_down b ss)
  step_added rule b ss deeper mid new m d n =
      both_added (at_root rule ∷ []) (all_down b ss) mid new m (n ∙ ap (λ p. mid ++ below_path p ss) d ∙ ap (λ l. mid ++ l) (below_further path b ss))

-- a call that adds no step
pub where_ok : {T E P : Type 0} (r : Result T E) → P → OnOk r P
where_ok (Ok x) p = p
where_ok (Err e) p = tt

pub none_added_ok : {T E : Type 0} (r : Result T E) (path : List Branch) (old whole : List Step) → whole ≡ [] → OnOk r (old ≡ old ++ below_path path whole)
none_added_ok r path old whole none = where_ok r (none_added path old whole none)
