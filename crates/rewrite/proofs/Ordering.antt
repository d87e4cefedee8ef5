-- The joins in the order of a code.
use Rattle.std.proofs.Common.{◌≡◌, ◌∙◌, refl, ap, ℕ, Bool, true, false, ◌||◌, ◌==◌, List, [], ◌∷◌, ◌++◌, length, Ok, if◌then◌else◌, arith}
use Rattle.std.specs.List.{list_all}
use Rattle.std.proofs.lemmas.Bool.{eqb-true}
use Rattle.predicates.proofs.Movables.{and_left, and_right}
use Rattle.tuples.specs.Guards.{Guard}
use Rattle.row_terms.specs.declared.path.Branch.TheVariants.{First}
use Rattle.row_terms.specs.Terms.{Joined}
use Rattle.row_terms.specs.Written.{guarded_entry}
use Rattle.trailcheck.specs.Entries.{is_among}
use Rattle.rewrite.specs.Trails.{led, all_down}
use Rattle.rewrite.specs.Placing.{joined_back, without, exchanging, raising, ordering}
use Rattle.rewrite.proofs.Distinct.{Distinct, length-without, without_have}
use Rattle.rewrite.proofs.Leads.{led_then, led_left}

module _ (frame : List Guard) where
  exchanged : (i j c : ℕ) (more rest : List ℕ) → length more ≡ length rest → led frame (exchanging (j ∷ more)) (Joined (joined_back (c ∷ rest)) (guarded_entry i)) ≡ Ok (joined_back (c ∷ i ∷ rest))
  exchanged i j c [] [] l = refl
  exchanged i j c (k ∷ more) (m ∷ rest) l = refl
  exchanged i j c [] (m ∷ rest) l = absurd (omega arith)
  exchanged i j c (k ∷ more) [] l = absurd (omega arith)

  -- the entry is then the last that is joined
  raised : (c : ℕ) (is : List ℕ) → is_among is c ≡ true → led frame (raising c is) (joined_back is) ≡ Ok (joined_back (c ∷ without c is))
  raised c [] h = absurd (cc)
  raised c (i ∷ []) h = go (i == c) refl h
    where
      go : (b : Bool) → (i == c) ≡ b → b || false ≡ true → led frame (if b then [] else []) (joined_back (i ∷ [])) ≡ Ok (joined_back (c ∷ (if b then [] else i ∷ [])))
      go true e k = ap (λ j. Ok (joined_back (j ∷ []))) (eqb-true i c e)
      go false e k = absurd (cc)
  raised c (i ∷ (j ∷ more)) h = go (i == c) refl h (λ k. raised c (j ∷ more) k)
    where
      go : (b : Bool) → (i == c) ≡ b → b || is_among (j ∷ more) c ≡ true → (is_among (j ∷ more) c ≡ true → led frame (raising c (j ∷ more)) (joined_back (j ∷ more)) ≡ Ok (joined_back (c ∷ without c (j ∷ more)))) →
          led frame (if b then [] else all_down First (raising c (j ∷ more)) ++ exchanging (j ∷ more)) (joined_back (i ∷ (j ∷ more)))
          ≡ Ok (joined_back (c ∷ (if b then j ∷ more else i ∷ without c (j ∷ more))))
      go true e k further = ap (λ m. Ok (joined_back (m ∷ (j ∷ more)))) (eqb-true i c e)
      go false e k further =
          let r = length-without c (j ∷ more) k in
          let l : length more ≡ length (without c (j ∷ more)) = omega (arith, r) in
          led_then frame (all_down First (raising c (j ∷ more))) (exchanging (j ∷ more)) (joined_back (i ∷ (j ∷ more))) (Joined (joined_back (c ∷ without c (j ∷ more))) (guarded_entry i))
          (led_left frame (guarded_entry i) (raising c (j ∷ more)) (joined_back (j ∷ more)) (joined_back (c ∷ without c (j ∷ more))) (further k))
          ∙ exchanged i j c more (without c (j ∷ more)) l

  -- the others are in order below the last that is joined
  beside : (c : ℕ) (cs is : List ℕ) → length cs ≡ length is → led frame (ordering cs is) (joined_back is) ≡ Ok (joined_back cs) → led frame (all_down First (ordering cs is)) (joined_back (c ∷ is)) ≡ Ok (joined_back (c ∷ cs))
  beside c [] [] l h = refl
  beside c (d ∷ cs) (i ∷ is) l h = led_left frame (guarded_entry c) (ordering (d ∷ cs) (i ∷ is)) (joined_back (i ∷ is)) (joined_back (d ∷ cs)) h
  beside c [] (i ∷ is) l h = absurd (omega arith)
  beside c (d ∷ cs) [] l h = absurd (omega arith)

  -- entries of which none is twice there, from a list of as many
  pub ordered : (cs is : List ℕ) → length cs ≡ length is → Distinct cs → list_all (is_among is) cs ≡ true → led frame (ordering cs is) (joined_back is) ≡ Ok (joined_back cs)
  ordered [] [] l d h = refl
  ordered [] (i ∷ is) l d h = absurd (omega arith)
  ordered (c ∷ cs) is l d h =
      let among = and_left (is_among is c) (list_all (is_among is) cs) h in
      let m = length-without c is among in
      let k : length cs ≡ length (without c is) = omega (arith, m) in
      led_then frame (raising c is) (all_down First (ordering cs (without c is))) (joined_back is) (joined_back (c ∷ without c is)) (raised c is among)
      ∙ beside c cs (without c is) k (ordered cs (without c is) k d.1 (without_have c cs is d.0 (and_right (is_among is c) (list_all (is_among is) cs) h)))
