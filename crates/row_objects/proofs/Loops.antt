-- No loop comes if each new membership is of a group that its member is not reached from.
use Rattle.std.proofs.Common.{◌≡◌, zero, suc, true, false, List, [], ◌∷◌, ◌++◌, refl, sym, ◌∙◌, subst, arith, Contains, ⊎_elim, true≢false}
use Rattle.std.proofs.lemmas.List.Elements.{Contains-append_cases, Contains-append_left, Contains-append_right}
use Rattle.row_objects.specs.Memberships.{Membership, belongs_by, Leads, HasNoLoop}
use Rattle.row_objects.proofs.Paths.{all_reached, reached, joined, step, ways, leads_among}

pub none_at_first : HasNoLoop []
none_at_first r m path lead = omega (arith, lead.0.1)

-- memberships that are among others have no loop where these have none
pub none_among : (ms all : List Membership) → ((m : Membership) → Contains ms m → Contains all m) → HasNoLoop all → HasNoLoop ms
none_among ms all among none r m path lead = none r m path (leads_among ms all (m ∷ path) r r among lead)

module _ (ms : List Membership) (x : Membership) (none : HasNoLoop ms) (no : belongs_by ms x.group x.member ≡ false) where
  not_back : belongs_by ms x.group x.member ≡ true → ⊥
  not_back h = true≢false (sym h ∙ no)

  old : (p : Membership) → Contains ms p → belongs_by ms p.group p.member ≡ true → ⊥
  old p among h = let found = reached ms p.group p.member h in none p.member p found.0 (among, refl, found.1)

  by_old : (p : Membership) → Contains ms p → belongs_by (x ∷ ms) p.group p.member ≡ true → ⊥
  by_old p among h = ⊎_elim (λ a. old p among a)
      (λ b. not_back (joined ms x.group p.group x.member (joined ms x.group p.member p.group b.1 (step ms p among)) b.0))
      (ways x ms p.group p.member h)

  by_new : belongs_by (x ∷ ms) x.group x.member ≡ true → ⊥
  by_new h = ⊎_elim (λ a. not_back a) (λ b. not_back b.0) (ways x ms x.group x.member h)

  by : (p : Membership) → Contains (x ∷ ms) p → belongs_by (x ∷ ms) p.group p.member ≡ true → ⊥
  by p (zero, below, is) h = by_new (subst (λ (q : Membership). belongs_by (x ∷ ms) q.group q.member ≡ true) (sym is) h)
  by p (suc k, below, is) h = by_old p (k, omega (arith, below), is) h

  first : HasNoLoop (x ∷ ms)
  first r p path lead = by p lead.0 (all_reached (x ∷ ms) path p.group p.member (subst (λ t. Leads (x ∷ ms) p.group t path) lead.1 lead.2))

  turned : (m : Membership) → Contains (ms ++ x ∷ []) m → Contains (x ∷ ms) m
  turned m h = ⊎_elim (λ a. Contains-append_right (x ∷ []) ms m a) (λ b. Contains-append_left (x ∷ []) ms m b) (Contains-append_cases ms (x ∷ []) m h)

  -- one more at the end
  pub none_after : HasNoLoop (ms ++ x ∷ [])
  none_after = none_among (ms ++ x ∷ []) (x ∷ ms) turned first
