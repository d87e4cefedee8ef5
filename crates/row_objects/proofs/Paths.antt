-- belongs is by finitely many memberships.
use Rattle.std.proofs.Common.{◌≡◌, zero, suc, true, List, [], ◌∷◌, ◌++◌, refl, sym, ◌∙◌, subst, arith, bytes_eq, Contains, ◌⊎◌, inl, inr, ⊎_elim, IsTrue}
use Rattle.std.proofs.lemmas.Bool.{and_parts, or_cases, or_left, or_right, and_from}
use Rattle.std.proofs.lemmas.Bool.Decides.{Decides-eqb}
use Rattle.std.proofs.lemmas.Slice.Eq.{slice_eq-Decides}
use Rattle.value.specs.Names.{Name}
use Rattle.row_objects.specs.Memberships.{Membership, belongs_by, Leads}

pub text_same : (r s : Name) → bytes_eq r s ≡ true → r ≡ s
text_same r s = (slice_eq-Decides Decides-eqb r s _ refl).0

pub same_text : (r s : Name) → r ≡ s → bytes_eq r s ≡ true
same_text r s = (slice_eq-Decides Decides-eqb r s _ refl).1

pub itself : (ms : List Membership) (r : Name) → belongs_by ms r r ≡ true
itself [] r = same_text r r refl
itself (m ∷ ms) r = or_left _ _ (itself ms r)

-- by way of the first, or not
pub ways : (m : Membership) (ms : List Membership) (r s : Name) → belongs_by (m ∷ ms) r s ≡ true → (belongs_by ms r s ≡ true) ⊎ ((belongs_by ms r m.member ≡ true) × (belongs_by ms m.group s ≡ true))
ways m ms r s h = ⊎_elim (λ p. inl p) (λ p. inr (and_parts _ _ p)) (or_cases _ _ h)

by_way : (m : Membership) (ms : List Membership) (r s : Name) → belongs_by ms r m.member ≡ true → belongs_by ms m.group s ≡ true → belongs_by (m ∷ ms) r s ≡ true
by_way m ms r s p q = or_right _ _ (and_from _ _ p q)

pub joined : (ms : List Membership) (r s t : Name) → belongs_by ms r s ≡ true → belongs_by ms s t ≡ true → belongs_by ms r t ≡ true
joined [] r s t p q = same_text r t (text_same r s p ∙ text_same s t q)
joined (m ∷ ms) r s t p q = ⊎_elim
    (λ a. ⊎_elim (λ b. or_left _ _ (joined ms r s t a b)) (λ b. by_way m ms r t (joined ms r s m.member a b.0) b.1) (ways m ms s t q))
    (λ a. ⊎_elim (λ b. by_way m ms r t a.0 (joined ms m.group s t a.1 b)) (λ b. by_way m ms r t a.0 b.1) (ways m ms s t q))
    (ways m ms r s p)

pub step : (ms : List Membership) (m : Membership) → Contains ms m → belongs_by ms m.member m.group ≡ true
step [] m h = absurd (omega (arith, h.1))
step (n ∷ ms) m (zero, below, is) = subst (λ (p : Membership). belongs_by (n ∷ ms) p.member p.group ≡ true) is (by_way n ms n.member n.group (itself ms n.member) (itself ms n.group))
step (n ∷ ms) m (suc k, below, is) = or_left _ _ (step ms m (k, omega (arith, below), is))

pub all_reached : (ms path : List Membership) (r s : Name) → Leads ms r s path → IsTrue (belongs_by ms r s)
all_reached ms [] r s lead = subst (λ t. belongs_by ms r t ≡ true) lead (itself ms r)
all_reached ms (m ∷ path) r s lead = joined ms r m.group s (subst (λ t. belongs_by ms t m.group ≡ true) (sym lead.1) (step ms m lead.0)) (all_reached ms path m.group s lead.2)

older : (n m : Membership) (ms : List Membership) → Contains ms m → Contains (n ∷ ms) m
older n m ms h = (suc h.0, omega (arith, h.1), h.2)

-- memberships that are among others lead there by these too
pub leads_among : (ms all path : List Membership) (r s : Name) → ((m : Membership) → Contains ms m → Contains all m) → Leads ms r s path → Leads all r s path
leads_among ms all [] r s among lead = lead
leads_among ms all (m ∷ path) r s among lead = (among m lead.0, lead.1, leads_among ms all path m.group s among lead.2)

leads_more : (n : Membership) (ms path : List Membership) (r s : Name) → Leads ms r s path → Leads (n ∷ ms) r s path
leads_more n ms path r s lead = leads_among ms (n ∷ ms) path r s (λ m h. older n m ms h) lead

leads_on : (ms path more : List Membership) (r s t : Name) → Leads ms r s path → Leads ms s t more → Leads ms r t (path ++ more)
leads_on ms [] more r s t p q = subst (λ u. Leads ms u t more) (sym p) q
leads_on ms (m ∷ path) more r s t p q = (p.0, p.1, leads_on ms path more m.group s t p.2 q)

pub reached : (ms : List Membership) (r s : Name) → IsTrue (belongs_by ms r s) → (path : List Membership) × Leads ms r s path
reached [] r s h = ([], text_same r s h)
reached (m ∷ ms) r s h = ⊎_elim
    (λ a. let found = reached ms r s a in (found.0, leads_more m ms found.0 r s found.1))
    (λ a. let prefix = reached ms r m.member a.0 in let back = reached ms m.group s a.1 in
    (prefix.0 ++ (m ∷ back.0), leads_on (m ∷ ms) prefix.0 (m ∷ back.0) r m.member s (leads_more m ms prefix.0 r m.member prefix.1) ((0, omega arith, refl), refl, leads_more m ms back.0 m.group s back.1)))
    (ways m ms r s h)
