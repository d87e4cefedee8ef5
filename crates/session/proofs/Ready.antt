-- The plan that was last used is that of the role's bound query.
use Rattle.std.proofs.Common.{◌≡◌, inl, inr, ℕ, Bool, true, false, List, ◌∷◌, take, Contains, Ok, is_some, None, if◌then◌else◌, refl, sym, ap, ◌∙◌, subst, arith}
use Rattle.std.specs.Map.{lookup}
use Rattle.memory.proofs.Cases.{ok_is}
use Rattle.value.specs.Names.{Name}
use Rattle.replies.specs.Reply.{Reply}
use Rattle.engine.specs.Analysis.{admitted}
use Rattle.engine.specs.Database.{Database}
use Rattle.engine.specs.Plans.{IsPlanFor, Plan}
use Rattle.engine.specs.Resolved.{Bound}
use Rattle.shared_plans.specs.Recent.{Key, Plans, most_plans, one_more_hit, promoted, same_key}
use Rattle.shared_plans.proofs.Looks.{Found, found, kept_new, missed, was_or_new, was_there}
use Rattle.session.specs.Kept.{AreKept, IsKept}
use Rattle.session.specs.Machine.{present_key}
use Rattle.session.specs.Taking.{Readied}

abbrev pub LooksUp : Key → Plans Plan → Plans Plan → Bool → Type 0
LooksUp k old new true = Found k old new
LooksUp k old new false = (new ≡ old) × (lookup (same_key k) old.entries ≡ None)

looks_up : (k : Key) (old new : Plans Plan) (r : Bool) → r ≡ is_some (lookup (same_key k) old.entries) → new.entries ≡ promoted (same_key k) old.entries → new.hits ≡ (if r then one_more_hit old.hits else old.hits) → LooksUp k old new r
looks_up k old new true there after hits = found k old new there after hits
looks_up k old new false there after hits = missed k old new there after hits

module _ (k k' : Key) (q : k' ≡ k) (old new : Plans Plan) (r : Bool) (there : r ≡ is_some (lookup (same_key k') old.entries)) (after : new.entries ≡ promoted (same_key k') old.entries) (hits : new.hits ≡ (if r then one_more_hit old.hits else old.hits)) where
  looked : LooksUp k old new r
  looked = subst (λ z. LooksUp z old new r) q (looks_up k' old new r there after hits)

  -- a look-up that finds a plan
  pub hit : r ≡ true → Found k old new
  hit is = subst (LooksUp k old new) is looked

  -- one that finds none
  pub miss : r ≡ false → (new ≡ old) × (lookup (same_key k) old.entries ≡ None)
  miss is = subst (LooksUp k old new) is looked

still_kept : (database : Database) (loads : ℕ) (k : Key) (old new : Plans Plan) → new.entries ≡ promoted (same_key k) old.entries → AreKept database loads old.entries → AreKept database loads new.entries
unfolding AreKept
still_kept database loads k old new after kept = λ e c. kept e (was_there k old.entries e (subst (λ l. Contains l e) after c))

module _ (database : Database) (loads : ℕ) (role : Name) (text : List ℕ) (b : Bound) (is : admitted database.catalog role text ≡ Ok b) where
  fits : (e : Key × Plan) → e.0 ≡ present_key database loads role text → IsKept database loads e → IsPlanFor database role b e.1
  fits e q h = subst (λ r. IsPlanFor database r b e.1) (ap (λ k. k.role) q) (h.2 (ap (λ k. k.changes) q) (ap (λ k. k.loads) q) b (ap (λ k. admitted database.catalog k.role k.text) q ∙ is))

  pub ready_found : (k' : Key) (old new : Plans Plan) → AreKept database loads old.entries → new.entries ≡ promoted (same_key k') old.entries → Found (present_key database loads role text) old new → Readied database loads role text b old new
  unfolding AreKept
  ready_found k' old new kept after f = ((f.0, f.3, fits f.0 f.2 (kept f.0 f.1)), f.4, still_kept database loads k' old new after kept)

  module _ (plan : Plan) (for : IsPlanFor database role b plan) where
    new_kept : IsKept database loads (present_key database loads role text, plan)
    new_kept = (omega arith, omega arith, λ _ _ b' is'. subst (λ x. IsPlanFor database role x plan) (ok_is {E = Reply} b b' (sym is ∙ is')) for)

    all_kept : (old : Plans Plan) → AreKept database loads old.entries → AreKept database loads (take most_plans ((present_key database loads role text, plan) ∷ old.entries))
    unfolding AreKept
    all_kept old kept = λ e c. elim (was_or_new (present_key database loads role text, plan) old.entries e c) [
      | inl same ↦ subst (IsKept database loads) same new_kept
      | inr more ↦ kept e more
    ]

    abbrev put : Key → Plans Plan → Plans Plan
    put k p = record p { entries = take most_plans ((k, plan) ∷ p.entries) }

    -- a plan is kept for a key that has none
    pub ready_new : (k' : Key) (old mid new : Plans Plan) → k' ≡ present_key database loads role text → AreKept database loads old.entries → (mid ≡ old) × (lookup (same_key (present_key database loads role text)) old.entries ≡ None) → new ≡ put k' mid → Readied database loads role text b old new
    ready_new k' old mid new q kept missed e =
        let e' : new ≡ put (present_key database loads role text) old = e ∙ ap (λ k. put k mid) q ∙ ap (put (present_key database loads role text)) missed.0 in
        subst (λ n. Readied database loads role text b old n) (sym e') (
          ((present_key database loads role text, plan), refl, for),
          kept_new (present_key database loads role text) old plan missed.1,
          all_kept old kept,
        )
