use Rattle.std.proofs.Common.{◌∙◌, ap, map, refl, sym}
use Rattle.shared_plans.specs.Recent.{same_key}
use Rattle.shared_plans.specs.View.{key_of}
use Rattle.shared_plans.proofs.Mapped.{lookup_seen, promoted_seen}
use Rattle.shared_plans.proofs.plans.Plans.look_up.Goals as goal

pub returns-then-promote-clause-found : goal.returns-then-promote-clause-found
returns-then-promote-clause-found g c =
    let h = c.promote.ensures.value in
    rw (← c.self.view_is, ← lookup_seen key_of _ (same_key (key_of c.args.key.now)) (λ k. refl) c.self.inside.cache.entries) (sym c.if-promote.true ∙ h)

pub returns-then-promote-clause-entries : goal.returns-then-promote-clause-entries
returns-then-promote-clause-entries g c =
    rw (← c.self.view_is) (ap (λ cache. map (λ e. (key_of e.0, e.1)) cache.entries) c.promote.ensures.entries
    ∙ promoted_seen key_of (λ k. same_key (key_of c.args.key.now) (key_of k)) (same_key (key_of c.args.key.now)) (λ k. refl) c.self.inside.cache.entries)

pub returns-clause-found : goal.returns-clause-found
returns-clause-found g c =
    let h = c.promote.ensures.value in
    rw (← c.self.view_is, ← lookup_seen key_of _ (same_key (key_of c.args.key.now)) (λ k. refl) c.self.inside.cache.entries) (sym c.if-promote.false ∙ h)

pub returns-clause-entries : goal.returns-clause-entries
returns-clause-entries g c =
    rw (← c.self.view_is) (ap (λ cache. map (λ e. (key_of e.0, e.1)) cache.entries) c.promote.ensures.entries
    ∙ promoted_seen key_of (λ k. same_key (key_of c.args.key.now) (key_of k)) (same_key (key_of c.args.key.now)) (λ k. refl) c.self.inside.cache.entries)
