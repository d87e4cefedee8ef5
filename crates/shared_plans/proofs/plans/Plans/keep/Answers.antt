use Rattle.std.proofs.Common.{◌≡◌, ◌∙◌, None, refl}
use Rattle.std.specs.Map.{lookup}
use Rattle.shared_plans.specs.Recent.{same_key}
use Rattle.shared_plans.specs.View.{key_of}
use Rattle.shared_plans.proofs.Mapped.{first_seen, lookup_seen, put_new}
use Rattle.shared_plans.proofs.plans.Plans.keep.Goals as goal

pub returns-clause-ok : goal.returns-clause-ok
returns-clause-ok g c =
    let absent : lookup (λ k. same_key (key_of c.args.key) (key_of k)) c.self.inside.cache.entries ≡ None =
    lookup_seen key_of (λ k. same_key (key_of c.args.key) (key_of k)) (same_key (key_of c.args.key)) (λ k. refl) c.self.inside.cache.entries ∙ (rw (← c.self.view_is) at c.requires) in
    rw (← c.self.view_is, c.in_ok-put.ensures.entries, put_new (λ k l. same_key (key_of k) (key_of l)) c.self.inside.cache c.args.key c.args.plan absent c.self.invariant, first_seen key_of 63 c.self.inside.cache.entries) refl
