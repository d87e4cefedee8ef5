use Rattle.std.proofs.Common.{◌∙◌, refl, ap}
use Rattle.std.proofs.lemmas.Result.{on_ok_weaker, on_err_weaker}
use Rattle.std.specs.Map.{lookup}
use Rattle.engine.specs.BoundView.{bound_of}
use Rattle.shared_plans.specs.Recent.{same_key}
use Rattle.shared_plans.specs.View.{key_of}
use Rattle.session.proofs.Ready.{hit, miss, ready_found, ready_new}
use Rattle.session.proofs.asking.ready_plan.Goals as goal

pub returns-then-look_up-clause-ready : goal.returns-then-look_up-clause-ready
returns-then-look_up-clause-ready g c =
    ready_found c.args.sessions.now.database c.args.sessions.now.loads c.args.role.now c.args.text.now (bound_of c.args.bound.now) c.requires.bound (key_of c.in_ok-key.key) c.args.shared.now.plans c.look_up.new.self c.requires.kept c.look_up.ensures.entries
    (hit _ (key_of c.in_ok-key.key) c.in_ok-key.ensures c.args.shared.now.plans c.look_up.new.self c.look_up.result c.look_up.ensures.found c.look_up.ensures.entries c.look_up.ensures.hits c.if-look_up.true)

pub plan_with-requires-clause-admitted : goal.plan_with-requires-clause-admitted
plan_with-requires-clause-admitted g c = (c.args.text.now, rw c.store.ensures c.requires.bound)

pub keep-requires : goal.keep-requires
keep-requires g c = let m = miss _ (key_of c.in_ok-key.key) refl c.args.shared.now.plans c.look_up.new.self c.look_up.result c.look_up.ensures.found c.look_up.ensures.entries c.look_up.ensures.hits c.if-look_up.false in ap (λ p. lookup (same_key (key_of c.in_ok-key.key)) p.entries) m.0 ∙ m.1

pub returns-in-Ok-clause-ready : goal.returns-in-Ok-clause-ready
returns-in-Ok-clause-ready g c =
    on_ok_weaker c.keep.result (ready_new c.args.sessions.now.database c.args.sessions.now.loads c.args.role.now c.args.text.now (bound_of c.args.bound.now) c.requires.bound c.in-Ok.plan (rw c.store.ensures at c.in-Ok.ensures.plan) (key_of c.in_ok-key.key) c.args.shared.now.plans c.look_up.new.self c.keep.new.self
    c.in_ok-key.ensures c.requires.kept (miss _ (key_of c.in_ok-key.key) c.in_ok-key.ensures c.args.shared.now.plans c.look_up.new.self c.look_up.result c.look_up.ensures.found c.look_up.ensures.entries c.look_up.ensures.hits c.if-look_up.false)) c.keep.ensures.ok

pub returns-in-Ok-clause-unchanged : goal.returns-in-Ok-clause-unchanged
returns-in-Ok-clause-unchanged g c = on_err_weaker c.keep.result (λ e. e ∙ (miss _ (key_of c.in_ok-key.key) c.in_ok-key.ensures c.args.shared.now.plans c.look_up.new.self c.look_up.result c.look_up.ensures.found c.look_up.ensures.entries c.look_up.ensures.hits c.if-look_up.false).0) c.keep.ensures.err

pub returns-in-Err-clause-unchanged : goal.returns-in-Err-clause-unchanged
returns-in-Err-clause-unchanged g c = (miss _ (key_of c.in_ok-key.key) c.in_ok-key.ensures c.args.shared.now.plans c.look_up.new.self c.look_up.result c.look_up.ensures.found c.look_up.ensures.entries c.look_up.ensures.hits c.if-look_up.false).0
