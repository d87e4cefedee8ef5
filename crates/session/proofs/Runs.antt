-- A run in which memory did not run out is the machine's.
use Rattle.std.proofs.Common.{◌≢◌, inl, inr, List, [], ◌∷◌, sym, ap, ◌∙◌}
use Rattle.sessions.specs.Reply.{Reply, no_memory}
use Rattle.sessions.specs.State.{State}
use Rattle.session.specs.Event.{Event}
use Rattle.session.specs.Machine.{Core, IsMachineStep, IsStep, RunsAreTheMachines, before, recent_run, session_run, session_step}

due : (old : Core) (event : Event) (given : Reply) (new : Core) → IsStep old event given new → given ≢ no_memory → IsMachineStep old event given new
due old event given new (inl h) enough = h
due old event given new (inr h) enough = absurd (enough h.0)

pub runs : RunsAreTheMachines
runs old new [] [] run all = (ap (λ (c : Core). let r : List Reply × State = ([], c.state) in r) (sym run), ap (λ (c : Core). c.recent) run)
runs old new (event ∷ events) (given ∷ replies) run all =
    let d = due old event given run.0 run.1 all.0 in
    let rest = runs run.0 new events replies run.2 all.1 in (
      ap (λ s. before (session_step old.state event).0 (session_run s events)) (sym d.0.1) ∙ ap (λ r. before (session_step old.state event).0 r) rest.0 ∙ ap (λ r. before r (replies, new.state)) (sym d.0.0),
      rest.1 ∙ ap (λ s. recent_run s events run.0.recent) d.0.1 ∙ ap (λ r. recent_run (session_step old.state event).1 events r) d.1,
    )
runs old new [] (given ∷ replies) run all = absurd run
runs old new (event ∷ events) [] run all = absurd run
