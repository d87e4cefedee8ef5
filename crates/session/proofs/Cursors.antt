-- The step that makes a cursor.
use Rattle.std.proofs.Common.{◌≡◌, ◌∙◌, inr, ℕ, List, Result, Ok, Err, refl, sym, subst, ap}
use Rattle.std.specs.Result.{result_ok}
use Rattle.value.specs.Names.{Name}
use Rattle.replies.specs.View as views
use Rattle.replies.specs.declared.reply.Reply as replies
use Rattle.shared_plans.specs.Recent.{Recent}
use Rattle.sessions.specs.State.{State}
use Rattle.sessions.specs.Reply.{Reply}
use Rattle.sessions.specs.View.{reply_of}
use Rattle.sessions.specs.declared.reply.Reply as declared
use Rattle.sessions.specs.Events.{declare_text, keep}
use Rattle.sessions.specs.Taking.{IsTaken, Takes}
use Rattle.session.specs.Event.{Declare}
use Rattle.session.specs.Machine.{declare, kept, recent_after_asked}
use Rattle.session.specs.Taking.{IsAnswer, TakesEvent}

module _ (s : State) (n : ℕ) (name : Name) (text : List ℕ) where
  -- what the reply makes is the machine's
  stated : {A : Type 0} (asked : Result (Name × List ℕ) Reply) → declare_text s n name text ≡ asked → (given : replies.Reply A) → IsAnswer s asked (Ok given) → keep s n name (views.reply_of given) ≡ declare s n name text
  stated (Ok asked) is given h = ap (keep s n name) h ∙ sym (ap (kept s n name) is)
  stated (Err refusal) is given h = absurd h

  pub cursor_made : {A B E : Type 0} (given : replies.Reply A) (old recent : Recent) (new : State) (r : Result (declared.Reply B) E) → IsAnswer s (declare_text s n name text) (Ok given) → recent ≡ recent_after_asked s old (result_ok (declare_text s n name text))
      → Takes (keep s n name (views.reply_of given)) s new r → TakesEvent (record { state = s; recent = old }) (record { state = new; recent = recent }) (Declare n name text) r
  cursor_made given old recent new (Ok reply) h looked takes = (subst (λ x. IsTaken x s new (reply_of reply)) (stated (declare_text s n name text) refl given h) takes, looked)
  cursor_made given old recent new (Err e) h looked takes = (takes, inr looked)
