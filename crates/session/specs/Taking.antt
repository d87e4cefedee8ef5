-- The contracts of calls that ask, and that take an event.
use Rattle.std.specs.Prelude.{◌≡◌, ◌⊎◌, ℕ, List, Result, Ok, Err}
use Rattle.std.specs.Result.{result_ok}
use Rattle.value.specs.Names.{Name}
use Rattle.value.specs.declared.refusal.Refusal.{Refusal}
use Rattle.replies.specs.View as engine
use Rattle.replies.specs.declared.reply.Reply as replies
use Rattle.descriptions.specs.Descriptions.{described}
use Rattle.engine.specs.Resolved.{Bound}
use Rattle.engine.specs.Answer.{reply_to}
use Rattle.engine.specs.Database.{Database, rows_of}
use Rattle.engine.specs.Plans.{Plan}
use Rattle.shared_plans.specs.Recent.{Plans, Recent, looked_up, recent_of}
use Rattle.sessions.specs.State.{State}
use Rattle.sessions.specs.Reply.{Reply, refused_by}
use Rattle.sessions.specs.View.{reply_of}
use Rattle.sessions.specs.declared.reply.Reply as declared
use Rattle.session.specs.Event.{Event}
use Rattle.session.specs.Kept.{AreKept, IsReady}
use Rattle.session.specs.Machine.{Core, IsMachineStep, present_key, recent_after, recent_after_asked, recent_asked, reply_in}

-- the keys are these, or still the old ones
abbrev pub MayBe : Recent → Recent → Recent → Type 0
MayBe old after new = (new ≡ old) ⊎ (new ≡ after)

-- the key of a role's text was looked up, and the plan that was last used is that of its bound query
abbrev pub Readied : Database → ℕ → Name → List ℕ → Bound → Plans Plan → Plans Plan → Type 0
Readied database loads role text b old new =
    IsReady database role b new.entries × (recent_of new ≡ looked_up (present_key database loads role text) (recent_of old)) × AreKept database loads new.entries

-- the reply to a role's text, whose key was looked up; where memory runs out, it may have been
abbrev pub Replies : {A E : Type 0} → Database → ℕ → Name → List ℕ → Plans Plan → Plans Plan → Result (replies.Reply A) E → Type 0
Replies database loads role text old new (Ok reply) = (engine.reply_of reply ≡ reply_to database.catalog (rows_of database) role text) × (recent_of new ≡ recent_asked database loads role text (recent_of old))
Replies database loads role text old new (Err e) = MayBe (recent_of old) (recent_asked database loads role text (recent_of old)) (recent_of new)

-- the reply to the role and the text that a session asks, or why it asks nothing
abbrev pub IsAnswer : {A : Type 0} → State → Result (Name × List ℕ) Reply → Result (replies.Reply A) Refusal → Type 0
IsAnswer s (Ok asked) (Ok reply) = engine.reply_of reply ≡ reply_in s asked
IsAnswer s (Ok asked) (Err code) = ⊥
IsAnswer s (Err refusal) (Ok reply) = ⊥
IsAnswer s (Err refusal) (Err code) = refusal ≡ refused_by code

-- the names and types of the columns of the text that a session asks about, or why it asks nothing
abbrev pub IsDescription : {A : Type 0} → State → Result (Name × List ℕ) Reply → Result (replies.Reply A) Refusal → Type 0
IsDescription s (Ok asked) (Ok reply) = engine.reply_of reply ≡ described s.database.catalog asked.0 asked.1
IsDescription s (Ok asked) (Err code) = ⊥
IsDescription s (Err refusal) (Ok reply) = ⊥
IsDescription s (Err refusal) (Err code) = refusal ≡ refused_by code

-- an answer, and the key was looked up; where memory runs out, it may have been
abbrev pub Answers : {A E : Type 0} → State → Result (Name × List ℕ) Reply → Recent → Recent → Result (Result (replies.Reply A) Refusal) E → Type 0
Answers s asked old new (Ok answer) = IsAnswer s asked answer × (new ≡ recent_after_asked s old (result_ok asked))
Answers s asked old new (Err e) = MayBe old (recent_after_asked s old (result_ok asked)) new

-- a step of an event; where memory runs out in the call, the state is as it was
abbrev pub TakesEvent : {A E : Type 0} → Core → Core → Event → Result (declared.Reply A) E → Type 0
TakesEvent old new event (Ok reply) = IsMachineStep old event (reply_of reply) new
TakesEvent old new event (Err e) = (new.state ≡ old.state) × MayBe old.recent (recent_after old.state event old.recent) new.recent
