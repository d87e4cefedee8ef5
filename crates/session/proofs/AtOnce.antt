-- What is asked and refused at once gives no rows.
use Rattle.std.proofs.Common.{◌≡◌, ◌∙◌, ℕ, List, true, false, Result, Ok, Err, ap}
use Rattle.value.specs.Names.{Name}
use Rattle.replies.specs.View as views
use Rattle.replies.specs.declared.reply.Reply as replies
use Rattle.engine.specs.Database.{rows_of}
use Rattle.engine.proofs.AtOnce.{refused_reply}
use Rattle.sessions.specs.AtOnce.{asked_at_once}
use Rattle.sessions.specs.Reply.{Reply, has_rows}
use Rattle.sessions.specs.State.{State}
use Rattle.session.specs.Taking.{IsAnswer}

pub no_rows : {A : Type 0} (s : State) (asked : Result (Name × List ℕ) Reply) (given : replies.Reply A) → asked_at_once s asked ≡ true → IsAnswer s asked (Ok given) → has_rows (views.reply_of given) ≡ false
no_rows s (Ok asked) given e is = let (code, same) = refused_reply s.database.catalog (rows_of s.database) asked.0 asked.1 e in ap has_rows (is ∙ same)
no_rows s (Err refusal) given e is = absurd is
