-- What was sent of a reply that is given was sent of the reply that is due.
use Rattle.std.proofs.Common.{◌≡◌, ◌≢◌, ◌∙◌, ℕ, List, Option, inl, inr, ap, subst}
use Rattle.output.specs.Sent.{IsSent}
use Rattle.output.specs.Taken.{Begins}
use Rattle.replies.specs.Reply.{Reply, no_memory, reply_status}
use Rattle.replies.specs.ReplyText.{reply_text}
use Rattle.engine.specs.Serving.{IsReply, IsWhole}

module _ {old new : Option (List ℕ)} {failures after status : ℕ} (text : Reply → List ℕ) where
  pub due_sent : (given due : Reply) → IsReply given due → IsSent old new failures after status (reply_status given) (text given) (text no_memory) → IsSent old new failures after status (reply_status due) (text due) (text no_memory)
  due_sent given due (inl e) s = subst (λ r. IsSent old new failures after status (reply_status r) (text r) (text no_memory)) e s
  due_sent given due (inr e) s = record {
    answered = λ enough good. absurd (enough ((s.answered enough good).0 ∙ ap reply_status e));
    memory = s.memory;
    failed = s.failed;
    fine = s.fine;
    beginning = λ bad. inr (elim (s.beginning bad) [ inl b ↦ subst (Begins old new) (ap text e) b | inr b ↦ b ]);
  }

-- an equal reply went out whole
pub other_whole : {old new : Option (List ℕ)} {failures after status : ℕ} {line : List ℕ} (due other : Reply) → due ≡ other → IsSent old new failures after status (reply_status due) (reply_text due) line
    → status ≢ 7 → status ≢ 8 → IsWhole old new status other
other_whole {old = old} {new = new} {status = status} due other same s enough good = subst (IsWhole old new status) same (s.answered enough good)
