-- The rows of a change that were sent, with its status.
use Rattle.std.proofs.Common.{◌≡◌, zero, suc, Bool, true, false, ℕ, List, Option, inl, inr, refl, subst, arith}
use Rattle.std.specs.Prelude.{◌⊎◌}
use Rattle.output.specs.Sent.{IsSent}
use Rattle.replies.specs.Reply.{Reply, no_memory, reply_status}
use Rattle.setup.specs.Rights.{changes_status, status_after}

module _ {old new : Option (List ℕ)} {failures after : ℕ} {line : List ℕ} where
  opened : (opens : Bool) (due : List ℕ) → IsSent old new failures after 0 0 due line → IsSent old new failures after (changes_status opens) (changes_status opens) due line
  opened false due s = s
  opened true due s = record {
    answered = λ enough good. (refl, (s.answered (λ e. absurd (omega (arith, e))) (λ e. absurd (omega (arith, e)))).1);
    memory = λ e. absurd (omega (arith, e));
    failed = λ e. absurd (omega (arith, e));
    fine = λ good. s.fine (λ e. absurd (omega (arith, e)));
    beginning = λ bad. absurd (omega (arith, bad));
  }

  failing : (status due_status : ℕ) (due : List ℕ) → IsSent old new failures after (suc status) 0 due line → IsSent old new failures after (suc status) due_status due line
  failing status due_status due s = record {
    answered = λ enough good. let same = (s.answered enough good).0 in absurd (omega (arith, same));
    memory = s.memory;
    failed = s.failed;
    fine = s.fine;
    beginning = s.beginning;
  }

  pub sent_changes : (status : ℕ) (given opens : Bool) (due : List ℕ) → (status ≡ 0 → given ≡ opens) → IsSent old new failures after status 0 due line → IsSent old new failures after (status_after given status) (changes_status opens) due line
  sent_changes zero given opens due same s = subst (λ b. IsSent old new failures after (changes_status given) (changes_status b) due line) (same refl) (opened given due s)
  sent_changes (suc status) given opens due same s = failing status (changes_status opens) due s

  -- where rows were written memory did not run out
  pub agrees : (text : Reply → List ℕ) (reply due : Reply) (status : ℕ) (given opens : Bool) → ((reply ≡ due) × (given ≡ opens)) ⊎ (reply ≡ no_memory)
      → IsSent old new failures after status (reply_status reply) (text reply) line → status ≡ 0 → given ≡ opens
  agrees text reply due status given opens (inl h) s is = h.1
  agrees text reply due status given opens (inr e) s is =
      let same = (s.answered (λ bad. absurd (omega (arith, is, bad))) (λ bad. absurd (omega (arith, is, bad)))).0 in
      let seven : reply_status reply ≡ 7 = rw e refl in
      absurd (omega (arith, is, same, seven))

pub is_reply : (reply due : Reply) (given opens : Bool) → ((reply ≡ due) × (given ≡ opens)) ⊎ (reply ≡ no_memory) → (reply ≡ due) ⊎ (reply ≡ no_memory)
is_reply reply due given opens (inl h) = inl h.0
is_reply reply due given opens (inr e) = inr e
