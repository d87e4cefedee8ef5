-- The status of out of memory.
use Rattle.std.proofs.Common.{◌≡◌, Some, None, refl, ap, arith}
use Rattle.value.specs.declared.refusal.Refusal.{Refusal}
use Rattle.value.specs.declared.refusal.Refusal.TheVariants as r
use Rattle.replies.specs.Reply.{Reply, Refused, Denied, Faulted, Rows, no_memory, refusal_status, reply_status}

only_out_of_memory : (code : Refusal) → refusal_status code ≡ 7 → code ≡ r.OutOfMemory
only_out_of_memory r.OutOfMemory is = refl
only_out_of_memory r.UndefinedObject is = absurd (omega arith)
only_out_of_memory _ is = absurd (omega arith)

-- a reply of that status is that one
pub only_no_memory : (reply : Reply) → reply_status reply ≡ 7 → reply ≡ no_memory
only_no_memory (Refused code (Some offset)) is = absurd (omega arith)
only_no_memory (Refused code None) is = ap (λ (c : Refusal). Refused c None) (only_out_of_memory code is)
only_no_memory (Denied column table) is = absurd (omega arith)
only_no_memory (Faulted fault) is = absurd (omega arith)
only_no_memory (Rows headings rows) is = absurd (omega arith)
