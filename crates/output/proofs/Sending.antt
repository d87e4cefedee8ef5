-- What is sent where a text was made, and where memory ran out.
use Rattle.std.proofs.Common.{ℕ, ◌≡◌, ◌≢◌, ◌∙◌, List, Option, inl, inr, sym, subst, arith}
use Rattle.std.specs.Io.KnownBytes.{Appends}
use Rattle.output.specs.Sent.{IsSent}
use Rattle.output.specs.Taken.{Begins, one_more}

-- a call of `send` with a text and its status
module _ {old new : Option (List ℕ)} {failures after : ℕ} {text : List ℕ} {status result : ℕ} (whole : result ≢ 8 → (result ≡ status) × Appends old new text)
    (failed : result ≡ 8 → after ≡ one_more failures) (fine : result ≢ 8 → after ≡ failures) (beginning : result ≡ 8 → Begins old new text) {due_status : ℕ} {due line : List ℕ} where
  -- the text was made, and the one whose status is 7 is the line
  pub text_sent : text ≡ due → status ≡ due_status → (due_status ≡ 7 → due ≡ line) → IsSent old new failures after result due_status due line
  text_sent is its only = record {
    answered = λ enough good. let sent = whole good in (sent.0 ∙ its, subst (Appends old new) is sent.1);
    memory = λ out. let sent = whole (λ bad. omega (arith, out, bad)) in subst (Appends old new) (is ∙ only (sym its ∙ sym sent.0 ∙ out)) sent.1;
    failed = failed;
    fine = fine;
    beginning = λ bad. inl (subst (Begins old new) is (beginning bad));
  }

  -- memory ran out, and the line was sent with status 7
  pub line_sent : text ≡ line → status ≡ 7 → IsSent old new failures after result due_status due line
  line_sent is seven = record {
    answered = λ enough good. absurd (enough ((whole good).0 ∙ seven));
    memory = λ out. subst (Appends old new) is (whole (λ bad. omega (arith, out, bad))).1;
    failed = failed;
    fine = fine;
    beginning = λ bad. inr (subst (Begins old new) is (beginning bad));
  }
