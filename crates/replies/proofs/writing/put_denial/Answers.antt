use Rattle.std.proofs.Common.{◌≡◌, [], ◌∷◌, ◌++◌, List, ℕ, Some, ap, append_assoc, codes, subst}
use Rattle.replies.specs.Buffered.{Puts}
use Rattle.replies.specs.Reply.{Denied}
use Rattle.replies.specs.ReplyText.{reply_text}
use Rattle.replies.proofs.writing.put_denial.Goals as goal

pub returns-in-None : goal.returns-in-None
returns-in-None g c = rw c.in-None.is c.put_all.ensures

parts : (column table : List ℕ) → column ++ (codes " of table " ++ (table ++ 10 ∷ [])) ≡ column ++ codes " of " ++ codes "table " ++ table ++ 10 ∷ []
parts column table = simp append_assoc

denied_column : (column table : List ℕ) → codes "denied 42501 column " ++ (column ++ (codes " of table " ++ (table ++ 10 ∷ []))) ≡ reply_text (Denied (Some column) table)
denied_column column table = ap (λ t. codes "denied 42501 column " ++ t) (parts column table)

pub returns-in-Some : goal.returns-in-Some
returns-in-Some g c =
    let put = rw c.as_str-column.ensures at c.put_all-in-Some.ensures in
    rw c.in-Some.is
    (subst (λ t. Puts g.W.Out.taken g.W.Out.failures c.args.out.now c.put_all-in-Some.new.out c.args.buffer.now.items c.put_all-in-Some.new.buffer.items t c.put_all-in-Some.result) (denied_column c.in-Some.column c.args.table.now) put)
