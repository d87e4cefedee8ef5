-- The reply to a text that is refused at once.
use Rattle.std.proofs.Common.{◌≡◌, ℕ, true, List, None, ap}
use Rattle.value.specs.Names.{Name}
use Rattle.value.specs.declared.refusal.Refusal.{Refusal}
use Rattle.memory.specs.Results.{and_then}
use Rattle.catalog.specs.Catalog.{Catalog}
use Rattle.replies.specs.Reply.{Refused}
use Rattle.store.specs.Database.{Rows}
use Rattle.analysis.specs.Analysis.{admitted_query, is_refused_at_once}
use Rattle.analysis.proofs.Admitted.{refused_at_once}
use Rattle.engine.specs.Answer.{admitted_reply, reply_to}

pub refused_reply : (cat : Catalog) (rows : Rows) (role : Name) (text : List ℕ) → is_refused_at_once cat role text ≡ true → (code : Refusal) × (reply_to cat rows role text ≡ Refused code None)
refused_reply cat rows role text e = let (code, read) = refused_at_once cat role text e in (code, ap (λ r. admitted_reply cat rows role (and_then r (admitted_query cat role))) read)
