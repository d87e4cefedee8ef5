-- What an admitted query was read and bound from.
use Rattle.std.proofs.Common.{◌≡◌, ℕ, nat_lt, Bool, true, false, not, ◌||◌, if◌then◌else◌, List, length, Option, Some, None, Result, Ok, Err, refl, ap}
use Rattle.memory.proofs.Cases.{ok_is}
use Rattle.value.specs.Names.{Name}
use Rattle.value.specs.declared.refusal.Refusal.{Refusal}
use Rattle.value.specs.declared.refusal.Refusal.TheVariants as r
use Rattle.row_ast.specs.Ast.{Query}
use Rattle.syntax.specs.Parsing.{parsed_query, query_bytes}
use Rattle.syntax.specs.declared.error.ParseError.{ParseError}
use Rattle.syntax.proofs.TextAnswer.{query_too_long}
use Rattle.catalog.specs.Catalog.{Catalog, is_role}
use Rattle.access.specs.Access.{RequiredPrivilege}
use Rattle.resolve.specs.Resolved.{Bound}
use Rattle.replies.specs.Reply as reply
use Rattle.replies.specs.Reply.{Reply}
use Rattle.analysis.specs.Analysis.{is_refused_at_once, query_read, unless_denied, unless_refused}

-- a query that is read is that of the text
pub was_parsed : (b : Bool) (r : Result Query ParseError) (refusal : Reply) (q : Query) → (if b then unless_refused r else Err refusal) ≡ Ok q → r ≡ Ok q
was_parsed true (Ok p) refusal q e = ap Ok (ok_is p q e)
was_parsed true (Err error) refusal q e = absurd (cc)
was_parsed false r refusal q e = absurd (cc)

pub not_denied : (b c : Bound) (o : Option RequiredPrivilege) → unless_denied b o ≡ Ok c → b ≡ c
not_denied b c None e = ok_is b c e
not_denied b c (Some privilege) e = absurd (cc)

-- what is refused at once is refused by a code alone
pub refused_at_once : (cat : Catalog) (role : Name) (text : List ℕ) → is_refused_at_once cat role text ≡ true → (code : Refusal) × (query_read cat role text ≡ Err (reply.Refused code None))
refused_at_once cat role text e = go (is_role cat role) e
  where
    go : (b : Bool) → (not b || nat_lt query_bytes (length text)) ≡ true → (code : Refusal) × ((if b then unless_refused (parsed_query text) else Err (reply.Refused r.UndefinedObject None)) ≡ Err (reply.Refused code None))
    go false e = (r.UndefinedObject, refl)
    go true e = (r.ProgramLimitExceeded, ap unless_refused (query_too_long text e))
