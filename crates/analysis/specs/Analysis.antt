-- The analysis of a text before any row is read: its query is bound, or it is refused or denied.
use Rattle.std.specs.Prelude.{ℕ, Bool, not, ◌||◌, nat_lt, List, length, Option, Some, None, Result, Ok, Err, if◌then◌else◌}
use Rattle.std.specs.Result.{result_err}
use Rattle.value.specs.declared.refusal.Refusal.TheVariants as r
use Rattle.value.specs.Names.{Name}
use Rattle.row_ast.specs.Ast.{Query}
use Rattle.syntax.specs.Parsing.{parsed_query, query_bytes}
use Rattle.syntax.specs.declared.error.ParseError.{ParseError}
use Rattle.syntax.specs.declared.error.ParseError.TheVariants as parsing
use Rattle.resolve.specs.BindError.{BindError}
use Rattle.memory.specs.Results.{and_then}
use Rattle.catalog.specs.Catalog.{Catalog, is_role}
use Rattle.access.specs.Access.{RequiredPrivilege, denial}
use Rattle.access.specs.Needed.{needed}
use Rattle.resolve.specs.Resolved.{Bound, bound}
use Rattle.replies.specs.Reply as reply
use Rattle.replies.specs.Reply.{Reply}

-- ---- the role and the grammar

abbrev pub refused_text : ParseError → Reply
refused_text (parsing.Syntax offset) = reply.Refused r.SyntaxError (Some offset)
refused_text parsing.Limit = reply.Refused r.ProgramLimitExceeded None

abbrev pub unless_refused : Result Query ParseError → Result Query Reply
unless_refused (Err e) = Err (refused_text e)
unless_refused (Ok q) = Ok q

abbrev pub query_read : Catalog → Name → List ℕ → Result Query Reply
query_read cat role text = if is_role cat role then unless_refused (parsed_query text) else Err (reply.Refused r.UndefinedObject None)

-- there is no such role, or the text is too long: the text is refused before memory is asked for
abbrev pub is_refused_at_once : Catalog → Name → List ℕ → Bool
is_refused_at_once cat role text = not (is_role cat role) || nat_lt query_bytes (length text)

-- ---- the names, aggregates, types and keys, and the required privileges

abbrev pub denied_reply : RequiredPrivilege → Reply
denied_reply privilege = reply.Denied privilege.column privilege.table.name

abbrev pub unless_denied : Bound → Option RequiredPrivilege → Result Bound Reply
unless_denied b (Some privilege) = Err (denied_reply privilege)
unless_denied b None = Ok b

abbrev pub permitted : Catalog → Name → Result Bound BindError → Result Bound Reply
permitted cat role (Err e) = Err (reply.Refused e.code (Some e.offset))
permitted cat role (Ok b) = unless_denied b (denial cat role (needed b.entries b.query))

abbrev pub admitted_query : Catalog → Name → Query → Result Bound Reply
admitted_query cat role q = permitted cat role (bound cat q)

-- ---- all of it

-- the bound query of a role's text, or its refusal or denial
abbrev pub admitted : Catalog → Name → List ℕ → Result Bound Reply
admitted cat role text = and_then (query_read cat role text) (admitted_query cat role)

-- the refusal or denial, if there is one
abbrev pub refusal_to : Catalog → Name → List ℕ → Option Reply
refusal_to cat role text = result_err (admitted cat role text)
