-- The views of the Rust results of analysis as spec data.
use Rattle.std.specs.Prelude.{Result, Ok, Err}
use Rattle.row_ast.specs.Ast.{Query}
use Rattle.row_ast.specs.View.{query_of}
use Rattle.row_ast.specs.declared.query.Query as ast
use Rattle.resolve.specs.Resolved.{Bound}
use Rattle.resolve.specs.View.{bound_of}
use Rattle.resolve.specs.declared.resolved.Bound as resolve
use Rattle.replies.specs.Reply.{Reply}
use Rattle.replies.specs.View.{reply_of}
use Rattle.replies.specs.declared.reply.Reply as replies

abbrev pub read_of : {A : Type 0} → Result (ast.Query A) (replies.Reply A) → Result Query Reply
read_of (Ok query) = Ok (query_of query)
read_of (Err reply) = Err (reply_of reply)

abbrev pub admitted_of : {A : Type 0} → Result (resolve.Bound A) (replies.Reply A) → Result Bound Reply
admitted_of (Ok bound) = Ok (bound_of bound)
admitted_of (Err reply) = Err (reply_of reply)
