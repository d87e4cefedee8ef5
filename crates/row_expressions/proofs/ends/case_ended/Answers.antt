use Rattle.std.proofs.Common.{◌≡◌, ℕ, List, Ok, Err, refl, sym, ap, ◌∙◌}
use Rattle.std.specs.Prelude.{Result, Box, IfOk}
use denote.Ref.{Bor}
use Rattle.memory.specs.Gives.{Gives}
use Rattle.row_ast.specs.Ast.{Expr}
use Rattle.row_ast.specs.View.{expr_of}
use Rattle.row_ast.specs.declared.expr.Expr.{Expr as Tree}
use Rattle.row_grammar.specs.Decoder.{Outcome}
use Rattle.row_reader.specs.Language.{Located}
use Rattle.row_reader.specs.Reading.{starting_at}
use Rattle.row_tokens.specs.Tokens.{Token}
use Rattle.row_tokens.specs.View.{words_of}
use Rattle.row_tokens.specs.declared.token.Token.{Token as Lexed}
use Rattle.row_expressions.specs.View.{located}
use Rattle.row_expressions.proofs.ends.case_ended.Goals as goal

-- the expression made at the end
placed : {A F : Type 0} (start : ℕ) (made : Result (Box (Tree A) A) F) (rest : Bor (List Lexed)) (whole : Expr) (due : Outcome Token Located) → IfOk made (λ e. expr_of e.value ≡ whole) → due ≡ Ok ((start, whole), words_of rest.now)
    → Gives (λ x. (located x.0, words_of x.1.now)) (starting_at start made rest) due
placed start (Ok e) rest whole due h r = r ∙ ap (λ (x : Expr). let o : Outcome Token Located = Ok ((start, x), words_of rest.now) in o) (sym h)
placed start (Err e) rest whole due h r = tt

pub returns : goal.returns
returns g c = rw (c.in_ok-other.was, c.starting_at.ensures) (placed c.args.offset c.case_of.result c.in_ok-rest.rest _ _ c.case_of.ensures (rw c.in_ok-rest.ensures refl))
