use Rattle.std.proofs.Common.{◌≡◌, drop}
use Rattle.row_tokens.specs.View.{words_of}
use Rattle.diagnostics.specs.Statements.{offset_among}
use Rattle.diagnostics.proofs.statements.offset_among.Given as goal

abbrev pub invariant-loop-token : goal.invariant-loop-token
invariant-loop-token l = offset_among l.left (words_of (drop l.token-index l.tokens)) ≡ offset_among l.fn.number (words_of l.tokens)
