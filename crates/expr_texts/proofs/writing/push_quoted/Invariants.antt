use Rattle.std.proofs.Common.{◌≡◌, ◌++◌, ◌∷◌, flat_map, drop}
use Rattle.row_tokens.specs.Tokens.{doubled_quote}
use Rattle.expr_texts.proofs.writing.push_quoted.Given as goal

abbrev pub invariant-loop-b : goal.invariant-loop-b
invariant-loop-b g l = l.out.items ++ flat_map doubled_quote (drop l.b-index l.text) ≡ l.fn.out.items ++ 39 ∷ flat_map doubled_quote l.text
