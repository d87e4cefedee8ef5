use Rattle.std.proofs.Common.{◌≡◌, ℕ, ◌-◌, ◌<◌, List, length, map, get_or, drop, refl, sym, drop-cons}
use Rattle.std.proofs.lemmas.Bool.{ltb-true}
use Rattle.std.proofs.lemmas.List.{length-map, drop-map}
use Rattle.row_tokens.specs.declared.token.Token.{Token as Lexed}
use Rattle.row_tokens.specs.View.{word_of}
use Rattle.row_tokens.specs.Tokens.{Token, words}
use Rattle.syntax.specs.Parsing.{at_of}
use Rattle.syntax.proofs.parse.offset_of.Goals as goal

at_drop : (end : ℕ) (ts : List Lexed) (k : ℕ) (t : Lexed) → k < length ts → t ≡ get_or ts k t → t.offset ≡ at_of end (drop k (map word_of ts))
at_drop end ts k t l e = rw (drop-map word_of k ts, drop-cons ts k t l, ← e) refl

at_place : (end : ℕ) (ts : List Lexed) (ws : List Token) (n k : ℕ) (t : Lexed) → map word_of ts ≡ ws → k ≡ length ts - n → k < length ts → t ≡ get_or ts k t → t.offset ≡ at_of end (drop (length ws - n) ws)
at_place end ts ws n k t s q l e = rw (← s, length-map ts word_of, ← q) (at_drop end ts k t l e)

pub returns-in-Some : goal.returns-in-Some
returns-in-Some c = at_place (length c.args.text.now) c.args.tokens.now (words c.args.text.now) c.args.left c.saturating_sub.result c.in-Some.token.now c.requires.scanned c.saturating_sub.ensures (ltb-true _ _ (sym c.in-Some.ensures.lookup.0)) c.in-Some.ensures.lookup.1
