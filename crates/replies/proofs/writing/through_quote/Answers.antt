use Rattle.std.proofs.Common.{◌≡◌, ◌+◌, ◌<◌, ◌++◌, ◌∷◌, ℕ, List, [], flat_map, get_or, length, take, drop, ap, sym, append_assoc, arith, ◌∙◌}
use Rattle.std.proofs.lemmas.Grind.{flat_map-append}
use Rattle.std.proofs.lemmas.List.{drop_more, take-append-drop, take_more}
use Rattle.replies.specs.ReplyText.{doubled}
use Rattle.replies.proofs.writing.through_quote.Goals as goal

before_quote : (bytes : List ℕ) (i : ℕ) → i < length bytes → get_or bytes i 0 ≡ 34 → flat_map doubled (take i bytes) ≡ take i bytes → flat_map doubled bytes ≡ take (i + 1) bytes ++ 34 ∷ flat_map doubled (drop (i + 1) bytes)
before_quote bytes i h q plain =
    ap (flat_map doubled) (sym (take-append-drop i bytes)) ∙ flat_map-append doubled (take i bytes) (drop i bytes) ∙ ap (λ t. t ++ flat_map doubled (drop i bytes)) plain
    ∙ ap (λ t. take i bytes ++ flat_map doubled t) (drop_more bytes i 0 h ∙ ap (λ b. b ∷ drop (i + 1) bytes) q) ∙ sym (append_assoc (take i bytes) (34 ∷ []) (34 ∷ flat_map doubled (drop (i + 1) bytes)))
    ∙ ap (λ t. t ++ 34 ∷ flat_map doubled (drop (i + 1) bytes)) (sym (take_more bytes i 0 h ∙ ap (λ b. take i bytes ++ b ∷ []) q))

pub returns-then-b-eq34-clause-some : goal.returns-then-b-eq34-clause-some
returns-then-b-eq34-clause-some c = (omega arith, omega arith, before_quote c.args.bytes.now c.loop-i.i c.loop-i-test.true c.if-b-eq34.true c.loop-i.invariant)
