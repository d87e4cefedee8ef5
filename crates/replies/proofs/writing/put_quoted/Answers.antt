use Rattle.std.proofs.Common.{◌≡◌, [], ◌∷◌, ◌++◌, List, ℕ, true, ap, cond, flat_map, refl}
use Rattle.replies.specs.ReplyText.{doubled, needs_quotes, quoted_text}
use Rattle.replies.proofs.Puts.{after, failed, stops, then}
use Rattle.replies.proofs.writing.put_quoted.Goals as goal

in_quotes : (bytes : List ℕ) → true ≡ needs_quotes bytes → (34 ∷ flat_map doubled bytes) ++ 34 ∷ [] ≡ quoted_text bytes
in_quotes bytes e = ap (λ b. cond b (34 ∷ flat_map doubled bytes ++ 34 ∷ []) bytes) e

pub returns-in_err-put_doubled : goal.returns-in_err-put_doubled
returns-in_err-put_doubled g c =
    let r = c.from_residual-in_err-put_doubled in
    let s = after c.in_ok-put.ensures c.in_err-put_doubled.ensures _ refl in
    failed c.put_doubled.new.buffer.items r.result r.ensures.0 (stops s (34 ∷ []) _ (in_quotes c.args.bytes.now c.if-not-wants_quotes.ensures))

pub returns-in_err-put-2 : goal.returns-in_err-put-2
returns-in_err-put-2 g c =
    let r = c.from_residual-in_err-put-2 in
    let p = then c.in_ok-put.ensures c.in_ok-put_doubled.ensures _ refl in
    failed c.put-3.new.buffer.items r.result r.ensures.0 (after p c.in_err-put-2.ensures _ (in_quotes c.args.bytes.now c.if-not-wants_quotes.ensures))

pub returns : goal.returns
returns g c =
    let p = then c.in_ok-put.ensures c.in_ok-put_doubled.ensures _ refl in then p c.in_ok-put-2.ensures _ (in_quotes c.args.bytes.now c.if-not-wants_quotes.ensures)
