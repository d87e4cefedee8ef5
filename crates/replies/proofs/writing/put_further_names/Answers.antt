use Rattle.std.proofs.Common.{◌∷◌, ◌++◌, ◌∙◌, ◌+◌, ℕ, List, ap, drop, flat_map, map, sym}
use Rattle.value.specs.Datum.{text}
use Rattle.replies.specs.ReplyText.{field_text, quoted_text}
use Rattle.replies.proofs.Puts.{failed, item_on, put_more, put_stopped}
use Rattle.replies.proofs.writing.put_further_names.Goals as goal

abbrev further : List (List ℕ) → List ℕ
further names = flat_map (λ e. 44 ∷ field_text e) (map text names)

pub returns-in_err-put : goal.returns-in_err-put
returns-in_err-put g c =
    let next = item_on further c.args.names.now c.loop-name.name-index c.name-item.result c.loop-name-test.true c.name-item.is in
    failed c.put.new.buffer.items c.from_residual.result c.from_residual.ensures.0 (put_stopped c.loop-name.invariant c.in_err-put.ensures _ next)

pub returns-in_err-put_quoted : goal.returns-in_err-put_quoted
returns-in_err-put_quoted g c =
    let next = item_on further c.args.names.now c.loop-name.name-index c.name-item.result c.loop-name-test.true c.name-item.is in
    let rest = further (drop (c.loop-name.name-index + 1) c.args.names.now) in
    let same = ap (λ t. quoted_text t ++ rest) (sym (c.as_bytes.ensures.value ∙ c.as_str.ensures)) in
    let r = c.from_residual-in_err-put_quoted in
    failed c.put_quoted.new.buffer.items r.result r.ensures.0 (put_stopped (put_more c.loop-name.invariant c.in_ok-put.ensures _ next) c.in_err-put_quoted.ensures rest same)

pub loop-name-preserved : goal.loop-name-preserved
loop-name-preserved g c =
    let next = item_on further c.args.names.now c.loop-name.name-index c.name-item.result c.loop-name-test.true c.name-item.is in
    let rest = further (drop (c.loop-name.name-index + 1) c.args.names.now) in
    let same = ap (λ t. quoted_text t ++ rest) (sym (c.as_bytes.ensures.value ∙ c.as_str.ensures)) in
    put_more (put_more c.loop-name.invariant c.in_ok-put.ensures _ next) c.in_ok-put_quoted.ensures rest same
