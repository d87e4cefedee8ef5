use Rattle.std.proofs.Common.{[], ◌∷◌, ◌++◌, ◌∙◌, ap, append_assoc, flat_map, map, refl, sym}
use Rattle.value.specs.Datum.{text}
use Rattle.replies.specs.ReplyText.{field_text, line_text, quoted_text}
use Rattle.replies.proofs.Puts.{after, failed, stops, then}
use Rattle.replies.proofs.writing.put_header.Goals as goal

pub returns-in_err-put_quoted : goal.returns-in_err-put_quoted
returns-in_err-put_quoted g c =
    let whole = ap (λ t. line_text (map text t)) (sym c.in-Some.ensures.cases.0) in
    let others = flat_map (λ e. 44 ∷ field_text e) (map text c.in-Some.others.now) in
    let s = rw (c.as_bytes.ensures.value, c.as_str.ensures) at c.in_err-put_quoted.ensures in
    failed c.put_quoted.new.buffer.items c.from_residual.result c.from_residual.ensures.0 (stops s (others ++ 10 ∷ []) _ (sym (append_assoc (quoted_text c.in-Some.first.now) others (10 ∷ [])) ∙ whole))

pub returns-in_err-put_further_names : goal.returns-in_err-put_further_names
returns-in_err-put_further_names g c =
    let whole = ap (λ t. line_text (map text t)) (sym c.in-Some.ensures.cases.0) in
    let p = rw (c.as_bytes.ensures.value, c.as_str.ensures) at c.in_ok-put_quoted.ensures in
    let r = c.from_residual-in_err-put_further_names in
    failed c.put_further_names.new.buffer.items r.result r.ensures.0 (stops (after p c.in_err-put_further_names.ensures _ refl) (10 ∷ []) _ whole)

pub returns-in_err-put : goal.returns-in_err-put
returns-in_err-put g c =
    let whole = ap (λ t. line_text (map text t)) (sym c.in-Some.ensures.cases.0) in
    let p = rw (c.as_bytes.ensures.value, c.as_str.ensures) at c.in_ok-put_quoted.ensures in
    let r = c.from_residual-in_err-put in
    failed c.put-2.new.buffer.items r.result r.ensures.0 (after (then p c.in_ok-put_further_names.ensures _ refl) c.in_err-put.ensures _ whole)

pub returns : goal.returns
returns g c =
    let whole = ap (λ t. line_text (map text t)) (sym c.in-Some.ensures.cases.0) in
    let p = rw (c.as_bytes.ensures.value, c.as_str.ensures) at c.in_ok-put_quoted.ensures in
    then (then p c.in_ok-put_further_names.ensures _ refl) c.in_ok-put.ensures _ whole
