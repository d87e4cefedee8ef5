use Rattle.std.proofs.Common.{[], ◌∷◌, ◌++◌, ◌∙◌, ap, append_assoc, flat_map, refl, sym}
use Rattle.value.specs.Datum.{datum_of}
use Rattle.replies.specs.ReplyText.{field_text, line_text}
use Rattle.replies.proofs.Puts.{after, failed, stops, then}
use Rattle.replies.proofs.writing.put_line.Goals as goal

pub returns-in_err-put_field : goal.returns-in_err-put_field
returns-in_err-put_field g c =
    let whole = ap line_text (sym c.in-Some.ensures.some) in
    let others = flat_map (λ e. 44 ∷ field_text e) c.in-Some.others in
    failed c.put_field.new.buffer.items c.from_residual.result c.from_residual.ensures.0 (stops c.in_err-put_field.ensures (others ++ 10 ∷ []) _ (sym (append_assoc (field_text (datum_of c.in-Some.first)) others (10 ∷ [])) ∙ whole))

pub returns-in_err-put_further_fields : goal.returns-in_err-put_further_fields
returns-in_err-put_further_fields g c =
    let whole = ap line_text (sym c.in-Some.ensures.some) in
    let r = c.from_residual-in_err-put_further_fields in
    failed c.put_further_fields.new.buffer.items r.result r.ensures.0 (stops (after c.in_ok-put_field.ensures c.in_err-put_further_fields.ensures _ refl) (10 ∷ []) _ whole)

pub returns-in_err-put : goal.returns-in_err-put
returns-in_err-put g c =
    let whole = ap line_text (sym c.in-Some.ensures.some) in
    let r = c.from_residual-in_err-put in
    failed c.put-2.new.buffer.items r.result r.ensures.0 (after (then c.in_ok-put_field.ensures c.in_ok-put_further_fields.ensures _ refl) c.in_err-put.ensures _ whole)

pub returns : goal.returns
returns g c =
    let whole = ap line_text (sym c.in-Some.ensures.some) in then (then c.in_ok-put_field.ensures c.in_ok-put_further_fields.ensures _ refl) c.in_ok-put.ensures _ whole
