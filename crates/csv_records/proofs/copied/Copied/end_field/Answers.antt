use Rattle.std.proofs.Common.{◌++◌, ◌∷◌, [], ap, ◌∙◌}
use Rattle.csv_records.proofs.FieldFacts.{ended_field, ended_fields, ended_hold, joined_hold}
use Rattle.csv_records.proofs.copied.Copied.end_field.Goals as goal

pub invariant_of-self-in_err-push-2 : goal.invariant_of-self-in_err-push-2
invariant_of-self-in_err-push-2 c =
    rw c.in_err-push-2.ensures.items (joined_hold c.self.inside.bytes.items c.push.new.self.items 44 c.self.inside.ends.items c.in_ok-push.ensures.items c.self.invariant)

pub invariant_of-self-2 : goal.invariant_of-self-2
invariant_of-self-2 c =
    ended_hold c.self.inside.bytes.items c.push.new.self.items 44 c.self.inside.ends.items c.push-2.new.self.items c.in_ok-push.ensures.items
    (c.in_ok-push-2.ensures.items ∙ ap (λ n. c.self.inside.ends.items ++ n ∷ []) (c.len-end.ensures ∙ c.self.inside.bytes.ok.0)) c.self.invariant

pub returns-clause-fields : goal.returns-clause-fields
returns-clause-fields c =
    ended_fields c.self.inside.bytes.items c.push.new.self.items 44 c.self.inside.ends.items c.push-2.new.self.items c.in_ok-push.ensures.items
    (c.in_ok-push-2.ensures.items ∙ ap (λ n. c.self.inside.ends.items ++ n ∷ []) (c.len-end.ensures ∙ c.self.inside.bytes.ok.0)) c.self.invariant
    ∙ ap (λ p. p.fields ++ p.field ∷ []) c.self.view_is

pub returns-clause-field : goal.returns-clause-field
returns-clause-field c =
    ended_field c.self.inside.bytes.items c.push.new.self.items 44 c.self.inside.ends.items c.push-2.new.self.items c.in_ok-push.ensures.items
    (c.in_ok-push-2.ensures.items ∙ ap (λ n. c.self.inside.ends.items ++ n ∷ []) (c.len-end.ensures ∙ c.self.inside.bytes.ok.0))
