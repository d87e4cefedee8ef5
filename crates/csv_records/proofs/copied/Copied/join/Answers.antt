use Rattle.std.proofs.Common.{◌++◌, ◌∷◌, [], ap, ◌∙◌}
use Rattle.csv_records.proofs.FieldFacts.{joined_field, joined_fields, joined_hold}
use Rattle.csv_records.proofs.copied.Copied.join.Goals as goal

pub invariant_of-self-2 : goal.invariant_of-self-2
invariant_of-self-2 c = joined_hold c.self.inside.bytes.items c.push.new.self.items c.args.byte c.self.inside.ends.items c.in_ok-push.ensures.items c.self.invariant

pub returns-clause-fields : goal.returns-clause-fields
returns-clause-fields c = joined_fields c.self.inside.bytes.items c.push.new.self.items c.args.byte c.self.inside.ends.items c.in_ok-push.ensures.items c.self.invariant ∙ ap (λ p. p.fields) c.self.view_is

pub returns-clause-field : goal.returns-clause-field
returns-clause-field c =
    joined_field c.self.inside.bytes.items c.push.new.self.items c.args.byte c.self.inside.ends.items c.in_ok-push.ensures.items c.self.invariant ∙ ap (λ p. p.field ++ c.args.byte ∷ []) c.self.view_is
