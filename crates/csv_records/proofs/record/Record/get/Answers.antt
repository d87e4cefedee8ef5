use Rattle.std.proofs.Common.{Some, ◌∙◌, sym, ap, get_or, arith}
use Rattle.std.specs.List.{slice_get, slice_range}
use Rattle.csv_records.proofs.FieldFacts.{field_at, field_within, no_field_at}
use Rattle.csv_records.proofs.record.Record.get.Goals as goal

pub returns-then-i-self : goal.returns-then-i-self
returns-then-i-self c =
    let old = c.self.inside in
    sym (no_field_at old.bytes.now 0 old.ends.now c.args.i c.if-i-self.true) ∙ ap (λ fs. slice_get fs c.args.i) c.self.view_is

pub start_of-requires-clause-low : goal.start_of-requires-clause-low
start_of-requires-clause-low c =
    let within = field_within _ 0 c.self.inside.ends.now c.args.i c.self.invariant c.if-i-self.false in
    omega (arith, within.0, within.1, c.self.told.0.0)

pub part-requires-clause-ordered : goal.part-requires-clause-ordered
part-requires-clause-ordered c = omega (arith, c.start_of.ensures, (field_within _ 0 c.self.inside.ends.now c.args.i c.self.invariant c.if-i-self.false).0)

pub part-requires-clause-within : goal.part-requires-clause-within
part-requires-clause-within c = (field_within _ 0 c.self.inside.ends.now c.args.i c.self.invariant c.if-i-self.false).1

pub returns : goal.returns
returns c =
    let old = c.self.inside in
    ap Some (c.part.ensures ∙ ap (λ n. slice_range old.bytes.now n (get_or old.ends.now c.args.i 0)) c.start_of.ensures)
    ∙ sym (field_at old.bytes.now 0 old.ends.now c.args.i c.if-i-self.false) ∙ ap (λ fs. slice_get fs c.args.i) c.self.view_is
