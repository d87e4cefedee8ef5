use Rattle.std.proofs.Common.{subst, sym, ◌∙◌}
use Rattle.memory.proofs.Cases.{at_err}
use Rattle.store.specs.Derived.{AreDerived}
use Rattle.store.specs.Loads.{due_rows}
use Rattle.store.proofs.Derivations.{first_kept}
use Rattle.store.proofs.stored.Stored.append.Goals as goal

pub derive_anew-requires : goal.derive_anew-requires
derive_anew-requires g c =
    let old = c.args.self.now in
    let h = c.in_ok-append.ensures in
    subst (λ t. AreDerived t old.indexes.items)
    (sym (first_kept old.contents c.append.new.self c.rows-before.result (due_rows old.contents h.some_records.0) c.rows-before.ensures.rows h.columns h.some_records.1)) c.requires

pub returns-in_err-derive_anew-clause-unchanged : goal.returns-in_err-derive_anew-clause-unchanged
returns-in_err-derive_anew-clause-unchanged g c =
    let old = c.args.self.now.contents in
    let h = c.in_ok-append.ensures in
    at_err c.from_residual-in_err-derive_anew.result (
    c.in_err-derive_anew.ensures.err ∙ first_kept old c.append.new.self c.rows-before.result (due_rows old h.some_records.0) c.rows-before.ensures.rows h.columns h.some_records.1)
